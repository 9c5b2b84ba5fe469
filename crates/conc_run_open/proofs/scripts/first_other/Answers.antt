use Rattle.std.proofs.Common.{◌≡◌, ◌+◌, Some, refl, sym, ◌∙◌, ap, subst, get_or}
use Rattle.std.specs.Prelude.{slice_get}
use Rattle.std.proofs.lemmas.Option.{slice_get_read, slice_get-get_or}
use Rattle.conc_types.specs.declared.event.Event.{Event}
use Rattle.conc_types.specs.declared.event.Event.TheVariants as event
use Rattle.conc_run_open.proofs.Scripting.{AreSame, has-other, same-all, same-more, same-passed, same-within, tested-other, tested-same}
use Rattle.conc_run_open.proofs.scripts.first_other.Goals as goal
use Rattle.conc_run_open.proofs.scripts.first_other.Goals.{in-Command+else-ne, in_default}

pub loop-event-init : goal.loop-event-init
loop-event-init c = record { counted = refl; same = refl }

pub bounds-stamps-number : goal.bounds-stamps-number
bounds-stamps-number c =
    let events = c.args.events.now in
    let i = c.loop-event.event-index in
    let here : slice_get events i ≡ Some (event.Command c.in-Command.command) = slice_get_read events _ i c.event-item.result refl c.loop-event-test.true c.event-item.is ∙ ap (λ (e : Event). Some e) c.in-Command.is in
    same-within events c.args.stamps.now i c.in-Command.command c.loop-event.number c.requires here c.loop-event.invariant.counted

pub returns-then-ne : goal.returns-then-ne
returns-then-ne c =
    let events = c.args.events.now in
    let stamps = c.args.stamps.now in
    let i = c.loop-event.event-index in
    let n = c.loop-event.number in
    let so_far = c.loop-event.invariant in
    let here : slice_get events i ≡ Some (event.Command c.in-Command.command) = slice_get_read events _ i c.event-item.result refl c.loop-event-test.true c.event-item.is ∙ ap (λ (e : Event). Some e) c.in-Command.is in
    let below = same-within events stamps i c.in-Command.command n c.requires here so_far.counted in
    has-other c.args.plan.now events stamps i c.in-Command.command n (get_or stamps n 0) c.unwrap_or.result here (slice_get-get_or stamps n 0 below)
    (c.unwrap_or.ensures ∙ cc) (λ is. tested-other c.stamp-given.result (get_or stamps n 0) (sym c.ne.ensures ∙ c.if-ne.true) (c.stamp-given.ensures ∙ is)) so_far

pub loop-event-preserved : goal.loop-event-preserved
loop-event-preserved c =
    let plan = c.args.plan.now in
    let events = c.args.events.now in
    let stamps = c.args.stamps.now in
    let i = c.loop-event.event-index in
    let n = c.loop-event.number in
    let so_far = c.loop-event.invariant in
    let item : slice_get events i ≡ Some c.event-item.result = slice_get_read events _ i c.event-item.result refl c.loop-event-test.true c.event-item.is in
    elim c.match-event.branch [
      | in-Command+else-ne w ↦
          let here : slice_get events i ≡ Some (event.Command w.in-Command.command) = item ∙ ap (λ (e : Event). Some e) w.in-Command.is in
          let below = same-within events stamps i w.in-Command.command n c.requires here so_far.counted in
          subst (AreSame plan events stamps (i + 1)) (sym w.number-is)
          (same-more plan events stamps i w.in-Command.command n (get_or stamps n 0) here (slice_get-get_or stamps n 0 below) (sym w.stamp-given.ensures ∙ tested-same w.stamp-given.result (get_or stamps n 0) (sym w.ne.ensures ∙ w.if-ne.false)) so_far)
      | in_default w ↦ subst (AreSame plan events stamps (i + 1)) (sym w.number-is) (same-passed plan events stamps i n c.event-item.result item w.in_default.not-Command so_far)
    ]

pub returns : goal.returns
returns c = same-all c.args.plan.now c.args.events.now c.args.stamps.now c.loop-event.event-index c.loop-event.number c.loop-event-test.false c.requires c.loop-event.invariant
