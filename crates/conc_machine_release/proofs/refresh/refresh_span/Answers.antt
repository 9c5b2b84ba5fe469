use Rattle.std.proofs.Common.{get_or, length, map, sym, ◌∙◌, ap, arith, refl}
use Rattle.std.proofs.lemmas.Option.{slice_get_read}
use Rattle.conc_event_classes.specs.Classes.{class_at, slot_at}
use Rattle.conc_event_queue.proofs.Maps.{request_at_place}
use Rattle.conc_machine_release.specs.Refresh.{key, refreshed_all}
use Rattle.conc_machine_release.proofs.Loops.{refreshed_all-next, refreshed_all-none}
use Rattle.conc_machine_release.proofs.Slots.{HaveSlots-put_in}
use Rattle.conc_machine_release.proofs.refresh.refresh_span.Goals as goal

pub refresh_request-requires-clause-known : goal.refresh_request-requires-clause-known
refresh_request-requires-clause-known c =
    let at = slice_get_read c.args.plan.now.requests (length c.args.plan.now.requests) c.loop-i.i c.index-requests-i.result refl
    (omega (arith, c.loop-i-test.true, c.requires.inside))
    (c.index-requests-i.is ∙ ap (λ l. get_or l c.loop-i.i c.index-requests-i.result) c.as_slice-requests.ensures) in
    (request_at_place c.args.plan.now c.loop-i.i c.index-requests-i.result at).1

pub loop-i-preserved : goal.loop-i-preserved
loop-i-preserved c =
    let plan = c.args.plan.now in
    let classes = c.args.classes.now in
    let r = c.index-requests-i.result in
    let at = slice_get_read plan.requests (length plan.requests) c.loop-i.i r refl
    (omega (arith, c.loop-i-test.true, c.requires.inside))
    (c.index-requests-i.is ∙ ap (λ l. get_or l c.loop-i.i c.index-requests-i.result) c.as_slice-requests.ensures) in (
      ap (map length) c.refresh_request.ensures
          ∙ HaveSlots-put_in classes c.loop-i.queues.items (class_at classes r) (slot_at classes r) (key plan c.args.state.now r) c.loop-i.invariant.0,
      ap (refreshed_all _ _ _ _) c.refresh_request.ensures
          ∙ sym (refreshed_all-next plan classes c.args.state.now c.loop-i.i c.args.span.to r c.loop-i.queues.items (omega (arith, c.loop-i-test.true)) at)
          ∙ c.loop-i.invariant.1,
    )

pub returns : goal.returns
returns c =
    sym (refreshed_all-none c.args.plan.now c.args.classes.now c.args.state.now c.loop-i.i c.args.span.to c.loop-i.queues.items (omega (arith, c.loop-i-test.false)))
    ∙ c.loop-i.invariant.1
