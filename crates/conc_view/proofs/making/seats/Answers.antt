use Rattle.std.proofs.Common.{◌≡◌, ◌∷◌, ◌++◌, ◌∙◌, arith, []}
use Rattle.std.proofs.lemmas.List.Elements.{All-push, All-same}
use Rattle.conc_view.specs.Views.{HasSeen}
use Rattle.conc_view.proofs.making.seats.Goals as goal

pub loop-place-preserved : goal.loop-place-preserved
loop-place-preserved g c =
    let all = c.loop-place.invariant in
    let seen : HasSeen c.args.plan.now c.args.events.now c.over.result =
    (c.over.ensures.plan ∙ c.in-Ok.ensures.plan, c.over.ensures.seen ∙ (rw c.shown.ensures at c.again-reached.ensures) ∙ c.requires.shown) in
    let items : c.push.new.self.items ≡ c.loop-place.seated.items ++ c.over.result ∷ [] = c.in_ok-push.ensures.items in (
      omega (arith, c.in_ok-push.ensures.len, all.0),
      All-same (HasSeen c.args.plan.now c.args.events.now) c.push.new.self.items (c.loop-place.seated.items ++ c.over.result ∷ []) items
          (All-push (HasSeen c.args.plan.now c.args.events.now) c.loop-place.seated.items c.over.result all.1 seen),
      c.in_ok-bound.ensures.same ∙ all.2,
    )
