use Rattle.std.proofs.Common.{◌≡◌, ◌<◌, ◌∙◌, ℕ, List, length, IsTrue, ap, subst, sym, arith}
use Rattle.conc_edge_devices.specs.Trace.{act_fits, ActLeaves, after_act}
use Rattle.conc_edge_devices.proofs.Walk.{after-more, fit-here, leaves-more}
use Rattle.conc_edge_devices.proofs.tear.image_after.Goals as goal

pub apply-requires : goal.apply-requires
apply-requires c =
    let x = c.change-item.result in
    let within : c.loop-change.change-index < length c.args.changes.now = omega arith in
    subst (λ (l : List ℕ). IsTrue (act_fits x.act l)) (sym c.loop-change.invariant.seen)
    (fit-here c.args.changes.now c.loop-change.change-index x c.args.start.now within c.change-item.is c.requires)

pub loop-change-preserved : goal.loop-change-preserved
loop-change-preserved c =
    let x = c.change-item.result in
    let xs = c.args.changes.now in
    let start = c.args.start.now in
    let within : c.loop-change.change-index < length xs = omega arith in
    let seen : c.deref.result.now ≡ c.loop-change.seen.items = c.deref.ensures.value in
    let fits = fit-here xs c.loop-change.change-index x start within c.change-item.is c.requires in
    record {
      seen = c.in_ok-apply.ensures ∙ ap (after_act x.act) c.loop-change.invariant.seen ∙ sym (after-more xs c.loop-change.change-index x start within c.change-item.is);
      image = leaves-more xs c.loop-change.change-index x start within c.change-item.is start c.loop-change.image.items c.tear.new.image.items
          c.loop-change.invariant.image
          (subst (λ (l : List ℕ). ActLeaves x.act l c.loop-change.image.items c.tear.new.image.items) (seen ∙ c.loop-change.invariant.seen) c.in_ok-tear.ensures.left);
      all = λ one.
          c.in_ok-tear.ensures.all one (c.loop-change.invariant.all one ∙ sym seen) (subst (λ (l : List ℕ). IsTrue (act_fits x.act l)) (sym (seen ∙ c.loop-change.invariant.seen)) fits)
          ∙ ap (after_act x.act) seen
          ∙ sym c.in_ok-apply.ensures;
    }
