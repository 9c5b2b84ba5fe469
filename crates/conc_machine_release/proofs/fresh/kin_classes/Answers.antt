use Rattle.std.proofs.Common.{◌++◌, ◌∷◌, [], sym, ◌∙◌, ap}
use Rattle.conc_event_classes.specs.Classes.{excludes_kin_at}
use Rattle.conc_machine_release.proofs.Lists.{filter-range_none, filter-range_one}
use Rattle.conc_machine_release.proofs.fresh.kin_classes.Goals as goal
use Rattle.conc_machine_release.proofs.fresh.kin_classes.Goals.{then-excludes_kin+in_ok-push, else-excludes_kin}

pub loop-class-preserved : goal.loop-class-preserved
loop-class-preserved c = elim c.if-excludes_kin.branch [
  | then-excludes_kin+in_ok-push w ↦
      ap (λ v. v.items) w.kin-is
      ∙ w.in_ok-push.ensures.items
      ∙ ap (λ l. l ++ c.loop-class.class ∷ []) c.loop-class.invariant
      ∙ sym (filter-range_one (excludes_kin_at c.args.classes.now) c.loop-class.class (sym c.excludes_kin.ensures ∙ w.if-excludes_kin.true))
  | else-excludes_kin w ↦
      ap (λ v. v.items) w.kin-is
      ∙ c.loop-class.invariant
      ∙ sym (filter-range_none (excludes_kin_at c.args.classes.now) c.loop-class.class (sym c.excludes_kin.ensures ∙ w.if-excludes_kin.false))
]
