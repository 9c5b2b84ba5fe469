use Rattle.std.proofs.Common.{length, sym, ◌∙◌, ap, refl, arith}
use Rattle.std.proofs.lemmas.List.{length-set}
use Rattle.conc_machine_release.specs.Rivals.{counted_all}
use Rattle.conc_machine_release.proofs.Loops.{counted_all-end, counted_all-next}
use Rattle.conc_machine_release.proofs.rivals.count_all.Goals as goal

pub loop-class-preserved : goal.loop-class-preserved
loop-class-preserved c = (
  ap length c.count_at.ensures ∙ length-set _ _ _ ∙ c.loop-class.invariant.0,
  ap (counted_all _ _) c.count_at.ensures
      ∙ sym (counted_all-next _ c.args.classes.now c.loop-class.counts c.loop-class.class-index _ (omega (arith, c.loop-class-test.true)) refl)
      ∙ c.loop-class.invariant.1,
)

pub returns : goal.returns
returns c = sym (counted_all-end _ c.args.classes.now c.loop-class.counts c.loop-class.class-index (omega (arith, c.loop-class-test.false))) ∙ c.loop-class.invariant.1
