use Rattle.std.proofs.Common.{◌<◌, length, sym, arith}
use Rattle.std.proofs.lemmas.List.Elements.{All-append}
use Rattle.conc_repeat.specs.declared.dues.Due.{Due}
use Rattle.conc_repeat.proofs.DuesPushed.{all_to, more_to, none_to, of_series}
use Rattle.conc_repeat.proofs.dues.all_dues.Goals as goal

pub loop-place-init : goal.loop-place-init
loop-place-init c = (none_to _ _ c.new-dues.ensures.items, rw c.new-dues.ensures.items (λ k d h. absurd (omega arith)))

pub loop-place-preserved : goal.loop-place-preserved
loop-place-preserved c = (
  more_to c.args.all.now c.loop-place.place c.index-all-place.result _ _ c.loop-place-test.true (sym c.index-all-place.is) c.loop-place.invariant.0 c.in_ok-push_dues.ensures,
  rw c.in_ok-push_dues.ensures
      (All-append (λ (due : Due). due.series < length c.args.all.now) _ _ c.loop-place.invariant.1
      (of_series c.loop-place.place (length c.args.all.now) c.index-all-place.result.course c.loop-place-test.true)),
)

pub returns-clause-list : goal.returns-clause-list
returns-clause-list c = all_to c.args.all.now _ _ c.loop-place-test.false c.loop-place.invariant.0
