use Rattle.std.proofs.Common.{◌≡◌, ◌∙◌, ap, refl, Option, Some, None, ◌+ℤ◌, arith}
use Rattle.std.proofs.lemmas.Int.{ints}
use Rattle.std.specs.BTreeMap.{get_by}
use Rattle.std.specs.Cmp.Lexicographic.{slice_cmp}
use Rattle.std.specs.Option.{option_map}
use Rattle.std.specs.Ordering.{nat_cmp}
use Rattle.conc_reports.proofs.Growth.{figures_at-grown, shown-first, shown-more}
use Rattle.conc_reports.specs.declared.figures.Figures.{Figures}
use Rattle.conc_reports.specs.Figures.{figures_at, shown, grown}
use Rattle.conc_reports.proofs.groups.add_to_group.Goals as goal

pub returns-in-Some : goal.returns-in-Some
returns-in-Some c =
    let groups = c.args.groups.now in
    let there : Some c.in-Some.figures.now ≡ get_by (λ k. slice_cmp nat_cmp c.args.key.now k.now) groups = c.in-Some.ensures.value in
    let sum : c.with.result.sum ≡ c.in-Some.figures.now.sum +ℤ c.args.value = omega (arith, ints) in
    let same : shown c.with.result ≡ grown c.args.value (figures_at groups c.args.key.now) =
    shown-more c.in-Some.figures.now c.with.result c.args.value c.with.ensures.count sum
    ∙ ap (λ (before : Option Figures). grown c.args.value (option_map shown before)) there in
    figures_at-grown groups (c.get_mut.follows.lender c.with.result) c.args.key.now c.args.value c.with.result same ((c.get_mut.follows.holds c.with.result).3 (rw (← there) refl))

pub returns-in_ok-insert-in-None : goal.returns-in_ok-insert-in-None
returns-in_ok-insert-in-None c =
    let groups = c.args.groups.now in
    let absent : None ≡ get_by (λ k. slice_cmp nat_cmp c.args.key.now k.now) groups = c.in-None.ensures.value in
    let sum : c.with-in-None.result.sum ≡ c.none.result.sum +ℤ c.args.value = omega (arith, ints) in
    let same : shown c.with-in-None.result ≡ grown c.args.value (figures_at groups c.args.key.now) =
    shown-first c.none.result c.with-in-None.result c.args.value c.none.ensures.count c.none.ensures.sum c.with-in-None.ensures.count sum
    ∙ ap (λ (before : Option Figures). grown c.args.value (option_map shown before)) absent in
    let updates = rw c.get_mut.follows.holds-at-none at c.in_ok-insert-in-None.ensures.updates in
    figures_at-grown groups c.insert.new.self c.args.key.now c.args.value c.with-in-None.result same updates
