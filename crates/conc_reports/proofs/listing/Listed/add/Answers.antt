use Rattle.std.proofs.Common.{◌≡◌, ◌<◌, ◌∙◌, ◌+ℤ◌, ap, refl, Some, get_or, length, arith}
use Rattle.std.proofs.lemmas.Int.{ints}
use Rattle.std.proofs.lemmas.List.{get_or_read}
use Rattle.conc_reports.proofs.Growth.{shown-more}
use Rattle.conc_reports.specs.declared.figures.Figures.{Figures}
use Rattle.conc_reports.specs.Figures.{grown, shown}
use Rattle.conc_reports.proofs.listing.Listed.add.Goals as goal

pub returns-in-Some-clause-by_number : goal.returns-in-Some-clause-by_number
returns-in-Some-clause-by_number c =
    let old = c.args.self.now.by_number.items in
    let n = c.in-Some.number in
    let before = c.index.result.now in
    let below : n < length old = rw c.in-Some.is at c.requires.within in
    let here : before ≡ get_or old n c.with.result = get_or_read old n before below c.index.ensures c.with.result in
    let sum : c.with.result.sum ≡ before.sum +ℤ c.args.value = omega (arith, ints) in
    let more : shown c.with.result ≡ grown c.args.value (Some (shown before)) = shown-more before c.with.result c.args.value c.with.ensures.count sum in
    rw c.in-Some.is (c.with.result, more ∙ ap (λ (f : Figures). grown c.args.value (Some (shown f))) here, refl)
