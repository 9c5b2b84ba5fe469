use Rattle.std.proofs.Common.{◌≡◌, ◌<◌, ◌∙◌, ap, sym, ℕ, List, get_or, length}
use Rattle.conc_types.specs.Kept.{cell_of}
use Rattle.conc_reports.specs.Checks.{meets}
use Rattle.conc_reports.specs.Columns.{cell_in, cells_at}
use Rattle.conc_reports.proofs.Kept.{cell-at}
use Rattle.conc_reports.proofs.sieves.sieve_by_numbers.Goals as goal

pub returns-in_ok-verdicts-in-Some : goal.returns-in_ok-verdicts-in-Some
returns-in_ok-verdicts-in-Some c =
    let table = c.args.table.now in
    let condition = c.args.condition in
    let numbering = c.in-Some.numbering.now in
    let stands = c.in-Some.ensures.stands in
    let cell : (row : ℕ) → row < length table.rows → cell_of table.rows (get_or numbering.samples.items (get_or numbering.numbers.items row 0) 0) numbering.column ≡ cell_in condition.place.index (cells_at table row) =
    λ row below. sym (stands.same row below) ∙ ap (λ (column : ℕ). cell_of table.rows row column) c.in-Some.ensures.column ∙ cell-at table row c.args.column condition.place.index c.requires.known in
    record {
      sound = (stands, c.in_ok-verdicts-in-Some.ensures.each);
      same = λ row below. c.in_ok-verdicts-in-Some.ensures.value (get_or numbering.numbers.items row 0) (stands.named row below) ∙ ap (λ (bytes : List ℕ). meets condition.check bytes) (cell row below);
    }
