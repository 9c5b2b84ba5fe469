use Rattle.std.proofs.Common.{◌≡◌, ◌<◌, ◌∙◌, ap, sym, ℕ, List, length}
use Rattle.conc_types.specs.Kept.{cell_of}
use Rattle.conc_base_law.specs.Numbers.{whole_number}
use Rattle.conc_reports.specs.Checks.{is_less, meets}
use Rattle.conc_reports.specs.Columns.{cell_in, cells_at}
use Rattle.conc_reports.specs.declared.filters.Check.{Check}
use Rattle.conc_reports.proofs.Kept.{cell-at}
use Rattle.conc_reports.proofs.sieves.sieve_at_column.Goals as goal

pub returns-in-Above : goal.returns-in-Above
returns-in-Above c =
    let table = c.args.table.now in
    let condition = c.args.condition in
    let column = c.in-Some.amounts.now.column in
    let cell : (row : ℕ) → cell_of table.rows row column ≡ cell_in condition.place.index (cells_at table row) =
    λ row. ap (λ (k : ℕ). cell_of table.rows row k) c.in-Some.ensures.column ∙ cell-at table row c.args.column condition.place.index c.requires.known in
    let within : column < length table.columns = rw c.in-Some.ensures.column c.requires.within in
    record {
      sound = (c.in-Some.ensures.stand, within);
      same = λ row below. ap (λ (bytes : List ℕ). is_less c.in-Above.bound (whole_number bytes)) (cell row) ∙ ap (λ (check : Check). meets check (cell_in condition.place.index (cells_at table row))) (sym c.in-Above.is);
    }

pub returns-in-Below : goal.returns-in-Below
returns-in-Below c =
    let table = c.args.table.now in
    let condition = c.args.condition in
    let column = c.in-Some.amounts.now.column in
    let cell : (row : ℕ) → cell_of table.rows row column ≡ cell_in condition.place.index (cells_at table row) =
    λ row. ap (λ (k : ℕ). cell_of table.rows row k) c.in-Some.ensures.column ∙ cell-at table row c.args.column condition.place.index c.requires.known in
    let within : column < length table.columns = rw c.in-Some.ensures.column c.requires.within in
    record {
      sound = (c.in-Some.ensures.stand, within);
      same = λ row below. ap (λ (bytes : List ℕ). is_less (whole_number bytes) c.in-Below.bound) (cell row) ∙ ap (λ (check : Check). meets check (cell_in condition.place.index (cells_at table row))) (sym c.in-Below.is);
    }
