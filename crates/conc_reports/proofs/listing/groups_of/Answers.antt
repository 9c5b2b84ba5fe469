use Rattle.std.proofs.Common.{◌≡◌, ◌<◌, ◌∙◌, ◌==◌, ap, sym, true, false, None, [], get_or, length, arith}
use Rattle.std.proofs.lemmas.Bool.Decides.{nat_tests}
use Rattle.std.proofs.lemmas.List.{length-map}
use Rattle.std.specs.Option.{option_map}
use Rattle.conc_types.specs.Kept.{cell_of}
use Rattle.conc_reports.specs.Figures.{figures_at, shown}
use Rattle.conc_reports.specs.Listings.{keys_of}
use Rattle.conc_reports.proofs.Kept.{key-sample}
use Rattle.conc_reports.proofs.Listings.{StandsFor-more, StandsFor-skips, no-some}
use Rattle.conc_reports.proofs.listing.groups_of.Goals as goal

pub loop-number-preserved-then-figures-eq0 : goal.loop-number-preserved-then-figures-eq0
loop-number-preserved-then-figures-eq0 c =
    let numbering = c.args.numbering.now in
    let keys = keys_of c.args.table.now.rows numbering in
    let many : length keys ≡ length numbering.samples.items = length-map numbering.samples.items (λ sample. cell_of c.args.table.now.rows sample numbering.column) in
    let below : c.loop-number.number < length keys = omega arith in
    let each : length c.args.by_number.now ≡ length keys = omega arith in
    let none : (c.index-by_number-number.result.count == 0) ≡ true = grind (arith, nat_tests) in
    StandsFor-skips keys c.args.by_number.now c.loop-number.number c.index-by_number-number.result c.loop-number.groups below each c.index-by_number-number.is none c.loop-number.invariant

pub loop-number-preserved : goal.loop-number-preserved
loop-number-preserved c =
    let numbering = c.args.numbering.now in
    let rows = c.args.table.now.rows in
    let keys = keys_of rows numbering in
    let n = c.loop-number.number in
    let key = c.cell-key.result.now in
    let many : length keys ≡ length numbering.samples.items = length-map numbering.samples.items (λ sample. cell_of rows sample numbering.column) in
    let below : n < length keys = omega arith in
    let each : length c.args.by_number.now ≡ length keys = omega arith in
    let some : (c.index-by_number-number.result.count == 0) ≡ false = grind (arith, nat_tests) in
    let named : get_or keys n [] ≡ key = key-sample rows numbering n c.index.result.now (omega arith) c.index.ensures ∙ sym c.cell-key.ensures in
    let none = no-some _ _ c.is_some.ensures c.if-is_some.false in
    let absent : figures_at c.loop-number.groups key ≡ None = ap (option_map shown) (sym c.in_ok-insert.ensures.old ∙ none) in
    StandsFor-more keys c.args.by_number.now n key c.index-by_number-number.result c.loop-number.groups c.insert.new.self below each named c.index-by_number-number.is some c.loop-number.invariant absent
    c.in_ok-insert.ensures.updates
