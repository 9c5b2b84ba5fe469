use Rattle.std.proofs.Common.{◌≡◌, ◌<◌, ◌≤◌, ◌∙◌, sym, ap, ℕ, ℤ, Option, Some, None, [], get_or, length, to_z, of_z, arith}
use mir.Syntax.{w64}
use Rattle.std.specs.List.{list_all}
use Rattle.std.specs.Option.{option_map}
use Rattle.std.proofs.lemmas.Int.{ints}
use Rattle.conc_base_law.specs.Report.{passes}
use Rattle.conc_reports.specs.Checks.{holds}
use Rattle.conc_reports.specs.Columns.{cell_in, cells_at, place_if_named, row_at, value_in}
use Rattle.conc_reports.specs.Figures.{grown, shown}
use Rattle.conc_reports.specs.Listings.{AddsTo, keys_by}
use Rattle.conc_reports.specs.Sieves.{lets}
use Rattle.conc_reports.specs.Tallies.{value_of}
use Rattle.conc_reports.proofs.Kept.{group-cell}
use Rattle.conc_reports.proofs.SoFar.{so_far-all, so_far-bad, so_far-none, so_far-skips, so_far-small, so_far-takes, so_far-total, within-old}
use Rattle.conc_reports.proofs.listing.list_rows.Goals as goal

pub loop-row-init : goal.loop-row-init
loop-row-init c =
    so_far-none c.args.job.now c.args.argument.now c.args.table.now (keys_by c.args.table.now.rows c.args.numbering) c.in_ok-listed.listed.total c.in_ok-listed.listed.by_number.items
    c.in_ok-listed.ensures.total (c.in_ok-listed.ensures.each ∙ c.number_count.ensures) c.in_ok-listed.ensures.none

pub loop-row-preserved-then-not-all_let : goal.loop-row-preserved-then-not-all_let
loop-row-preserved-then-not-all_let c =
    let job = c.args.job.now in
    let table = c.args.table.now in
    let argument = c.args.argument.now in
    let n = c.loop-row.row in
    let below : n < length table.rows = omega arith in
    let same : c.all_let.result ≡ passes job argument table (row_at table n) =
    c.all_let.ensures ∙ ap (list_all (lets table n)) c.as_slice-in-loop-row.ensures.value ∙ c.in_ok-sieves.ensures.same n below
    ∙ ap (list_all (holds (cells_at table n))) c.as_slice.ensures.value ∙ c.in_ok-conditions.ensures (row_at table n) in
    so_far-skips job argument table (keys_by table.rows c.args.numbering) n c.loop-row.listed.total c.loop-row.listed.by_number.items below (sym same ∙ c.if-not-all_let.true) c.loop-row.invariant

pub returns-in_default : goal.returns-in_default
returns-in_default c =
    let job = c.args.job.now in
    let table = c.args.table.now in
    let argument = c.args.argument.now in
    let n = c.loop-row.row in
    let below : n < length table.rows = omega arith in
    let same : c.all_let.result ≡ passes job argument table (row_at table n) =
    c.all_let.ensures ∙ ap (list_all (lets table n)) c.as_slice-in-loop-row.ensures.value ∙ c.in_ok-sieves.ensures.same n below
    ∙ ap (list_all (holds (cells_at table n))) c.as_slice.ensures.value ∙ c.in_ok-conditions.ensures (row_at table n) in
    let value : value_of job.sum table (row_at table n) ≡ None =
    ap (λ (places : Option (Option ℕ)). value_in places (cells_at table n)) (sym c.place_if_named-sum.ensures) ∙ sym c.kept_value_at.ensures ∙ c.in_default.is in
    so_far-bad job argument table (keys_by table.rows c.args.numbering) n c.loop-row.listed.total c.loop-row.listed.by_number.items below (sym same ∙ c.if-not-all_let.false) value c.loop-row.invariant

pub add-requires-clause-total : goal.add-requires-clause-total
add-requires-clause-total c =
    let table = c.args.table.now in
    let below : c.loop-row.row < length table.rows = omega arith in
    let most = table.few in
    let small = so_far-total c.args.job.now c.args.argument.now table (keys_by table.rows c.args.numbering) c.loop-row.row c.loop-row.listed.total c.loop-row.listed.by_number.items c.loop-row.invariant in
    omega arith

pub add-requires-clause-each : goal.add-requires-clause-each
add-requires-clause-each c =
    let table = c.args.table.now in
    let below : c.loop-row.row < length table.rows = omega arith in
    let most = table.few in
    let small : c.loop-row.row < 9223372036854775808 = omega arith in
    so_far-small c.args.job.now c.args.argument.now table (keys_by table.rows c.args.numbering) c.loop-row.row c.loop-row.listed.total c.loop-row.listed.by_number.items 9223372036854775808 small c.loop-row.invariant

pub add-requires-clause-within : goal.add-requires-clause-within
add-requires-clause-within c =
    let table = c.args.table.now in
    let keys = keys_by table.rows c.args.numbering in
    within-old c.args.job.now c.args.argument.now table keys c.number_at.result (length c.loop-row.listed.by_number.items) (length keys) c.loop-row.invariant.each c.number_at.ensures.within

pub loop-row-preserved : goal.loop-row-preserved
loop-row-preserved c =
    let job = c.args.job.now in
    let table = c.args.table.now in
    let argument = c.args.argument.now in
    let n = c.loop-row.row in
    let cells = cells_at table n in
    let keys = keys_by table.rows c.args.numbering in
    let below : n < length table.rows = omega arith in
    let same : c.all_let.result ≡ passes job argument table (row_at table n) =
    c.all_let.ensures ∙ ap (list_all (lets table n)) c.as_slice-in-loop-row.ensures.value ∙ c.in_ok-sieves.ensures.same n below
    ∙ ap (list_all (holds cells)) c.as_slice.ensures.value ∙ c.in_ok-conditions.ensures (row_at table n) in
    let value : value_of job.sum table (row_at table n) ≡ Some c.in-Some.value =
    ap (λ (places : Option (Option ℕ)). value_in places cells) (sym c.place_if_named-sum.ensures) ∙ sym c.kept_value_at.ensures ∙ c.in-Some.is in
    let key : option_map (λ k. get_or keys k []) c.number_at.result ≡ option_map (λ place. cell_in place cells) (place_if_named table job.group) =
    c.number_at.ensures.key ∙ sym (group-cell table n (place_if_named table job.group) c.args.numbering c.requires.place) in
    let plain : to_z w64 (of_z w64 c.in-Some.value) ≡ c.in-Some.value = omega (arith, ints) in
    let more : shown c.add.new.self.total ≡ grown c.in-Some.value (Some (shown c.loop-row.listed.total)) =
    c.add.ensures.total ∙ ap (λ (v : ℤ). grown v (Some (shown c.loop-row.listed.total))) plain in
    let adds : AddsTo c.number_at.result c.in-Some.value c.loop-row.listed.by_number.items c.add.new.self.by_number.items = rw plain at c.add.ensures.by_number in
    so_far-takes job argument table keys n c.loop-row.listed.total c.add.new.self.total c.loop-row.listed.by_number.items c.add.new.self.by_number.items c.number_at.result c.in-Some.value
    below (sym same ∙ c.if-not-all_let.false) value more adds c.number_at.ensures.within key c.loop-row.invariant

pub returns : goal.returns
returns c =
    let table = c.args.table.now in
    let past : length table.rows ≤ c.loop-row.row = omega arith in
    so_far-all c.args.job.now c.args.argument.now table (keys_by table.rows c.args.numbering) c.loop-row.row c.loop-row.listed past c.loop-row.invariant
