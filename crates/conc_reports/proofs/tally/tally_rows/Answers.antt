use Rattle.std.proofs.Common.{◌≡◌, ◌<◌, ◌≤◌, ◌∙◌, sym, ap, ℕ, ℤ, List, Option, Some, None, length, to_z, of_z, arith}
use mir.Syntax.{w64}
use Rattle.std.specs.Borrow.{Bor}
use Rattle.std.specs.List.{list_all}
use Rattle.std.specs.Option.{is_none, option_map}
use Rattle.std.proofs.lemmas.Int.{ints}
use Rattle.conc_base_law.specs.Report.{Row, passes, passing}
use Rattle.conc_reports.specs.Checks.{holds}
use Rattle.conc_reports.specs.Columns.{cell_in, cells_at, place_if_named, row_at, value_in}
use Rattle.conc_reports.specs.Figures.{figures_at, grown, grown_at, shown}
use Rattle.conc_reports.specs.Tallies.{passing_below, value_of}
use Rattle.conc_reports.proofs.Passing.{IsTally-none, IsTally-push, at-index, few, first_bad-find, first_bad-here, key-few, of_key-few, passing_below-all, passing_below-skips, passing_below-takes}
use Rattle.conc_reports.proofs.tally.tally_rows.Goals as goal

pub loop-row-init : goal.loop-row-init
loop-row-init c =
    IsTally-none c.args.job.now.sum c.args.table.now c.args.job.now.group _ _ c.none-tally.ensures.total c.none-tally.ensures.groups

pub loop-row-preserved-then-not-passes : goal.loop-row-preserved-then-not-passes
loop-row-preserved-then-not-passes c =
    let job = c.args.job.now in
    let table = c.args.table.now in
    let argument = c.args.argument.now in
    let n = c.loop-row.row in
    let below : n < length table.rows = omega arith in
    let same : c.passes.result ≡ passes job argument table (row_at table n) =
    c.passes.ensures ∙ ap (list_all (holds (cells_at table n))) c.as_slice.ensures.value ∙ c.in_ok-conditions.ensures (row_at table n) in
    rw (passing_below-skips job argument table n below (sym same ∙ c.if-not-passes.true)) c.loop-row.invariant

pub returns-in_default : goal.returns-in_default
returns-in_default c =
    let job = c.args.job.now in
    let table = c.args.table.now in
    let argument = c.args.argument.now in
    let n = c.loop-row.row in
    let below : n < length table.rows = omega arith in
    let same : c.passes.result ≡ passes job argument table (row_at table n) =
    c.passes.ensures ∙ ap (list_all (holds (cells_at table n))) c.as_slice.ensures.value ∙ c.in_ok-conditions.ensures (row_at table n) in
    let value : value_of job.sum table (row_at table n) ≡ None =
    ap (λ (places : Option (Option ℕ)). value_in places (cells_at table n)) (sym c.place_if_named-sum.ensures) ∙ sym c.value_at.ensures ∙ c.in_default.is in
    let bad = first_bad-here job argument table n below (sym same ∙ c.if-not-passes.false) c.loop-row.invariant.none_bad (ap is_none value) in
    ap (option_map (λ (row : Row). row.0)) (first_bad-find job table (passing job argument table) ∙ bad)

pub add-requires-clause-total : goal.add-requires-clause-total
add-requires-clause-total c =
    let table = c.args.table.now in
    let below : c.loop-row.row < length table.rows = omega arith in
    let small = few c.args.job.now c.args.argument.now table c.loop-row.row in
    let most = table.few in
    let count = ap (λ (f : ℕ × ℤ). f.0) c.loop-row.invariant.all_are in
    omega arith

pub add-requires-clause-group : goal.add-requires-clause-group
add-requires-clause-group c =
    let job = c.args.job.now in
    let table = c.args.table.now in
    let n = c.loop-row.row in
    let rows = passing_below job c.args.argument.now table n in
    let below : n < length table.rows = omega arith in
    let most = table.few in
    let small : length rows < 9223372036854775808 = omega (arith, few job c.args.argument.now table n) in
    key-few c.key_at.result (figures_at c.loop-row.tally.groups) 9223372036854775808
    (λ k. rw (c.loop-row.invariant.keys_are k) (of_key-few job.sum table job.group rows 9223372036854775808 k small))

pub loop-row-preserved : goal.loop-row-preserved
loop-row-preserved c =
    let job = c.args.job.now in
    let table = c.args.table.now in
    let argument = c.args.argument.now in
    let n = c.loop-row.row in
    let cells = cells_at table n in
    let below : n < length table.rows = omega arith in
    let same : c.passes.result ≡ passes job argument table (row_at table n) =
    c.passes.ensures ∙ ap (list_all (holds cells)) c.as_slice.ensures.value ∙ c.in_ok-conditions.ensures (row_at table n) in
    let value : value_of job.sum table (row_at table n) ≡ Some c.in-Some.value =
    ap (λ (places : Option (Option ℕ)). value_in places cells) (sym c.place_if_named-sum.ensures) ∙ sym c.value_at.ensures ∙ c.in-Some.is in
    let key : option_map (λ (q : Bor (List ℕ)). q.now) c.key_at.result ≡ option_map (λ place. cell_in place cells) (place_if_named table job.group) =
    c.key_at.ensures ∙ at-index c.place_if_named-group.result (λ place. cell_in place cells) ∙ ap (option_map (λ place. cell_in place cells)) c.place_if_named-group.ensures in
    let plain : to_z w64 (of_z w64 c.in-Some.value) ≡ c.in-Some.value = omega (arith, ints) in
    let more : shown c.add.new.self.total ≡ grown c.in-Some.value (Some (shown c.loop-row.tally.total)) =
    c.in_ok-add.ensures.total ∙ ap (λ (v : ℤ). grown v (Some (shown c.loop-row.tally.total))) plain in
    let groups : (k : List ℕ) → figures_at c.add.new.self.groups k ≡ grown_at (option_map (λ (q : Bor (List ℕ)). q.now) c.key_at.result) c.in-Some.value (figures_at c.loop-row.tally.groups) k =
    λ k. c.in_ok-add.ensures.groups k ∙ ap (λ (v : ℤ). grown_at (option_map (λ (q : Bor (List ℕ)). q.now) c.key_at.result) v (figures_at c.loop-row.tally.groups) k) plain in
    rw (passing_below-takes job argument table n below (sym same ∙ c.if-not-passes.false))
    (IsTally-push job.sum table job.group (passing_below job argument table n) (row_at table n) c.in-Some.value _ _ _ _ c.loop-row.invariant value more
    (λ k. groups k ∙ ap (λ (at : Option (List ℕ)). grown_at at c.in-Some.value (figures_at c.loop-row.tally.groups) k) key))

pub returns : goal.returns
returns c =
    let past : length c.args.table.now.rows ≤ c.loop-row.row = omega arith in
    rw (← passing_below-all c.args.job.now c.args.argument.now c.args.table.now c.loop-row.row past) c.loop-row.invariant
