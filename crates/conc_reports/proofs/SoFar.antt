-- One pass over the rows by numbers, row after row.
use Rattle.std.proofs.Common.{◌≡◌, ◌∙◌, sym, ap, ℕ, ◌+◌, ◌<◌, ◌≤◌, ℤ, pos, arith, true, false, List, [], Option, None, Some, get_or, length}
use Rattle.std.specs.List.{All}
use Rattle.std.specs.Option.{IfSome, is_none, option_map}
use Rattle.std.proofs.lemmas.List.Elements.{All-weaker}
use Rattle.conc_types.specs.declared.program.Job.{Job}
use Rattle.conc_types.specs.declared.table.Table.{Table}
use Rattle.conc_base_law.specs.Report.{Row, first_bad, passes, passing}
use Rattle.conc_reports.specs.declared.figures.Figures.{Figures}
use Rattle.conc_reports.specs.declared.listing.Listed.{Listed}
use Rattle.conc_reports.specs.Columns.{cell_in, cells_at, place_if_named, row_at}
use Rattle.conc_reports.specs.Figures.{grown, grown_at, shown}
use Rattle.conc_reports.specs.Listings.{AddsTo, IsWhole, figures_by}
use Rattle.conc_reports.specs.Tallies.{IsTally, passing_below, value_of}
use Rattle.conc_reports.proofs.Listings.{few-add, figures_by-add, figures_by-none, length-add}
use Rattle.conc_reports.proofs.Passing.{IsTally-none, IsTally-push, few, first_bad-find, first_bad-here, passing_below-all, passing_below-skips, passing_below-takes}

-- the figures of the rows below a number that pass, and of each key among them
pub record IsSoFar (job : Job) (argument : List ℕ) (table : Table) (keys : List (List ℕ)) (n : ℕ) (all : Figures) (by_number : List Figures) : Type 0 where
  pub tally : IsTally job.sum job.group table (passing_below job argument table n) (shown all) (figures_by keys by_number)
  pub each : length by_number ≡ length keys
  pub small : All (λ (f : Figures). f.count ≤ n) by_number

module _ (job : Job) (argument : List ℕ) (table : Table) (keys : List (List ℕ)) where
  pub so_far-none : (all : Figures) (by_number : List Figures) → shown all ≡ (0, pos 0) → length by_number ≡ length keys → All (λ (f : Figures). f.count ≡ 0) by_number → IsSoFar job argument table keys 0 all by_number
  so_far-none all by_number none each zeros = record {
    tally = IsTally-none job.sum table job.group (shown all) (figures_by keys by_number) none (λ key. figures_by-none keys by_number key zeros);
    each = each;
    small = All-weaker (λ (f : Figures). f.count ≡ 0) (λ (f : Figures). f.count ≤ 0) (λ f e. omega arith) by_number zeros;
  }

  pub so_far-skips : (n : ℕ) (all : Figures) (by_number : List Figures) → n < length table.rows → passes job argument table (row_at table n) ≡ false → IsSoFar job argument table keys n all by_number → IsSoFar job argument table keys (n + 1) all by_number
  so_far-skips n all by_number below fails h = record {
    tally = rw (passing_below-skips job argument table n below fails) h.tally;
    each = h.each;
    small = All-weaker (λ (f : Figures). f.count ≤ n) (λ (f : Figures). f.count ≤ n + 1) (λ f e. omega arith) by_number h.small;
  }

  pub within-old : (number : Option ℕ) (size more : ℕ) → size ≡ more → IfSome number (λ k. k < more) → IfSome number (λ k. k < size)
  within-old None size more e h = tt
  within-old (Some k) size more e h = omega arith

  pub so_far-takes : (n : ℕ) (all more : Figures) (by_number more_by : List Figures) (number : Option ℕ) (value : ℤ) → n < length table.rows → passes job argument table (row_at table n) ≡ true
      → value_of job.sum table (row_at table n) ≡ Some value → shown more ≡ grown value (Some (shown all)) → AddsTo number value by_number more_by
      → IfSome number (λ k. k < length keys)
      → option_map (λ k. get_or keys k []) number ≡ option_map (λ place. cell_in place (cells_at table n)) (place_if_named table job.group)
      → IsSoFar job argument table keys n all by_number → IsSoFar job argument table keys (n + 1) more more_by
  so_far-takes n all more by_number more_by number value below holds is total adds within key h = record {
    tally = rw (passing_below-takes job argument table n below holds) (
        IsTally-push job.sum table job.group (passing_below job argument table n) (row_at table n) value (shown all) (shown more) (figures_by keys by_number) (figures_by keys more_by) h.tally is total
        (λ q. figures_by-add keys number value by_number more_by adds within h.each q ∙ ap (λ (at : Option (List ℕ)). grown_at at value (figures_by keys by_number) q) key));
    each = length-add number value by_number more_by adds ∙ h.each;
    small = few-add number value by_number more_by n adds (within-old number (length by_number) (length keys) h.each within) h.small;
  }

  pub so_far-bad : (n : ℕ) (all : Figures) (by_number : List Figures) → n < length table.rows → passes job argument table (row_at table n) ≡ true
      → value_of job.sum table (row_at table n) ≡ None → IsSoFar job argument table keys n all by_number → option_map (λ row. row.0) (first_bad job table (passing job argument table)) ≡ Some (n + 1)
  so_far-bad n all by_number below holds is h =
      let bad = first_bad-here job argument table n below holds h.tally.none_bad (ap is_none is) in
      ap (option_map (λ (row : Row). row.0)) (first_bad-find job table (passing job argument table) ∙ bad)

  pub so_far-all : (n : ℕ) (listed : Listed) → length table.rows ≤ n → IsSoFar job argument table keys n listed.total listed.by_number.items → IsWhole job argument table keys listed
  so_far-all n listed past h = record {
    each = h.each;
    tally = rw (sym (passing_below-all job argument table n past)) h.tally;
  }

  -- the counts are small
  pub so_far-total : (n : ℕ) (all : Figures) (by_number : List Figures) → IsSoFar job argument table keys n all by_number → all.count ≤ n
  so_far-total n all by_number h =
      let count = ap (λ (f : ℕ × ℤ). f.0) h.tally.all_are in
      omega (arith, few job argument table n)

  pub so_far-small : (n : ℕ) (all : Figures) (by_number : List Figures) (most : ℕ) → n < most → IsSoFar job argument table keys n all by_number → All (λ (f : Figures). f.count < most) by_number
  so_far-small n all by_number most below h = All-weaker (λ (f : Figures). f.count ≤ n) (λ (f : Figures). f.count < most) (λ f e. omega arith) by_number h.small
