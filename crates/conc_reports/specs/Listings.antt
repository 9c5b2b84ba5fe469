-- What one pass over the rows of a table gathers, by the numbers of their keys.
use Rattle.std.specs.Prelude.{◌≡◌, ◌<◌, ℕ, IfSome, ◌+◌, ℤ, ◌+ℤ◌, ◌==◌, if◌then◌else◌, List, [], ◌∷◌, Option, None, Some, get_or, length, map, slice_set}
use Rattle.std.specs.Borrow.{Bor}
use Rattle.std.specs.BTreeMap.{BTreeMap}
use Rattle.std.specs.Option.{option_map}
use Rattle.std.specs.Str.{bytes_eq}
use Rattle.conc_types.specs.declared.kept.Numbering.{Numbering}
use Rattle.conc_types.specs.declared.program.Job.{Job}
use Rattle.conc_types.specs.declared.table.Table.{Table}
use Rattle.conc_types.specs.Kept.{cell_of}
use Rattle.conc_base_law.specs.Report.{first_bad, passing}
use Rattle.conc_reports.specs.declared.figures.Figures.{Figures}
use Rattle.conc_reports.specs.declared.listing.Listed.{Listed}
use Rattle.conc_reports.specs.declared.listing.Listing.{Listing}
use Rattle.conc_reports.specs.declared.listing.Listing.TheVariants as listing
use Rattle.conc_reports.specs.Columns.{place_if_named}
use Rattle.conc_reports.specs.Figures.{figures_at, grown, shown}
use Rattle.conc_reports.specs.Tallies.{IsTally}

-- the key of each number
abbrev pub keys_of : List (List (List ℕ)) → Numbering → List (List ℕ)
keys_of rows numbering = map (λ sample. cell_of rows sample numbering.column) numbering.samples.items

-- the same, if there are numbers
abbrev pub keys_by : List (List (List ℕ)) → Option (Bor Numbering) → List (List ℕ)
keys_by rows None = []
keys_by rows (Some numbering) = keys_of rows numbering.now

-- the figures, if they are those of some row
abbrev pub if_any : ℕ × ℤ → Option (ℕ × ℤ)
if_any figures = if figures.0 == 0 then None else Some figures

-- the figures of these rows and of those
abbrev pub joined : Option (ℕ × ℤ) → Option (ℕ × ℤ) → Option (ℕ × ℤ)
joined None those = those
joined (Some these) None = Some these
joined (Some these) (Some those) = Some (these.0 + those.0, these.1 +ℤ those.1)

-- the figures of a key, by the keys and the figures of the numbers
abbrev pub figures_by : List (List ℕ) → List Figures → List ℕ → Option (ℕ × ℤ)
figures_by [] figures key = None
figures_by (k ∷ ks) [] key = None
figures_by (k ∷ ks) (f ∷ fs) key = joined (if bytes_eq k key then if_any (shown f) else None) (figures_by ks fs key)

-- a map has the figures of each key
abbrev pub StandsFor : List (List ℕ) → List Figures → BTreeMap (Bor (List ℕ)) Figures → Type 0
StandsFor keys figures groups = (key : List ℕ) → figures_at groups key ≡ figures_by keys figures key

-- the figures of a number have one value more, if there is a number
abbrev pub AddsTo : Option ℕ → ℤ → List Figures → List Figures → Type 0
AddsTo None value old new = new ≡ old
AddsTo (Some number) value old new =
    (more : Figures) × (shown more ≡ grown value (Some (shown (get_or old number more)))) × (new ≡ slice_set old number more)

-- the figures of all rows that pass, and of each key among them, where each row has what it is to add
pub record IsWhole (job : Job) (argument : List ℕ) (table : Table) (keys : List (List ℕ)) (listed : Listed) : Type 0 where
  pub each : length listed.by_number.items ≡ length keys
  pub tally : IsTally job.sum job.group table (passing job argument table) (shown listed.total) (figures_by keys listed.by_number.items)

abbrev pub IsListed : Job → List ℕ → Table → List (List ℕ) → Listing → Type 0
IsListed job argument table keys (listing.Bad number) =
    option_map (λ row. row.0) (first_bad job table (passing job argument table)) ≡ Some number
IsListed job argument table keys (listing.Whole listed) = IsWhole job argument table keys listed

-- the numbers are those of the column that the job groups by
abbrev pub AreOfGroup : Job → Table → Option (Bor Numbering) → Type 0
AreOfGroup job table numbering = place_if_named table job.group ≡ option_map (λ (n : Bor Numbering). Some n.now.column) numbering

-- the table has their column
abbrev pub AreOfColumn : Table → Option (Bor Numbering) → Type 0
AreOfColumn table numbering = IfSome numbering (λ (n : Bor Numbering). n.now.column < length table.columns)
