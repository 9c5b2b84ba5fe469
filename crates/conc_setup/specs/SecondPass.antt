-- The second pass: names that stand twice, which are `Duplicate`.
use Rattle.std.specs.Prelude.{ℕ, ◌+◌, if◌then◌else◌, Bool, not, ◌||◌, List, [], ◌∷◌, ◌++◌, length, map, Option, None, Some, Result}
use Rattle.std.specs.List.{list_any}
use Rattle.std.specs.Option.{option_or}
use Rattle.std.specs.Str.{bytes_eq}
use Rattle.conc_types.specs.declared.kind.RefusalKind.TheVariants as refused
use Rattle.conc_types.specs.Faults.{Fault}
use Rattle.conc_types.specs.Words.{are_distinct}
use Rattle.conc_data_entries.specs.declared.raw.RawSet.{RawSet}
use Rattle.conc_setup.specs.Lines.{unless_fault}
use Rattle.conc_setup.specs.declared.raw.RawSetup.{RawSetup}

-- a name is one of these
abbrev pub is_among : List (List ℕ) → List ℕ → Bool
is_among names name = list_any (bytes_eq name) names

-- the first name that is one of those before it, where the first of these names has the line given
unfoldable pub first_again : ℕ → List (List ℕ) → List (List ℕ) → Option Fault
first_again line before [] = None
first_again line before (name ∷ names) =
    if is_among before name then Some (line, refused.Duplicate) else first_again (line + 1) (before ++ name ∷ []) names

-- the names of a set's stages
abbrev pub stage_names : RawSet → List (List ℕ)
stage_names set = map (λ stage. stage.name) set.stages.list

abbrev pub has_distinct_stages : RawSet → Bool
has_distinct_stages set = are_distinct bytes_eq (stage_names set)

-- a set has the name of a program or of a set before it, or two stages of one name
abbrev pub is_again : List (List ℕ) → List (List ℕ) → RawSet → Bool
is_again programs before set =
    is_among programs set.name || (is_among before set.name || not (has_distinct_stages set))

-- the first set of which this is so, where the first of these sets has the line given
unfoldable pub first_set_again : ℕ → List (List ℕ) → List (List ℕ) → List RawSet → Option Fault
first_set_again line programs before [] = None
first_set_again line programs before (set ∷ sets) =
    if is_again programs before set then Some (line, refused.Duplicate)
    else first_set_again (line + 1) programs (before ++ set.name ∷ []) sets

-- a table that stands twice is on line 0
abbrev pub table_again : List (List ℕ) → Option Fault
table_again tables = if are_distinct bytes_eq tables then None else Some (0, refused.Duplicate)

-- the first line with a name that stands twice
unfoldable pub name_again : RawSetup → Option Fault
name_again raw =
    option_or (table_again raw.tables.list) (
    option_or (first_again 1 [] (map (λ p. p.name) raw.programs)) (
    option_or (first_again (1 + length raw.programs + length raw.entries) [] (map (λ m. m.name) raw.managers))
    (first_set_again (1 + length raw.programs + length raw.entries + length raw.managers) (map (λ p. p.name) raw.programs) [] raw.sets)))

unfoldable pub second_pass : RawSetup → Result RawSetup Fault
second_pass raw = unless_fault (name_again raw) raw
