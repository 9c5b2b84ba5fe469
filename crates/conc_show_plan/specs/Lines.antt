-- A line of the listing of a plan.
use Rattle.std.specs.Prelude.{ℕ, Bool, ◌&&◌, ◌==◌, if◌then◌else◌, List, [], ◌∷◌, Option, None, Some, is_some}
use Rattle.std.specs.List.{slice_split}
use Rattle.std.specs.Option.{option_and_then}
use Rattle.conc_types.specs.declared.event.RequestId.{RequestId}
use Rattle.conc_types.specs.Decimals.{decimal_value}
use Rattle.conc_types.specs.Texts.{is_name}
use Rattle.conc_types.specs.Words.{is_between, some_and}
use Rattle.conc_base_law.specs.Calendar.{moment_of}
use Rattle.conc_history_lines.specs.Numbers.{number_of}

-- one tab stands between two fields
abbrev pub fields_of : List ℕ → List (List ℕ)
fields_of line = slice_split (λ byte. byte == 9) line

-- ---- the fields

unfoldable pub is_numbered : ℕ → List ℕ → Bool
is_numbered number word = some_and (λ value. value == number) (number_of word)

unfoldable pub is_priority : List ℕ → Bool
is_priority word = some_and (is_between 1 99) (decimal_value word)

unfoldable pub is_moment : List ℕ → Bool
is_moment word = is_some (moment_of word)

-- the request of a member's set, by the numbers of its set and of its stage; or that it has no set, where both are 0
abbrev pub set_numbered : ℕ → ℕ → Option (Option RequestId)
set_numbered set stage =
    if set == 0 then (if stage == 0 then Some None else None)
    else (if stage == 0 then None else Some (Some (record { number = set })))

unfoldable pub set_of : List ℕ → List ℕ → Option (Option RequestId)
set_of set stage = option_and_then (λ s. option_and_then (set_numbered s) (number_of stage)) (number_of set)

-- ---- the line

-- the fields other than set and stage have their form
abbrev pub are_formed : ℕ → List ℕ → List ℕ → List ℕ → List ℕ → List ℕ → List ℕ → Bool
are_formed n number priority start domain user name =
    is_numbered n number && (is_priority priority && (is_moment start && (is_name domain && (is_name user && is_name name))))

abbrev pub line_of_fields : ℕ → List (List ℕ) → Option (Option RequestId)
line_of_fields n (number ∷ priority ∷ start ∷ set ∷ stage ∷ domain ∷ user ∷ name ∷ []) =
    if are_formed n number priority start domain user name then set_of set stage else None
line_of_fields n _ = None

-- the request of the set of the request of a line without its LF, or that it has none, if the line is the one with this number
unfoldable pub plan_line : ℕ → List ℕ → Option (Option RequestId)
plan_line n line = line_of_fields n (fields_of line)
