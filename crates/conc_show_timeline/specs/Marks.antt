-- The character of a request in a column.
use Rattle.std.specs.Prelude.{ℕ, Bool, true, false, ◌&&◌, ◌||◌, ◌==◌, nat_le, if◌then◌else◌, List, [], ◌∷◌, Option, None, Some, unwrap_or}
use Rattle.std.specs.List.{find}
use Rattle.std.specs.Option.{option_map_or}
use Rattle.conc_show_timeline.specs.declared.marks.Span.{Span}
use Rattle.conc_show_timeline.specs.declared.marks.Span.TheVariants as span
use Rattle.conc_show_timeline.specs.declared.steps.Deed.{Deed}
use Rattle.conc_show_timeline.specs.declared.steps.Deed.TheVariants as deed
use Rattle.conc_show_timeline.specs.declared.steps.Step.{Step}

abbrev pub begins : Span → Deed → Bool
begins span.Wait deed.Let = true
begins span.Run deed.Start = true
begins span.Set deed.Open = true
begins _ _ = false

abbrev pub ends : Span → Deed → Bool
ends span.Wait deed.Start = true
ends span.Run (deed.Stop letter) = true
ends span.Set (deed.Close letter) = true
ends _ _ = false

-- the column of the first of these steps that ends the span, or the last column
abbrev pub end_column : Span → List Step → ℕ
end_column s later = option_map_or (λ step. step.column) (find (λ step. ends s step.deed) later) 47

-- one of the spans that these steps begin covers the column
abbrev pub covers : Span → ℕ → List Step → Bool
covers s c [] = false
covers s c (step ∷ later) = begins s step.deed && nat_le step.column c && nat_le c (end_column s later) || covers s c later

-- the letter with which the step ends a run or a set
abbrev pub letter_of : Deed → Option ℕ
letter_of (deed.Stop letter) = Some letter
letter_of (deed.Close letter) = Some letter
letter_of _ = None

-- the second letter, if there is one
abbrev pub or_later : Option ℕ → Option ℕ → Option ℕ
or_later before None = before
or_later before (Some letter) = Some letter

-- the letter of the last of these steps that ends something in the column; without one that of the steps before them
abbrev pub last_letter : ℕ → Option ℕ → List Step → Option ℕ
last_letter c before [] = before
last_letter c before (step ∷ later) = last_letter c (if step.column == c then or_later before (letter_of step.deed) else before) later

-- the first that applies: the letter of the last end, = for a run or an open set, . where it waits, or a blank
abbrev pub mark_of : List Step → ℕ → ℕ
mark_of steps c =
    unwrap_or (last_letter c None steps)
    (if covers span.Run c steps || covers span.Set c steps then 61 else if covers span.Wait c steps then 46 else 32)
