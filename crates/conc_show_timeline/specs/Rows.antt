-- The row of a request.
use Rattle.std.specs.Prelude.{ℕ, ◌-◌, Bool, if◌then◌else◌, ◌==◌, ◌||◌, List, [], ◌∷◌, ◌++◌, codes, length}
use Rattle.std.specs.Fmt.{decimal}
use Rattle.conc_types.specs.declared.event.Event.{Event}
use Rattle.conc_show_model.specs.declared.model.Row.{Row}
use Rattle.conc_show_model.specs.Words.{state_text}
use Rattle.conc_show_timeline.specs.Columns.{over_columns}
use Rattle.conc_show_timeline.specs.Marks.{mark_of}
use Rattle.conc_show_timeline.specs.Names.{blanks, cell}
use Rattle.conc_show_timeline.specs.Steps.{steps_from}
use Rattle.conc_show_timeline.specs.declared.steps.Step.{Step}

-- the number, right-aligned in five columns
unfoldable pub number_text : ℕ → List ℕ
number_text n = blanks (5 - length (decimal n)) ++ decimal n

-- the number, a blank and the name, in 28 columns
unfoldable pub label_text : Row → List ℕ
label_text row = let number = number_text row.request.number in number ++ codes " " ++ cell (27 - length number) row.name

-- red for E, T and !, yellow for W, and green for N
abbrev pub paint_of : ℕ → List ℕ
paint_of mark =
    if mark == 69 || mark == 84 || mark == 33 then codes "\u{1b}[31m"
    else if mark == 87 then codes "\u{1b}[33m"
    else if mark == 78 then codes "\u{1b}[32m"
    else []

abbrev pub paint_end : ℕ → List ℕ
paint_end mark = if mark == 69 || mark == 84 || mark == 33 || mark == 87 || mark == 78 then codes "\u{1b}[0m" else []

abbrev pub mark_text : Bool → ℕ → List ℕ
mark_text colours mark = if colours then paint_of mark ++ mark ∷ paint_end mark else mark ∷ []

-- the characters of all columns
abbrev pub marks_text : Bool → List Step → List ℕ
marks_text colours steps = over_columns (λ c. mark_text colours (mark_of steps c))

-- the line of a request
unfoldable pub row_text : Bool → List Event → Row → List ℕ
row_text colours events row =
    label_text row ++ codes " " ++ marks_text colours (steps_from row.request (length events) 0 events) ++ codes " "
    ++ state_text row.phase row.status ++ codes "\n"
