-- The listing of a plan, line by line.
use Rattle.std.specs.Prelude.{ℕ, ◌+◌, Bool, if◌then◌else◌, List, [], ◌∷◌, Option, None, Some}
use Rattle.std.specs.Option.{option_map, option_map_or}
use Rattle.conc_types.specs.declared.event.RequestId.{RequestId}
use Rattle.conc_history_lines.specs.History.{whole_lines}
use Rattle.conc_show_model.specs.declared.fail.ChartFile.TheVariants as file
use Rattle.conc_show_model.specs.declared.fail.ChartRefusal.{ChartRefusal}
use Rattle.conc_show_model.specs.declared.fail.ChartWhy.TheVariants as why
use Rattle.conc_show_model.specs.Rows.{is_whole}
use Rattle.conc_show_plan.specs.Lines.{plan_line}

-- the sets of the first lines that are lines of the listing, where the first of them has this number
unfoldable pub sets_from : ℕ → List (List ℕ) → List (Option RequestId)
sets_from number [] = []
sets_from number (line ∷ lines) = option_map_or (λ set. set ∷ sets_from (number + 1) lines) (plan_line number line) []

-- the number of the first line that is none of the listing. It is the one past the last where the text is not whole
unfoldable pub line_fault : Bool → ℕ → List (List ℕ) → Option ℕ
line_fault whole number [] = if whole then None else Some number
line_fault whole number (line ∷ lines) =
    option_map_or (λ set. line_fault whole (number + 1) lines) (plan_line number line) (Some number)

-- ---- whole listings

-- of each request the request of its set, if it has one
abbrev pub sets_of : List ℕ → List (Option RequestId)
sets_of listing = sets_from 1 (whole_lines listing)

abbrev pub line_fault_of : List ℕ → Option ℕ
line_fault_of listing = line_fault (is_whole listing) 1 (whole_lines listing)

abbrev pub in_plan : ℕ → ChartRefusal
in_plan line = record { file = file.Plan; line = Some line; why = why.NoPlanLine }

-- why a listing is refused
abbrev pub listing_fault : List ℕ → Option ChartRefusal
listing_fault listing = option_map in_plan (line_fault_of listing)
