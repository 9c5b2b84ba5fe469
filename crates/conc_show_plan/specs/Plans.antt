-- What a plan and a script tell of the requests.
use Rattle.std.specs.Prelude.{ℕ, List, [], ◌∷◌, drop, slice_get, Option, None, Some}
use Rattle.std.specs.Option.{option_and_then, option_map_or, option_or}
use Rattle.conc_types.specs.declared.event.RequestId.{RequestId}
use Rattle.conc_show_model.specs.declared.fail.ChartRefusal.{ChartRefusal}
use Rattle.conc_show_model.specs.declared.model.Planned.{Planned}
use Rattle.conc_show_plan.specs.Listing.{listing_fault, sets_of}
use Rattle.conc_show_plan.specs.Submits.{script_fault, submits_of}

abbrev pub first : List ℕ → Option ℕ
first submits = slice_get submits 0

-- what is told of requests with these sets. One without a set takes the next command that submits; a member has that of the last one without a set before it
unfoldable pub planned_from : List (Option RequestId) → List ℕ → Option ℕ → List Planned
planned_from [] submits last = []
planned_from (None ∷ sets) submits last =
    record { set = None; command = first submits } ∷ planned_from sets (drop 1 submits) (first submits)
planned_from (Some set ∷ sets) submits last =
    record { set = Some set; command = last } ∷ planned_from sets submits last

-- ---- a listing, and a script where one is given

abbrev pub submits_given : Option (List ℕ) → List ℕ
submits_given script = option_map_or submits_of script []

abbrev pub planned_of : List ℕ → Option (List ℕ) → List Planned
planned_of listing script = planned_from (sets_of listing) (submits_given script) None

-- first the listing, then the script
abbrev pub plan_fault : List ℕ → Option (List ℕ) → Option ChartRefusal
plan_fault listing script = option_or (listing_fault listing) (option_and_then script_fault script)
