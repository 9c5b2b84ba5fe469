-- The end that is kept and not recorded yet.
use Rattle.std.specs.Prelude.{◌∷◌, [], ◌++◌, Option, None, Some, ⊤}
use Rattle.conc_types.specs.declared.event.Event.{Event}
use Rattle.conc_types.specs.declared.event.Event.TheVariants as event
use Rattle.conc_base_law.specs.Law.{Lawful}
use Rattle.conc_board.specs.declared.lead.Lead.{Lead}
use Rattle.conc_board.specs.Seats.{lead_state_of}
use Rattle.conc_pool_seats.specs.LeadStates.{IsGone}
use Rattle.conc_run_steps.specs.Steps.{plan_in, readings_in}
use Rattle.conc_run_state.specs.Works.{list_in}
use Rattle.conc_run_state.specs.declared.work.Work.{Work}

-- it may come next, and what was left for its request is collected; nothing but an end is kept
abbrev pub MayBeKept : Option Event → Work → Lead → Type 0
MayBeKept None work lead = ⊤
MayBeKept (Some (event.Ended r o x)) work lead =
    Lawful (plan_in work) (readings_in work) (list_in work ++ event.Ended r o x ∷ [])
    × (IsGone (lead_state_of lead r) → ⊥)
MayBeKept (Some e) work lead = ⊥
