-- How the requests of a plan stand after a list of events.
use Rattle.std.specs.Prelude.{ℕ, ◌+◌, Bool, true, false, List, [], ◌∷◌, map, reverse, Option, None, Some, count_by, slice_index, slice_set}
use Rattle.std.specs.Option.{option_and_then}
use Rattle.conc_types.specs.declared.event.Event.{Event}
use Rattle.conc_types.specs.declared.event.Phase.{Phase}
use Rattle.conc_types.specs.declared.event.Phase.TheVariants as phase
use Rattle.conc_types.specs.declared.event.RequestId.{RequestId}
use Rattle.conc_types.specs.declared.event.Status.{Status}
use Rattle.conc_types.specs.declared.plan.Plan.{Plan}
use Rattle.conc_types.specs.declared.plan.Req.{Req}
use Rattle.conc_types.specs.Plans.{request}
use Rattle.conc_types.specs.Words.{some_and}
use Rattle.conc_base_law.specs.State.{state}
use Rattle.conc_base_law.specs.Status.{status_of}

-- the phase and status of a request after these events, which only a submitted one has
abbrev pub status_after : Plan → List Event → RequestId → Option (Phase × Status)
status_after plan events id = option_and_then (status_of plan (state plan (reverse events))) (request plan id)

abbrev pub same_phase : Phase → Phase → Bool
same_phase phase.Pending phase.Pending = true
same_phase phase.Running phase.Running = true
same_phase phase.Completed phase.Completed = true
same_phase phase.Inactive phase.Inactive = true
same_phase _ _ = false

-- how many of these requests are submitted and in this phase, where each stands as this function says
abbrev pub count_in : (Req → Option (Phase × Status)) → List Req → Phase → ℕ
count_in stands requests p = count_by (λ r. some_and (λ (s : Phase × Status). same_phase p s.0) (stands r)) requests

-- the same for each phase
abbrev pub counts_in : (Req → Option (Phase × Status)) → List Req → List ℕ
counts_in stands requests =
    map (count_in stands requests) (phase.Pending ∷ phase.Running ∷ phase.Completed ∷ phase.Inactive ∷ [])

-- how many requests of the plan are submitted and in each phase after these events, in the order Pending, Running,
-- Completed, Inactive
abbrev pub counts_of : Plan → List Event → List ℕ
counts_of plan events = counts_in (status_of plan (state plan (reverse events))) plan.requests

-- ---- for the count

-- where the number of a phase stands
abbrev pub place_of : Phase → ℕ
place_of phase.Pending = 0
place_of phase.Running = 1
place_of phase.Completed = 2
place_of phase.Inactive = 3

-- the counts with one more that stands so
abbrev pub counts_with : Option (Phase × Status) → List ℕ → List ℕ
counts_with None counts = counts
counts_with (Some s) counts = slice_set counts (place_of s.0) (slice_index counts (place_of s.0) + 1)
