-- A measure of how much a run with workers still has to do: three numbers, of which the first counts most and the last least.
use Rattle.std.specs.Prelude.{◌≡◌, ◌⊎◌, ℕ, zero, suc, ◌+◌, ◌<◌, ◌/◌, ◌==◌, Bool, true, false, if◌then◌else◌, List, length, reverse, slice_index}
use Rattle.conc_types.specs.declared.event.Event.{Event}
use Rattle.conc_types.specs.declared.event.PlaceId.{PlaceId}
use Rattle.conc_types.specs.declared.plan.Plan.{Plan}
use Rattle.conc_types.specs.declared.script.Reading.{Reading}
use Rattle.conc_base_law.specs.Places.{count_of_places}
use Rattle.conc_base_law.specs.Remaining.{remaining}
use Rattle.conc_pool_seats.specs.LeadStates.{lead_state_at}
use Rattle.conc_pool_seats.specs.Rule.{BoardState, view_at}
use Rattle.conc_pool_seats.specs.Words.{count_of_requests, place_in, released}
use Rattle.conc_pool_seats.specs.declared.views.Doing.{Doing}
use Rattle.conc_pool_seats.specs.declared.views.Doing.TheVariants.{Idle, Waits, Serves}
use Rattle.conc_pool_seats.specs.declared.views.LeadState.{LeadState}
use Rattle.conc_pool_seats.specs.declared.views.LeadState.TheVariants.{NotLet, Let, Seen, Gone, Got, Done}
use Rattle.conc_run_progress.specs.Boards.{doing_in, is_usable_after}

-- what a function gives for each number below a count, together
abbrev pub sum_below : ℕ → (ℕ → ℕ) → ℕ
sum_below zero f = 0
sum_below (suc count) f = sum_below count f + f count

-- ---- what stands on the board though it should not

-- one for a place that may be used and is closed, by the word of the place
abbrev pub closed_count : Bool → ℕ → ℕ
closed_count true n = if n == 0 then 1 else 0
closed_count false n = 0

-- one for a request that is claimed by a place that may not be used, by the word of the request. `usable` says which places may be
abbrev pub unfit_count : (PlaceId → Bool) → ℕ → ℕ
unfit_count usable n = if n / 256 == 1 then (if usable (place_in 256 n) then 0 else 1) else 0

abbrev pub closed_places : Plan → List Event → BoardState → ℕ
closed_places plan past s =
    sum_below (count_of_places plan) (λ i. closed_count (is_usable_after plan past (record { index = i })) (slice_index s.words (count_of_requests plan + i)))

abbrev pub unfit_claims : Plan → List Event → BoardState → ℕ
unfit_claims plan past s = sum_below (count_of_requests plan) (λ i. unfit_count (is_usable_after plan past) (slice_index s.words i))

-- ---- how far each request and each hand has come

-- How much the lead still has to do for a request in this lead state. One that is not let out weighs more than what letting it out adds to its word.
abbrev pub lead_state_weight : LeadState → ℕ
lead_state_weight NotLet = 8
lead_state_weight Let = 4
lead_state_weight (Seen p) = 3
lead_state_weight (Gone p marked) = 2
lead_state_weight (Got p marked) = 1
lead_state_weight (Done marked) = 0

-- A request that is let out and not claimed. It weighs more than a hand that waits for its request.
abbrev pub word_weight : ℕ → ℕ
word_weight n = if n == released then 3 else 0

-- what a hand does: it waits, then serves, then does nothing
abbrev pub doing_weight : Doing → ℕ
doing_weight Idle = 0
doing_weight (Waits r p) = 2
doing_weight (Serves r p stop) = 1

-- all requests together, where `lead` is the number of the lead's seat
abbrev pub requests_weight : Plan → ℕ → BoardState → ℕ
requests_weight plan lead s =
    sum_below (count_of_requests plan) (λ i. lead_state_weight (lead_state_at (view_at s.views lead).lead_states i) + word_weight (slice_index s.words i))

-- all seats together
abbrev pub seats_weight : BoardState → ℕ
seats_weight s = sum_below (length s.views) (λ j. doing_weight (doing_in s j))

-- ---- the measure

-- the events that the life still has at most; the places that may be used and are closed, with the requests that are claimed by places that may not be used; and
-- how far requests and hands are from what they do last
pub record Measure : Type 0 where
  pub events : ℕ
  pub unfit : ℕ
  pub weight : ℕ

-- less in one of the numbers, and the same in those that count more
abbrev pub IsLess : Measure → Measure → Type 0
IsLess a b = (a.events < b.events) ⊎ ((a.events ≡ b.events) × ((a.unfit < b.unfit) ⊎ ((a.unfit ≡ b.unfit) × (a.weight < b.weight))))

-- the measure of a moment of a run, by the list and the board. `lead` is the number of the lead's seat
abbrev pub measure_of : Plan → List Reading → List Event → ℕ → BoardState → Measure
measure_of plan readings list lead s = record {
  events = remaining plan readings (reverse list);
  unfit = closed_places plan (reverse list) s + unfit_claims plan (reverse list) s;
  weight = requests_weight plan lead s + seats_weight s;
}
