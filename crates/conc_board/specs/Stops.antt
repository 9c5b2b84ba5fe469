-- What `stop` and `collect` answer.
use Rattle.std.specs.Prelude.{◌≡◌, ℕ, ◌==◌, ◌||◌, Bool, false, [], ◌∷◌, ◌++◌}
use Rattle.conc_types.specs.declared.event.PlaceId.{PlaceId}
use Rattle.conc_types.specs.declared.event.RequestId.{RequestId}
use Rattle.conc_pool_seats.specs.declared.posted.Posted.{Posted}
use Rattle.conc_pool_seats.specs.declared.views.LeadState.TheVariants.{Gone, Done}
use Rattle.conc_pool_seats.specs.Rule.{Runs}
use Rattle.conc_pool_seats.specs.LeadStates.{WordFits}
use Rattle.conc_pool_seats.specs.Words.{ended, request_word, running}
use Rattle.conc_board.specs.declared.lead.Lead.{Lead}
use Rattle.conc_board.specs.Seats.{AddsOne, found_by_lead, lead_state_of, posts_of_lead}

-- the answer of an exchange that found n in the word of a request with the go at a place
pub record StopsAt (place : PlaceId) (answer : Bool) (r : RequestId) (old new : Lead) : Type 0 where
  pub marked : Bool
  pub exchanged : ℕ
  pub was : lead_state_of old r ≡ Gone place marked
  pub now : lead_state_of new r ≡ Gone place (answer || marked)
  pub answers : answer ≡ (exchanged == running place)
  pub fits : WordFits (Gone place marked) exchanged
  pub found : found_by_lead new ≡ found_by_lead old ++ (request_word r, exchanged) ∷ []

-- The answer of a stop that first loaded the word of the request. Where it is true the request is marked
-- then; else the word was Stopping or Ended at this place.
pub record Stops (answer : Bool) (r : RequestId) (old new : Lead) : Type 0 where
  pub place : PlaceId
  pub marked : Bool
  pub loaded : ℕ
  pub exchanged : ℕ
  pub was : lead_state_of old r ≡ Gone place marked
  pub now : lead_state_of new r ≡ Gone place (answer || marked)
  pub answers : answer ≡ (exchanged == running place)
  pub fits : WordFits (Gone place marked) exchanged
  pub found :
      found_by_lead new ≡ found_by_lead old ++ (request_word r, loaded) ∷ (request_word r, exchanged) ∷ []

-- what was left for the request was taken: its word was found Ended, and is Done then
pub record Collects (r : RequestId) (old new : Lead) : Type 0 where
  pub place : PlaceId
  pub marked : Bool
  pub was : lead_state_of old r ≡ Gone place marked
  pub now : lead_state_of new r ≡ Done marked
  pub found :
      found_by_lead new ≡ found_by_lead old ++ (request_word r, ended place) ∷ (request_word r, ended place) ∷ []

-- the lead took this for the request, and nothing else
abbrev pub TakesPost : RequestId → Posted → Lead → Lead → Type 0
TakesPost r posted old new = posts_of_lead new ≡ posts_of_lead old ++ (request_word r, posted) ∷ []

-- nothing was taken: the word was found Running or Stopping
pub record FindsRunning (r : RequestId) (old new : Lead) : Type 0 where
  pub place : PlaceId
  pub marked : Bool
  pub was : lead_state_of old r ≡ Gone place marked
  pub same : lead_state_of new r ≡ lead_state_of old r
  pub none_taken : posts_of_lead new ≡ posts_of_lead old
  pub found : AddsOne (request_word r) (Runs false place) (found_by_lead old) (found_by_lead new)
