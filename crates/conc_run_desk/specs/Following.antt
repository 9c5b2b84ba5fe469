-- What an event means for the board.
use Rattle.std.specs.Prelude.{◌≡◌, ◌≢◌, ◌⊎◌, ℕ, ◌==◌, ◌||◌, Bool, true, false, List, [], ◌∷◌, ◌++◌, Option, Some, IsTrue, ⊤}
use Rattle.conc_types.specs.declared.event.Event.{Event}
use Rattle.conc_types.specs.declared.event.Event.TheVariants as event
use Rattle.conc_types.specs.declared.event.PlaceId.{PlaceId}
use Rattle.conc_types.specs.declared.event.RequestId.{RequestId}
use Rattle.conc_types.specs.declared.plan.Plan.{Plan}
use Rattle.conc_types.specs.declared.script.Act.{Act}
use Rattle.conc_types.specs.declared.script.Act.TheVariants as act
use Rattle.conc_types.specs.Words.{some_and}
use Rattle.conc_base_law.specs.Kinds.{act_of, is_terminate}
use Rattle.conc_base_law.specs.Words.{id_eq}
use Rattle.conc_board.specs.declared.lead.Lead.{Lead}
use Rattle.conc_board.specs.Seats.{SameSwitches, TakesMore, found_by_lead, lead_state_of, places_of_lead}
use Rattle.conc_pool_seats.specs.Words.{request_word, running}
use Rattle.conc_pool_seats.specs.declared.views.LeadState.{LeadState}
use Rattle.conc_pool_seats.specs.declared.views.LeadState.TheVariants.{NotLet, Let, Seen, Gone}

-- ---- one request

-- a request that is let out and has no go is withdrawn
abbrev pub Withdrawn : LeadState → LeadState → Type 0
Withdrawn Let new = new ≡ NotLet
Withdrawn (Seen p) new = new ≡ NotLet
Withdrawn old new = new ≡ old

-- a request that has the go is told to stop, and is marked where that won. A look at another may have seen its claim
abbrev pub ToldToStop : LeadState → LeadState → Type 0
ToldToStop Let new = (new ≡ Let) ⊎ ((p : PlaceId) × (new ≡ Seen p))
ToldToStop (Gone p marked) new = (won : Bool) × (new ≡ Gone p (won || marked))
ToldToStop old new = new ≡ old

-- The last thing that the lead found is what an exchange found in the word of a request that has the go at a place: if it
-- ran, the request is marked from then on; else it was told to stop before, or something was left for it.
pub record WasToldToStop (r : RequestId) (p : PlaceId) (marked : Bool) (old new : Lead) : Type 0 where
  pub before : List (ℕ × ℕ)
  pub word : ℕ
  pub found : found_by_lead new ≡ (found_by_lead old ++ before) ++ (request_word r, word) ∷ []
  pub now : lead_state_of new r ≡ Gone p ((word == running p) || marked)

-- so it is with a request that has the go
abbrev pub StopsWhatRuns : LeadState → RequestId → Lead → Lead → Type 0
StopsWhatRuns (Gone p marked) r old new = WasToldToStop r p marked old new
StopsWhatRuns state r old new = ⊤

-- Each other request is in the lead state that it was in. The lead has the places that it had, and has them open or closed as
-- before; what it took out of slots before it has taken still.
pub record SameBut (r : RequestId) (old new : Lead) : Type 0 where
  pub lead_states : (q : RequestId) → q ≢ r → lead_state_of new q ≡ lead_state_of old q
  pub places : places_of_lead new ≡ places_of_lead old
  pub switches : SameSwitches old new
  pub posts : TakesMore old new

-- ---- the lead state of a request after an event, by the one before

-- the first where the event is about the request, else the second
abbrev pub Where : Bool → Type 0 → Type 0 → Type 0
Where true one other = one
Where false one other = other

abbrev pub LeadStateAfterAct : Option Act → RequestId → LeadState → LeadState → Type 0
LeadStateAfterAct (Some (act.Hold q)) r old new = Where (id_eq q r) (Withdrawn old new) (new ≡ old)
LeadStateAfterAct (Some (act.Cancel q)) r old new = Where (id_eq q r) (Withdrawn old new) (new ≡ old)
LeadStateAfterAct (Some (act.Terminate q)) r old new = Where (id_eq q r) (ToldToStop old new) (new ≡ old)
LeadStateAfterAct _ r old new = new ≡ old

-- a start gives the go; a hold or a cancel withdraws, a terminate stops; nothing else changes a lead state
abbrev pub LeadStateAfter : Plan → Event → RequestId → LeadState → LeadState → Type 0
LeadStateAfter plan (event.Started q p) r old new = Where (id_eq q r) (new ≡ Gone p false) (new ≡ old)
LeadStateAfter plan e r old new = LeadStateAfterAct (act_of plan e) r old new

-- The lead state of each request is so, and a request with the go that is terminated was told to stop. The lead has the places
-- that it had, and has them open or closed as before; what it took out of slots before it has taken still.
pub record Follows (plan : Plan) (e : Event) (old new : Lead) : Type 0 where
  pub lead_states : (r : RequestId) → LeadStateAfter plan e r (lead_state_of old r) (lead_state_of new r)
  pub stops : (r : RequestId) → IsTrue (some_and (is_terminate r) (act_of plan e)) → StopsWhatRuns (lead_state_of old r) r old new
  pub places : places_of_lead new ≡ places_of_lead old
  pub switches : SameSwitches old new
  pub posts : TakesMore old new
