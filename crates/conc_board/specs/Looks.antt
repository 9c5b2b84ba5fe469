-- What a look at a request answers.
use Rattle.std.specs.Prelude.{◌≡◌, ◌⊎◌, ℕ, Bool}
use Rattle.conc_types.specs.declared.event.PlaceId.{PlaceId}
use Rattle.conc_types.specs.declared.event.RequestId.{RequestId}
use Rattle.conc_types.specs.declared.plan.Plan.{Plan}
use Rattle.conc_pool_seats.specs.declared.views.LeadState.{LeadState}
use Rattle.conc_pool_seats.specs.declared.views.LeadState.TheVariants.{NotLet, Let, Seen, Gone, Done}
use Rattle.conc_pool_seats.specs.LeadStates.{IsGone, IsLet}
use Rattle.conc_pool_seats.specs.Words.{IsPlace, claimed, ended, released, running, stopping}
use Rattle.conc_board.specs.declared.board.Board.{Board}
use Rattle.conc_board.specs.declared.lead.Lead.{Lead}
use Rattle.conc_board.specs.declared.lead.Looked.{Looked}
use Rattle.conc_board.specs.declared.lead.Looked.TheVariants.{Free, Claimed, Running, Ended}
use Rattle.conc_board.specs.declared.lead.Progress.{Progress}
use Rattle.conc_board.specs.declared.lead.Progress.TheVariants as progress
use Rattle.conc_board.specs.Seats.{lead_state_of, plan_of}

-- the word that the answer shows
abbrev pub Shows : Looked → ℕ → Type 0
Shows Free n = n ≡ released
Shows (Claimed p) n = n ≡ claimed p
Shows (Running p) n = (n ≡ running p) ⊎ (n ≡ stopping p)
Shows (Ended p) n = n ≡ ended p

-- What is answered of a request in a lead state, and its lead state then. A place that is answered is one of
-- the plan; where the request has the go, it is the place of the go.
abbrev pub Looks : Plan → Looked → LeadState → LeadState → Type 0
Looks plan Free old new = (old ≡ Let) × (new ≡ Let)
Looks plan (Claimed p) old new = IsPlace plan p × IsLet old × (new ≡ Seen p)
Looks plan (Running p) old new = IsPlace plan p × ((marked : Bool) × (old ≡ Gone p marked) × (new ≡ old))
Looks plan (Ended p) old new = IsPlace plan p × ((marked : Bool) × (old ≡ Gone p marked) × (new ≡ old))

-- the same of a request in the lead's view
abbrev pub SeesLeadState : Board → RequestId → Looked → Lead → Lead → Type 0
SeesLeadState board r answer old new = Looks (plan_of board) answer (lead_state_of old r) (lead_state_of new r)

-- how far a request in a lead state has come
abbrev pub HasProgress : Progress → LeadState → Type 0
HasProgress progress.NotLet lead_state = lead_state ≡ NotLet
HasProgress progress.Let lead_state = IsLet lead_state
HasProgress progress.Gone lead_state = IsGone lead_state
HasProgress progress.Done lead_state = (marked : Bool) × (lead_state ≡ Done marked)

-- a load of the word leaves the lead state, or sees the claim of a request that is let out
abbrev pub LooksOn : LeadState → LeadState → Type 0
LooksOn Let new = (new ≡ Let) ⊎ ((p : PlaceId) × (new ≡ Seen p))
LooksOn old new = new ≡ old
