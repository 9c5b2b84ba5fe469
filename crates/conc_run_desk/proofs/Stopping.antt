-- A request that was told to stop.
use Rattle.std.proofs.Common.{◌≡◌, ℕ, ◌==◌, ◌||◌, Bool, true, false, List, [], ◌∷◌, ◌++◌, refl, sym, ◌∙◌, ap, subst, append_assoc}
use Rattle.std.proofs.lemmas.Bool.{both_ways}
use Rattle.conc_types.specs.declared.event.Event.{Event}
use Rattle.conc_types.specs.declared.event.Event.TheVariants as event
use Rattle.conc_types.specs.declared.event.PlaceId.{PlaceId}
use Rattle.conc_types.specs.declared.event.RequestId.{RequestId}
use Rattle.conc_types.specs.declared.plan.Plan.{Plan}
use Rattle.conc_types.specs.Words.{some_and}
use Rattle.conc_base_law.specs.Kinds.{act_of, is_terminate}
use Rattle.conc_board.specs.declared.lead.Lead.{Lead}
use Rattle.conc_board.specs.Looks.{LooksOn}
use Rattle.conc_board.specs.Seats.{FindsFitting, found_by_lead, lead_state_of}
use Rattle.conc_board.specs.Stops.{Stops}
use Rattle.conc_pool_seats.specs.declared.views.LeadState.{LeadState}
use Rattle.conc_pool_seats.specs.declared.views.LeadState.TheVariants.{NotLet, Let, Seen, Gone, Got, Done}
use Rattle.conc_pool_seats.specs.LeadStates.{is_marked}
use Rattle.conc_pool_seats.specs.Words.{request_word, running}
use Rattle.conc_run_desk.specs.Following.{StopsWhatRuns, WasToldToStop}

-- the place of a request that has the go
abbrev gone_place : PlaceId → LeadState → PlaceId
gone_place d (Gone p m) = p
gone_place d _ = d

module _ (r : RequestId) (old mid new : Lead) (answer : Bool) (finds : FindsFitting r old mid) (stops : Stops answer r mid new) where
  found_in_order : found_by_lead new
      ≡ (found_by_lead old ++ (request_word r, finds.0) ∷ (request_word r, stops.loaded) ∷ []) ++ (request_word r, stops.exchanged) ∷ []
  found_in_order =
      let w = request_word r in let had = found_by_lead old in
      stops.found ∙ ap (λ (l : List (ℕ × ℕ)). l ++ (w, stops.loaded) ∷ (w, stops.exchanged) ∷ []) finds.2
      ∙ append_assoc had ((w, finds.0) ∷ []) ((w, stops.loaded) ∷ (w, stops.exchanged) ∷ [])
      ∙ sym (append_assoc had ((w, finds.0) ∷ (w, stops.loaded) ∷ []) ((w, stops.exchanged) ∷ []))

  stopped_at : (p : PlaceId) (m : Bool) → lead_state_of mid r ≡ Gone p m → WasToldToStop r p m old new
  stopped_at p m same =
      let e : Gone stops.place stops.marked ≡ Gone p m = sym stops.was ∙ same in
      let place : stops.place ≡ p = ap (gone_place p) e in
      let mark : stops.marked ≡ m = ap is_marked e in record {
        before = (request_word r, finds.0) ∷ (request_word r, stops.loaded) ∷ [];
        word = stops.exchanged;
        found = found_in_order;
        now = stops.now ∙ ap (λ (b : Bool). Gone stops.place (b || stops.marked)) stops.answers
            ∙ (λ i. Gone (place i) ((stops.exchanged == running (place i)) || mark i));
      }

  -- a stop behind a look at the request
  pub stops_what_runs : LooksOn (lead_state_of old r) (lead_state_of mid r) → StopsWhatRuns (lead_state_of old r) r old new
  stops_what_runs looks = by (lead_state_of old r) looks
    where
      by : (st : LeadState) → LooksOn st (lead_state_of mid r) → StopsWhatRuns st r old new
      by NotLet same = tt
      by Let same = tt
      by (Seen p) same = tt
      by (Gone p m) same = stopped_at p m same
      by (Got p m) same = tt
      by (Done m) same = tt

-- nothing has to stop where the request has no go
pub none_runs : (r : RequestId) (old new : Lead) (st : LeadState) → st ≡ NotLet → StopsWhatRuns st r old new
none_runs r old new NotLet none = tt
none_runs r old new Let none = tt
none_runs r old new (Seen p) none = tt
none_runs r old new (Gone p m) none = cc
none_runs r old new (Got p m) none = tt
none_runs r old new (Done m) none = tt

-- a start terminates nothing
pub starts_no_terminate : (plan : Plan) (q : RequestId) (p : PlaceId) (e : Event) → e ≡ event.Started q p → (r : RequestId)
    → some_and (is_terminate r) (act_of plan e) ≡ true → ⊥
unfolding act_of
starts_no_terminate plan q p e is r terminates =
    let none : some_and (is_terminate r) (act_of plan (event.Started q p)) ≡ true = subst (λ (z : Event). some_and (is_terminate r) (act_of plan z) ≡ true) is terminates in
    both_ways false refl none
