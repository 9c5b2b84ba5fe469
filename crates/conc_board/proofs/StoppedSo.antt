-- What a stop answers and changes.
use Rattle.std.proofs.Common.{◌≡◌, ℕ, ◌%◌, ◌≤◌, ◌==◌, ◌||◌, if◌then◌else◌, Bool, true, false, [], ◌∷◌, ◌++◌, length, sym, refl, ap, ◌∙◌, subst, inl, inr, arith}
use Rattle.conc_types.specs.declared.event.PlaceId.{PlaceId}
use Rattle.conc_types.specs.declared.event.RequestId.{RequestId}
use Rattle.conc_types.specs.declared.plan.Plan.{Plan}
use Rattle.conc_base_law.specs.Places.{count_of_places}
use Rattle.conc_pool_seats.specs.declared.views.LeadState.{LeadState}
use Rattle.conc_pool_seats.specs.declared.views.LeadState.TheVariants.{NotLet, Let, Seen, Gone, Got, Done}
use Rattle.conc_pool_seats.specs.declared.views.View.{View}
use Rattle.conc_pool_seats.specs.Courses.{GoesOn}
use Rattle.conc_pool_seats.specs.LeadStates.{IsGone, WordFits, lead_state_in}
use Rattle.conc_pool_seats.specs.Steps.{noted, with_lead_state}
use Rattle.conc_pool_seats.specs.Words.{IsPlace, IsRequest, count_of_requests, request_word, running}
use Rattle.conc_pool_seats.proofs.Facts.{place_eq}
use Rattle.conc_board.specs.declared.board.Board.{Board}
use Rattle.conc_board.specs.declared.lead.Lead.{Lead}
use Rattle.conc_board.specs.Seats.{Changes, IsLeadOf, lead_state_of, plan_of}
use Rattle.conc_board.proofs.Leads.{changes, new_lead_state, no_change}

-- a request that has the go has it at a place
pub gone_place : (st : LeadState) → IsGone st → (p : PlaceId) × (m : Bool) × (st ≡ Gone p m)
gone_place NotLet is = absurd is
gone_place Let is = absurd is
gone_place (Seen p) is = absurd is
gone_place (Gone p m) is = (p, m, refl)
gone_place (Got p m) is = absurd is
gone_place (Done m) is = absurd is

-- the place of the go is the one that its word names
pub place_of_word : (plan : Plan) (p q : PlaceId) (m : Bool) (n : ℕ) → count_of_places plan ≤ 64 → IsPlace plan p → WordFits (Gone p m) n → q.index ≡ n % 256 → p ≡ q
place_of_word plan p q m n few near (inl e) is = place_eq p q (omega arith)
place_of_word plan p q m n few near (inr (inl e)) is = place_eq p q (omega arith)
place_of_word plan p q m n few near (inr (inr e)) is = place_eq p q (omega arith)

-- what the exchange left of the lead's view
abbrev pub exchanged : View → ℕ → PlaceId → ℕ → View
exchanged v i p n = if n == running p then with_lead_state v i (Gone p true) n else noted v i n

pub stop_found : (v w : View) (i : ℕ) (p : PlaceId) (n : ℕ) → w ≡ exchanged v i p n → w.found ≡ v.found ++ (i, n) ∷ []
stop_found v w i p n is = ap (λ (u : View). u.found) is ∙ go (n == running p)
  where
    go : (b : Bool) → (if b then with_lead_state v i (Gone p true) n else noted v i n).found ≡ v.found ++ (i, n) ∷ []
    go true = refl
    go false = refl

pub stop_lead_state : (plan : Plan) (r : RequestId) (v w : View) (i : ℕ) (p : PlaceId) (m : Bool) (n : ℕ) → length v.lead_states ≡ count_of_requests plan → IsRequest plan r → i ≡ request_word r →
    lead_state_in v.lead_states r ≡ Gone p m → w ≡ exchanged v i p n → (answer : Bool) → answer ≡ (n == running p) → lead_state_in w.lead_states r ≡ Gone p (answer || m)
stop_lead_state plan r v w i p m n all of_plan word was is answer answers = go (n == running p) is answers
  where
    go : (b : Bool) → w ≡ (if b then with_lead_state v i (Gone p true) n else noted v i n) → answer ≡ b → lead_state_in w.lead_states r ≡ Gone p (answer || m)
    go true is a = new_lead_state plan r v w i (Gone p true) n all of_plan word is ∙ ap (λ b. Gone p (b || m)) (sym a)
    go false is a = ap (λ (u : View). lead_state_in u.lead_states r) is ∙ (was ∙ ap (λ b. Gone p (b || m)) (sym a))

pub stop_changes : (board : Board) (r : RequestId) (old new : Lead) (i : ℕ) (p : PlaceId) (m : Bool) (n : ℕ) → IsLeadOf board old → IsRequest (plan_of board) r → i ≡ request_word r →
    new.seat.table_id ≡ old.seat.table_id → lead_state_of old r ≡ Gone p m → new.seat.me.0 ≡ exchanged old.seat.me.0 i p n → Changes board r old new
stop_changes board r old new i p m n lead of_plan word seat was is = go (n == running p) is
  where
    go : (b : Bool) → new.seat.me.0 ≡ (if b then with_lead_state old.seat.me.0 i (Gone p true) n else noted old.seat.me.0 i n) → Changes board r old new
    go true is = changes board r old new i (Gone p true) n lead of_plan word seat is (subst (λ (z : LeadState). GoesOn z (Gone p true)) (sym was) (inr (inl refl))) tt
    go false is = no_change board r old new i n lead seat is
