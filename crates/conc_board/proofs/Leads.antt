-- What a step of the lead's changes of what contracts see.
use Rattle.std.proofs.Common.{◌≡◌, ℕ, ◌<◌, ◌≤◌, ◌≢◌, if◌then◌else◌, List, [], ◌∷◌, ◌++◌, length, get_or, set, sym, refl, ap, ◌∙◌, subst, inl, inr, arith, length-set, get_or-set_other, get_or-set_same, eq-eqb, ne_eqb, append-nil, append_assoc}
use mathlib.Core.Logic.{dite}
use native.Mathlib.Decide.{ℕ_discrete}
use Rattle.conc_types.specs.declared.event.RequestId.{RequestId}
use Rattle.conc_types.specs.declared.plan.Plan.{Plan}
use Rattle.conc_pool_seats.specs.declared.posted.Posted.{Posted}
use Rattle.conc_pool_seats.specs.declared.views.LeadState.{LeadState}
use Rattle.conc_pool_seats.specs.declared.views.LeadState.TheVariants.{NotLet, Let, Seen, Gone, Got, Done}
use Rattle.conc_pool_seats.specs.declared.views.View.{View}
use Rattle.conc_pool_seats.specs.Courses.{GoesOn}
use Rattle.conc_pool_seats.specs.LeadStates.{IsLetOrGone, IsLive, IsSettled, lead_state_at, lead_state_in}
use Rattle.conc_pool_seats.specs.Steps.{noted, with_lead_state, with_post, with_switch}
use Rattle.conc_pool_seats.specs.Words.{IsRequest, count_of_requests, count_of_words, request_of, request_word}
use Rattle.conc_pool_seats.proofs.Facts.{request_eq}
use Rattle.conc_board.specs.declared.board.Board.{Board}
use Rattle.conc_board.specs.declared.lead.Lead.{Lead}
use Rattle.conc_board.specs.Seats.{AddsOne, Changes, IsAsWritten, IsLeadOf, LeavesLeadStates, SetsFlag, TakesMore, lead_state_of, plan_of, posts_of_lead, switch_of}

-- ---- lead states of requests

pub lead_state_in-request : (ss : List LeadState) (r : RequestId) → 1 ≤ r.number → lead_state_in ss r ≡ lead_state_at ss (request_word r)
lead_state_in-request ss r from_one = ap (λ b. if b then NotLet else lead_state_at ss (request_word r)) (ne_eqb r.number 0 (λ e. omega arith))

lead_state_in-none : (ss : List LeadState) (r : RequestId) → r.number ≡ 0 → lead_state_in ss r ≡ NotLet
lead_state_in-none ss r none = ap (λ b. if b then NotLet else lead_state_at ss (request_word r)) (eq-eqb r.number 0 none)

pub lead_state_in-set_other : (ss : List LeadState) (r q : RequestId) (st : LeadState) → 1 ≤ r.number → q ≢ r → lead_state_in (set ss (request_word r) st) q ≡ lead_state_in ss q
lead_state_in-set_other ss r q st from_one other = dite (ℕ_discrete q.number 0)
    (λ none. lead_state_in-none (set ss (request_word r) st) q none ∙ sym (lead_state_in-none ss q none))
    (λ some. let one : 1 ≤ q.number = omega arith in
    lead_state_in-request (set ss (request_word r) st) q one
    ∙ (get_or-set_other ss (request_word r) (request_word q) st NotLet (λ e. other (request_eq q r (omega arith))) ∙ sym (lead_state_in-request ss q one)))

pub lead_state_in-set_same : (ss : List LeadState) (r : RequestId) (st : LeadState) → 1 ≤ r.number → r.number ≤ length ss → lead_state_in (set ss (request_word r) st) r ≡ st
lead_state_in-set_same ss r st from_one within = lead_state_in-request (set ss (request_word r) st) r from_one ∙ get_or-set_same ss (request_word r) st NotLet (omega arith)

-- the request whose word has this number, and its lead state
pub request_there : (r : RequestId) (i : ℕ) → i ≡ request_word r → 1 ≤ r.number → request_of i ≡ r
request_there r i word from_one = request_eq (request_of i) r (omega arith)

pub lead_state_there : (ss : List LeadState) (r : RequestId) (i : ℕ) → i ≡ request_word r → 1 ≤ r.number → lead_state_at ss i ≡ lead_state_in ss r
lead_state_there ss r i word from_one = ap (lead_state_at ss) word ∙ sym (lead_state_in-request ss r from_one)

pub lead_state_in-word : (ss : List LeadState) (j : ℕ) → lead_state_in ss (request_of j) ≡ lead_state_at ss j
lead_state_in-word ss j = sym (lead_state_there ss (request_of j) j (omega arith) (omega arith))

-- ---- steps that are noted

pub adds_one : (IsSo : ℕ → Type 0) (word i n : ℕ) (old new : List (ℕ × ℕ)) → i ≡ word → IsSo n → new ≡ old ++ (i, n) ∷ [] → AddsOne word IsSo old new
adds_one IsSo word i n old new there so is = (n, so, is ∙ ap (λ (z : ℕ). old ++ (z, n) ∷ []) there)

-- two steps on one word
pub adds_two : (word i n k : ℕ) (old mid new : List (ℕ × ℕ)) → i ≡ word → mid ≡ old ++ (i, n) ∷ [] → new ≡ mid ++ (word, k) ∷ [] → new ≡ old ++ (word, n) ∷ (word, k) ∷ []
adds_two word i n k old mid new there one two =
    two ∙ (ap (λ (z : List (ℕ × ℕ)). z ++ (word, k) ∷ []) (one ∙ ap (λ (z : ℕ). old ++ (z, n) ∷ []) there) ∙ append_assoc old ((word, n) ∷ []) ((word, k) ∷ []))

-- ---- steps of the lead

-- its view changed at one request
pub new_lead_state : (plan : Plan) (r : RequestId) (v w : View) (i : ℕ) (st : LeadState) (n : ℕ) → length v.lead_states ≡ count_of_requests plan → IsRequest plan r → i ≡ request_word r →
    w ≡ with_lead_state v i st n → lead_state_in w.lead_states r ≡ st
new_lead_state plan r v w i st n all of_plan word is =
    ap (λ (u : View). lead_state_in u.lead_states r) is
    ∙ (ap (λ (z : ℕ). lead_state_in (set v.lead_states z st) r) word ∙ lead_state_in-set_same v.lead_states r st of_plan.from_one (omega arith))

-- each lead state is settled still
settled_by : (board : Board) (r : RequestId) (old new : Lead) (st : LeadState) → IsLeadOf board old → lead_state_of new r ≡ st → ((q : RequestId) → q ≢ r → lead_state_of new q ≡ lead_state_of old q) → IsSettled st →
    (q : RequestId) → IsSettled (lead_state_of new q)
settled_by board r old new st lead now others calm q = dite (ℕ_discrete q.number r.number)
    (λ e. subst IsSettled (sym (ap (lead_state_of new) (request_eq q r e) ∙ now)) calm)
    (λ other. subst IsSettled (sym (others q (λ e. other (ap (λ (z : RequestId). z.number) e)))) (lead.settled q))

-- it took nothing
same_posts : (old new : Lead) → posts_of_lead new ≡ posts_of_lead old → TakesMore old new
same_posts old new same = ([], same ∙ sym (append-nil (posts_of_lead old)))

pub changes : (board : Board) (r : RequestId) (old new : Lead) (i : ℕ) (st : LeadState) (n : ℕ) → IsLeadOf board old → IsRequest (plan_of board) r → i ≡ request_word r →
    new.seat.table_id ≡ old.seat.table_id → new.seat.me.0 ≡ with_lead_state old.seat.me.0 i st n →
    GoesOn (lead_state_of old r) st → IsSettled st → Changes board r old new
changes board r old new i st n lead of_plan word seat is goes_on calm = record {
  lead = record {
    seat = seat ∙ lead.seat;
    plan = ap (λ (v : View). v.plan) is ∙ lead.plan;
    lead_states = ap (λ (v : View). length v.lead_states) is ∙ (length-set old.seat.me.0.lead_states i st ∙ lead.lead_states);
    settled = settled_by board r old new st lead (new_lead_state (plan_of board) r old.seat.me.0 new.seat.me.0 i st n lead.lead_states of_plan word is)
        (λ q other. ap (λ (v : View). lead_state_in v.lead_states q) is
        ∙ (ap (λ (z : ℕ). lead_state_in (set old.seat.me.0.lead_states z st) q) word ∙ lead_state_in-set_other old.seat.me.0.lead_states r q st of_plan.from_one other)) calm;
    switches = ap (λ (v : View). length v.switches) is ∙ lead.switches;
  };
  goes_on = subst (GoesOn (lead_state_of old r)) (sym (new_lead_state (plan_of board) r old.seat.me.0 new.seat.me.0 i st n lead.lead_states of_plan word is)) goes_on;
  others = λ q other. ap (λ (v : View). lead_state_in v.lead_states q) is
      ∙ (ap (λ (z : ℕ). lead_state_in (set old.seat.me.0.lead_states z st) q) word ∙ lead_state_in-set_other old.seat.me.0.lead_states r q st of_plan.from_one other);
  places = ap (λ (v : View). v.places) is;
  switches = record { each = λ word. ap (λ (v : View). get_or v.switches word 0) is };
  posts = same_posts old new (ap (λ (v : View). v.posts) is);
}

-- its view changed at no lead state and at no place
leaves_by : (board : Board) (old new : Lead) (w : View) → IsLeadOf board old → new.seat.table_id ≡ old.seat.table_id → new.seat.me.0 ≡ w →
    w.plan ≡ old.seat.me.0.plan → w.lead_states ≡ old.seat.me.0.lead_states → w.places ≡ old.seat.me.0.places → length w.switches ≡ length old.seat.me.0.switches →
    w.posts ≡ old.seat.me.0.posts → LeavesLeadStates board old new
leaves_by board old new w lead seat is plan lead_states places switches posts =
    let same = ap (λ (v : View). v.lead_states) is ∙ lead_states in record {
      lead = record {
        seat = seat ∙ lead.seat;
        plan = ap (λ (v : View). v.plan) is ∙ (plan ∙ lead.plan);
        lead_states = ap (λ (ss : List LeadState). length ss) same ∙ lead.lead_states;
        settled = λ r. subst IsSettled (sym (ap (λ (ss : List LeadState). lead_state_in ss r) same)) (lead.settled r);
        switches = ap (λ (v : View). length v.switches) is ∙ (switches ∙ lead.switches);
      };
      lead_states = record { each = λ r. ap (λ (ss : List LeadState). lead_state_in ss r) same };
      places = ap (λ (v : View). v.places) is ∙ places;
      posts = same_posts old new (ap (λ (v : View). v.posts) is ∙ posts);
    }

-- its view only notes a step
pub no_change : (board : Board) (r : RequestId) (old new : Lead) (i n : ℕ) → IsLeadOf board old → new.seat.table_id ≡ old.seat.table_id →
    new.seat.me.0 ≡ noted old.seat.me.0 i n → Changes board r old new
no_change board r old new i n lead seat is =
    let leaves = leaves_by board old new (noted old.seat.me.0 i n) lead seat is refl refl refl refl refl in record {
      lead = leaves.lead;
      goes_on = inl (leaves.lead_states.each r);
      others = λ q _. leaves.lead_states.each q;
      places = leaves.places;
      switches = record { each = λ word. ap (λ (v : View). get_or v.switches word 0) is };
      posts = leaves.posts;
    }

-- it writes x to a word that is no request's
pub sets_flag : (board : Board) (old new : Lead) (i word x n : ℕ) → IsLeadOf board old → i ≡ word → word < count_of_words (plan_of board) → new.seat.table_id ≡ old.seat.table_id →
    new.seat.me.0 ≡ with_switch old.seat.me.0 i x n → n ≡ get_or old.seat.me.0.switches i 0 → n ≤ 1 → SetsFlag board word x old new
sets_flag board old new i word x n lead there inside seat is was small =
    let v = old.seat.me.0 in
    let now : (j : ℕ) → switch_of new j ≡ get_or (set v.switches word x) j 0 = λ j. ap (λ (u : View). get_or u.switches j 0) is ∙ ap (λ (z : ℕ). get_or (set v.switches z x) j 0) there in record {
      lead = leaves_by board old new (with_switch v i x n) lead seat is refl refl refl (length-set v.switches i x) refl;
      found = adds_one (IsAsWritten old word) word i n v.found new.seat.me.0.found there (was ∙ ap (λ (z : ℕ). get_or v.switches z 0) there, small) (ap (λ (u : View). u.found) is);
      set = now word ∙ get_or-set_same v.switches word x 0 (let wide = lead.switches in omega arith);
      others = λ j other. now j ∙ get_or-set_other v.switches word j x 0 other;
    }

-- one call after another
pub takes_twice : (old mid new : Lead) → TakesMore old mid → TakesMore mid new → TakesMore old new
takes_twice old mid new first second =
    (first.0 ++ second.0, second.1 ∙ (ap (λ (z : List (ℕ × Posted)). z ++ second.0) first.1 ∙ append_assoc (posts_of_lead old) first.0 second.0))

-- two calls on a request, of which the first keeps its lead state
pub changes_after : (board : Board) (r : RequestId) (old mid new : Lead) → Changes board r old mid → lead_state_of mid r ≡ lead_state_of old r → Changes board r mid new → Changes board r old new
changes_after board r old mid new first same second = record {
  lead = second.lead;
  goes_on = subst (λ (z : LeadState). GoesOn z (lead_state_of new r)) same second.goes_on;
  others = λ q other. second.others q other ∙ first.others q other;
  places = second.places ∙ first.places;
  switches = record { each = λ word. second.switches.each word ∙ first.switches.each word };
  posts = takes_twice old mid new first.posts second.posts;
}

-- its view changed twice at one request, and it took this in between
pub changes_twice : (board : Board) (r : RequestId) (old new : Lead) (mid : View) (i : ℕ) (one two : LeadState) (n k : ℕ) (x : Posted) → IsLeadOf board old → IsRequest (plan_of board) r → i ≡ request_word r →
    new.seat.table_id ≡ old.seat.table_id → mid ≡ with_post (with_lead_state old.seat.me.0 i one n) i x → new.seat.me.0 ≡ with_lead_state mid i two k → GoesOn (lead_state_of old r) two → IsSettled two → Changes board r old new
changes_twice board r old new mid i one two n k x lead of_plan word seat is next goes_on calm =
    let all : length mid.lead_states ≡ count_of_requests (plan_of board) = ap (λ (v : View). length v.lead_states) is ∙ (length-set old.seat.me.0.lead_states i one ∙ lead.lead_states) in record {
      lead = record {
        seat = seat ∙ lead.seat;
        plan = ap (λ (v : View). v.plan) next ∙ (ap (λ (v : View). v.plan) is ∙ lead.plan);
        lead_states = ap (λ (v : View). length v.lead_states) next ∙ (length-set mid.lead_states i two ∙ all);
        settled = settled_by board r old new two lead (new_lead_state (plan_of board) r mid new.seat.me.0 i two k all of_plan word next)
            (λ q other. ap (λ (v : View). lead_state_in v.lead_states q) next
            ∙ (ap (λ (z : ℕ). lead_state_in (set mid.lead_states z two) q) word ∙ (lead_state_in-set_other mid.lead_states r q two of_plan.from_one other
            ∙ (ap (λ (v : View). lead_state_in v.lead_states q) is ∙ (ap (λ (z : ℕ). lead_state_in (set old.seat.me.0.lead_states z one) q) word ∙ lead_state_in-set_other old.seat.me.0.lead_states r q one of_plan.from_one other))))) calm;
        switches = ap (λ (v : View). length v.switches) next ∙ (ap (λ (v : View). length v.switches) is ∙ lead.switches);
      };
      goes_on = subst (GoesOn (lead_state_of old r)) (sym (new_lead_state (plan_of board) r mid new.seat.me.0 i two k all of_plan word next)) goes_on;
      others = λ q other. ap (λ (v : View). lead_state_in v.lead_states q) next
          ∙ (ap (λ (z : ℕ). lead_state_in (set mid.lead_states z two) q) word ∙ (lead_state_in-set_other mid.lead_states r q two of_plan.from_one other
          ∙ (ap (λ (v : View). lead_state_in v.lead_states q) is ∙ (ap (λ (z : ℕ). lead_state_in (set old.seat.me.0.lead_states z one) q) word ∙ lead_state_in-set_other old.seat.me.0.lead_states r q one of_plan.from_one other))));
      places = ap (λ (v : View). v.places) next ∙ ap (λ (v : View). v.places) is;
      switches = record { each = λ word. ap (λ (v : View). get_or v.switches word 0) next ∙ ap (λ (v : View). get_or v.switches word 0) is };
      posts = ((i, x) ∷ [], ap (λ (v : View). v.posts) next ∙ ap (λ (v : View). v.posts) is);
    }

-- a settled lead state that is live is let out or has the go
pub let_or_gone : (st : LeadState) → IsSettled st → IsLive st → IsLetOrGone st
let_or_gone NotLet calm live = absurd live
let_or_gone Let calm live = inl tt
let_or_gone (Seen p) calm live = inl tt
let_or_gone (Gone p m) calm live = inr tt
let_or_gone (Got p m) calm live = absurd calm
let_or_gone (Done m) calm live = absurd live
