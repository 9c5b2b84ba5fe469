-- Steps by which a hand looks for a request to claim.
use Rattle.std.proofs.Common.{◌≡◌, ◌≢◌, ◌==◌, ℕ, zero, suc, ◌+◌, ◌-◌, ◌≤◌, true, false, Bool, if◌then◌else◌, List, [], ◌∷◌, ◌++◌, Option, None, Some, sym, refl, ap, ◌∙◌, subst, inl, inr, arith, append_assoc, append-nil, eq-eqb, ne_eqb, true≢false}
use Rattle.std.proofs.lemmas.Option.{slice_get_within}
use mathlib.Core.Logic.{dite}
use native.Mathlib.Decide.{ℕ_discrete}
use Rattle.std.specs.Prelude.{IfNone, IfSome, slice_get}
use Rattle.conc_types.specs.declared.event.PlaceId.{PlaceId}
use Rattle.conc_types.specs.declared.event.RequestId.{RequestId}
use Rattle.conc_types.specs.declared.manager.Manager.{Manager}
use Rattle.conc_types.specs.declared.plan.Plan.{Plan}
use Rattle.conc_types.specs.Plans.{request}
use Rattle.conc_types.specs.Words.{numbered, some_and}
use Rattle.conc_base_law.specs.Managers.{admits}
use Rattle.conc_base_law.specs.Words.{Has}
use Rattle.conc_base_law.proofs.Options.{some_and-some}
use Rattle.conc_pool_seats.specs.declared.views.Doing.TheVariants.{Idle}
use Rattle.conc_pool_seats.specs.Words.{IsRequest, count_of_requests, place_word, released, request_of, request_word}
use Rattle.conc_pool_seats.proofs.Facts.{request_eq}
use Rattle.conc_board.specs.declared.board.Board.{Board}
use Rattle.conc_board.specs.declared.hand.Claim.{Claim}
use Rattle.conc_board.specs.declared.hand.Hand.{Hand}
use Rattle.conc_board.specs.Owners.{manager_at}
use Rattle.conc_board.specs.Admission.{admits_at, admits_request}
use Rattle.conc_board.specs.Claims.{AreMissed, ClaimsAt, ClaimsNone, ClaimsOne, FindsNone, FollowsHint, IsMissed, LooksNextAt, LooksNextAtHint, MissesAll, MissesOne, claim_request}
use Rattle.conc_board.specs.Seats.{AddsOne, FindsOpen, IsFlagSeen, IsHandOf, Stays, doing_of, found_by_hand, plan_of}
use Rattle.conc_board.proofs.Hands.{stays_after}

-- ---- lists of steps

pub has_front : (xs ys : List (ℕ × ℕ)) (x : ℕ × ℕ) → Has xs x → Has (xs ++ ys) x
has_front [] ys x h = absurd h
has_front (a ∷ xs) ys x (inl e) = inl e
has_front (a ∷ xs) ys x (inr h) = inr (has_front xs ys x h)

pub has_back : (xs ys : List (ℕ × ℕ)) (x : ℕ × ℕ) → Has ys x → Has (xs ++ ys) x
has_back [] ys x h = h
has_back (a ∷ xs) ys x h = inr (has_back xs ys x h)

-- ---- which requests are admitted

pub admitted_is_request : (plan : Plan) (r : RequestId) (manager : Manager) → admits_request plan r manager ≡ true → IsRequest plan r
unfolding request
admitted_is_request plan r manager e = let t = some_and-some (admits manager) (request plan r) e in
    dite (ℕ_discrete r.number 0)
    (λ none. absurd (let n : numbered plan.requests r.number ≡ None = ap (λ b. if b then None else slice_get plan.requests (r.number - 1)) (eq-eqb r.number 0 none) in cc (sym n ∙ t.1)))
    (λ some. let n : numbered plan.requests r.number ≡ slice_get plan.requests (r.number - 1) = ap (λ b. if b then None else slice_get plan.requests (r.number - 1)) (ne_eqb r.number 0 some) in
    let within = slice_get_within plan.requests (r.number - 1) t.0 (sym n ∙ t.1) in
    record { from_one = omega arith; within = omega arith })

pub admitted_at : (plan : Plan) (place : PlaceId) (r : RequestId) (manager : Manager) → manager_at plan place ≡ Some manager → admits_at plan place r ≡ admits_request plan r manager
admitted_at plan place r manager e = ap (some_and (admits_request plan r)) e

-- ---- requests that were missed

missed_front : (xs ys : List (ℕ × ℕ)) (r : RequestId) → IsMissed xs r → IsMissed (xs ++ ys) r
missed_front xs ys r m = (m.0, m.1, has_front xs ys (request_word r, m.0) m.2)

pub are_missed_back : (plan : Plan) (place : PlaceId) (xs ys : List (ℕ × ℕ)) (count : ℕ) → AreMissed plan place ys count → AreMissed plan place (xs ++ ys) count
are_missed_back plan place xs ys count all r from_one within admitted = let m = all r from_one within admitted in (m.0, m.1, has_back xs ys (request_word r, m.0) m.2)

-- one more, which was missed or is not admitted
pub are_missed_more : (plan : Plan) (place : PlaceId) (steps : List (ℕ × ℕ)) (count n : ℕ) → AreMissed plan place steps count → n ≢ released → AreMissed plan place (steps ++ (count, n) ∷ []) (count + 1)
are_missed_more plan place steps count n all ne r from_one within admitted = dite (ℕ_discrete r.number (count + 1))
    (λ e. (n, ne, has_back steps ((count, n) ∷ []) (request_word r, n) (inl (let w : request_word r ≡ count = omega arith in λ i. (w i, n)))))
    (λ other. missed_front steps ((count, n) ∷ []) r (all r from_one (omega arith) admitted))

pub are_missed_same : (plan : Plan) (place : PlaceId) (steps : List (ℕ × ℕ)) (count : ℕ) → AreMissed plan place steps count → admits_at plan place (request_of count) ≡ false → AreMissed plan place steps (count + 1)
are_missed_same plan place steps count all not r from_one within admitted = dite (ℕ_discrete r.number (count + 1))
    (λ e. absurd (true≢false (sym admitted ∙ (ap (admits_at plan place) (request_eq r (request_of count) e) ∙ not))))
    (λ other. all r from_one (omega arith) admitted)

-- ---- calls one after the other

pub nothing_yet : (board : Board) (hand : Hand) → IsHandOf board hand → doing_of hand ≡ Idle → ClaimsNone board hand hand []
nothing_yet board hand own idle = record { hand = record { hand = own; places = refl }; idle = idle; found = sym (append-nil (found_by_hand hand)) }

pub missed_one : (board : Board) (r : RequestId) (i : ℕ) (old new : Hand) (m : MissesOne board r old new) → i ≡ request_word r → ClaimsNone board old new ((i, m.found.0) ∷ [])
missed_one board r i old new m word = record { hand = m.hand; idle = m.idle; found = m.found.2 ∙ ap (λ (z : ℕ). found_by_hand old ++ (z, m.found.0) ∷ []) (sym word) }

pub none_after : (board : Board) (old mid new : Hand) (xs ys : List (ℕ × ℕ)) → ClaimsNone board old mid xs → ClaimsNone board mid new ys → ClaimsNone board old new (xs ++ ys)
none_after board old mid new xs ys first second = record {
  hand = stays_after board old mid new first.hand second.hand;
  idle = second.idle;
  found = second.found ∙ (ap (λ (z : List (ℕ × ℕ)). z ++ ys) first.found ∙ append_assoc (found_by_hand old) xs ys);
}

pub claims_at : (board : Board) (place : PlaceId) (r : RequestId) (old new : Hand) (claim : Claim) → IsRequest (plan_of board) r → admits_at (plan_of board) place r ≡ true →
    ClaimsOne board r place old new claim → ClaimsAt board place old new claim
claims_at board place r old new claim of_plan admitted one = record {
  hand = one.hand;
  request = subst (IsRequest (plan_of board)) (sym one.request) of_plan;
  admitted = ap (admits_at (plan_of board) place) one.request ∙ admitted;
  at_place = one.at_place;
  waits = one.waits;
  steps = [];
  found = one.found ∙ ap (λ (z : RequestId). found_by_hand old ++ (request_word z, released) ∷ []) (sym one.request);
}

pub claims_after : (board : Board) (place : PlaceId) (old mid new : Hand) (claim : Claim) (xs : List (ℕ × ℕ)) → ClaimsNone board old mid xs → ClaimsAt board place mid new claim →
    ClaimsAt board place old new claim
claims_after board place old mid new claim xs first second = let last : List (ℕ × ℕ) = (request_word (claim_request claim), released) ∷ [] in record {
  hand = stays_after board old mid new first.hand second.hand;
  request = second.request;
  admitted = second.admitted;
  at_place = second.at_place;
  waits = second.waits;
  steps = xs ++ second.steps;
  found = second.found ∙ (ap (λ (z : List (ℕ × ℕ)). z ++ (second.steps ++ last)) first.found ∙ (append_assoc (found_by_hand old) xs (second.steps ++ last)
      ∙ ap (λ (z : List (ℕ × ℕ)). found_by_hand old ++ z) (sym (append_assoc xs second.steps last))));
}

-- what a later call answers is answered by both calls
pub claimed_after : (board : Board) (place : PlaceId) (old mid new : Hand) (xs : List (ℕ × ℕ)) → ClaimsNone board old mid xs → (o : Option Claim) →
    IfSome o (λ claim. ClaimsAt board place mid new claim) → IfSome o (λ claim. ClaimsAt board place old new claim)
claimed_after board place old mid new xs first None h = tt
claimed_after board place old mid new xs first (Some claim) h = claims_after board place old mid new claim xs first h

pub missed_after : (board : Board) (place : PlaceId) (old mid new : Hand) (xs : List (ℕ × ℕ)) → ClaimsNone board old mid xs → (o : Option Claim) →
    IfNone o (MissesAll board place mid new) → IfNone o (MissesAll board place old new)
missed_after board place old mid new xs first None h = record {
  steps = xs ++ h.steps;
  made = none_after board old mid new xs h.steps first h.made;
  missed = are_missed_back (plan_of board) place xs h.steps (count_of_requests (plan_of board)) h.missed;
}
missed_after board place old mid new xs first (Some claim) h = tt

-- it holds whatever the answer is
pub if_none : (o : Option Claim) (P : Type 0) → P → IfNone o P
if_none None P holds = holds
if_none (Some claim) P holds = tt

pub none_found : (board : Board) (place : PlaceId) (old new : Hand) (o : Option Claim) → IfNone o (MissesAll board place old new) → IfNone o (FindsNone board place old new)
none_found board place old new None h = record { steps = h.steps; made = h.made; cause = inr h.missed }
none_found board place old new (Some claim) h = tt

-- a step on another word
pub one_step : (board : Board) (word : ℕ) (IsSo : ℕ → Type 0) (old new : Hand) → Stays board old new → doing_of old ≡ Idle → doing_of new ≡ doing_of old →
    (a : AddsOne word IsSo (found_by_hand old) (found_by_hand new)) → ClaimsNone board old new ((word, a.0) ∷ [])
one_step board word IsSo old new stays idle same a = record { hand = stays; idle = same ∙ idle; found = a.2 }

-- a look at the word of a place
pub looked_at_place : (board : Board) (place : PlaceId) (answer : Bool) (old new : Hand) → Stays board old new → doing_of old ≡ Idle → doing_of new ≡ doing_of old →
    (f : FindsOpen board place answer old new) → ClaimsNone board old new ((place_word (plan_of board) place, f.0) ∷ [])
looked_at_place board place answer old new stays idle same f = one_step board (place_word (plan_of board) place) (IsFlagSeen answer) old new stays idle same f

-- a switch that is not found on is found off
pub found_off : (n : ℕ) → n ≤ 1 → (n == 1) ≡ false → n ≡ 0
found_off zero l e = refl
found_off (suc zero) l e = absurd (cc)
found_off (suc (suc n)) l e = absurd (omega arith)

-- ---- hints

-- one exchange on the word of a request, whatever it answers
pub next_one : (board : Board) (place : PlaceId) (r : RequestId) (old new : Hand) (o : Option Claim) →
    IfSome o (λ claim. ClaimsOne board r place old new claim) → IfNone o (MissesOne board r old new) → LooksNextAt r old new
next_one board place r old new None a b = (b.found.0, [], b.found.2)
next_one board place r old new (Some claim) a b = (released, [], a.found)

-- what comes after a step
after_next : (r : RequestId) (old mid new : Hand) (ys : List (ℕ × ℕ)) → LooksNextAt r old mid → found_by_hand new ≡ found_by_hand mid ++ ys → LooksNextAt r old new
after_next r old mid new ys next is = (next.0, next.1 ++ ys, is ∙ (ap (λ (z : List (ℕ × ℕ)). z ++ ys) next.2 ∙ append_assoc (found_by_hand old) ((request_word r, next.0) ∷ next.1) ys))

pub next_then_any : (board : Board) (place : PlaceId) (r : RequestId) (old mid new : Hand) (o : Option Claim) → LooksNextAt r old mid →
    IfSome o (λ claim. ClaimsAt board place mid new claim) → IfNone o (MissesAll board place mid new) → LooksNextAt r old new
next_then_any board place r old mid new None next a b = after_next r old mid new b.steps next b.made.found
next_then_any board place r old mid new (Some claim) next a b = after_next r old mid new (a.steps ++ (request_word (claim_request claim), released) ∷ []) next a.found

pub hint_then_any : (board : Board) (plan : Plan) (place : PlaceId) (hint : Option RequestId) (old mid new : Hand) (o : Option Claim) → LooksNextAtHint plan place hint old mid →
    IfSome o (λ claim. ClaimsAt board place mid new claim) → IfNone o (MissesAll board place mid new) → LooksNextAtHint plan place hint old new
hint_then_any board plan place None old mid new o next a b = tt
hint_then_any board plan place (Some r) old mid new o next a b = λ admitted. next_then_any board place r old mid new o (next admitted) a b

-- no manager admits it
pub no_manager : (plan : Plan) (place : PlaceId) (hint : Option RequestId) (old new : Hand) → manager_at plan place ≡ None → LooksNextAtHint plan place hint old new
no_manager plan place None old new none = tt
no_manager plan place (Some r) old new none = λ admitted. absurd (true≢false (sym admitted ∙ ap (some_and (admits_request plan r)) none))

pub none_admitted : (plan : Plan) (place : PlaceId) (steps : List (ℕ × ℕ)) (count : ℕ) → manager_at plan place ≡ None → AreMissed plan place steps count
none_admitted plan place steps count none r from_one within admitted = absurd (true≢false (sym admitted ∙ ap (some_and (admits_request plan r)) none))

-- the place was found closed, or open
pub closed_hint : (board : Board) (place : PlaceId) (hint : Option RequestId) (old new : Hand) → found_by_hand new ≡ found_by_hand old ++ (place_word (plan_of board) place, 0) ∷ [] → FollowsHint board place hint old new
closed_hint board place None old new is = tt
closed_hint board place (Some r) old new is = λ _. inl is

pub open_hint : (board : Board) (place : PlaceId) (hint : Option RequestId) (old mid new : Hand) → found_by_hand mid ≡ found_by_hand old ++ (place_word (plan_of board) place, 1) ∷ [] →
    LooksNextAtHint (plan_of board) place hint mid new → FollowsHint board place hint old new
open_hint board place None old mid new is next = tt
open_hint board place (Some r) old mid new is next = λ admitted. let t = next admitted in
    inr (t.0, t.1, t.2 ∙ (ap (λ (z : List (ℕ × ℕ)). z ++ (request_word r, t.0) ∷ t.1) is ∙ append_assoc (found_by_hand old) ((place_word (plan_of board) place, 1) ∷ []) ((request_word r, t.0) ∷ t.1)))
