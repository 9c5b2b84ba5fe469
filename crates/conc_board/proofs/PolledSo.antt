-- What the calls of a hand that has a claim or a permit answer.
use Rattle.std.proofs.Common.{◌≡◌, ◌≢◌, ◌==◌, ◌||◌, ℕ, Bool, true, false, if◌then◌else◌, [], ◌∷◌, ◌++◌, sym, refl, ap, ◌∙◌, subst, inl, inr, arith}
use Rattle.conc_types.specs.declared.event.PlaceId.{PlaceId}
use Rattle.conc_types.specs.declared.event.RequestId.{RequestId}
use Rattle.conc_types.specs.declared.plan.Plan.{Plan}
use Rattle.conc_pool_seats.specs.declared.views.Doing.{Doing}
use Rattle.conc_pool_seats.specs.declared.views.Doing.TheVariants.{Idle, Waits, Serves}
use Rattle.conc_pool_seats.specs.declared.views.View.{View}
use Rattle.conc_pool_seats.specs.Doings.{IsWithin, polled, warned}
use Rattle.conc_pool_seats.specs.Rule.{Runs}
use Rattle.conc_pool_seats.specs.Steps.{with_doing}
use Rattle.conc_pool_seats.specs.Words.{IsPlace, IsRequest, claimed, request_word, running, stopping}
use Rattle.conc_pool_seats.proofs.HandSteps.{polled_cases, warned_cases}
use Rattle.conc_board.specs.declared.hand.Claim.{Claim}
use Rattle.conc_board.specs.declared.hand.Hand.{Hand}
use Rattle.conc_board.specs.declared.hand.Polled.{Polled}
use Rattle.conc_board.specs.declared.hand.Polled.TheVariants as answer
use Rattle.conc_board.specs.Admission.{IsAdmitted}
use Rattle.conc_board.specs.Answers.{PolledBy}
use Rattle.conc_board.specs.Claims.{HasClaim, Polls}

-- ---- what is done is within the plan

pub polled_within : (plan : Plan) (doing : Doing) (n : ℕ) → IsWithin plan doing → IsWithin plan (polled doing n)
polled_within plan Idle n within = tt
polled_within plan (Waits r p) n within = polled_cases plan (IsWithin plan) r p n (λ _. within) (λ _. within) (λ _. within) (λ _ _ _. tt)
polled_within plan (Serves r p stop) n within = within

pub warned_within : (plan : Plan) (doing : Doing) (n : ℕ) → IsWithin plan doing → IsWithin plan (warned doing n)
warned_within plan Idle n within = tt
warned_within plan (Waits r p) n within = within
warned_within plan (Serves r p stop) n within = warned_cases plan (IsWithin plan) r p n stop (λ _. within) (λ _. within)

-- ---- what is done is for a request that the place admits

pub polled_admitted : (plan : Plan) (doing : Doing) (n : ℕ) → IsAdmitted plan doing → IsAdmitted plan (polled doing n)
polled_admitted plan Idle n admitted = tt
polled_admitted plan (Waits r p) n admitted = polled_cases plan (IsAdmitted plan) r p n (λ _. admitted) (λ _. admitted) (λ _. admitted) (λ _ _ _. tt)
polled_admitted plan (Serves r p stop) n admitted = admitted

pub warned_admitted : (plan : Plan) (doing : Doing) (n : ℕ) → IsAdmitted plan doing → IsAdmitted plan (warned doing n)
warned_admitted plan Idle n admitted = tt
warned_admitted plan (Waits r p) n admitted = admitted
warned_admitted plan (Serves r p stop) n admitted = warned_cases plan (IsAdmitted plan) r p n stop (λ _. admitted) (λ _. admitted)

-- ---- a request and a place of the plan

pub waits_within : (plan : Plan) (doing : Doing) (r : RequestId) (p : PlaceId) → doing ≡ Waits r p → IsWithin plan doing → IsRequest plan r × IsPlace plan p
waits_within plan doing r p is within = subst (IsWithin plan) is within

pub serves_within : (plan : Plan) (doing : Doing) (r : RequestId) (p : PlaceId) (stop : Bool) → doing ≡ Serves r p stop → IsWithin plan doing → IsRequest plan r × IsPlace plan p
serves_within plan doing r p stop is within = subst (IsWithin plan) is within

-- ---- polls

module _ (plan : Plan) (r : RequestId) (p : PlaceId) (n : ℕ) where
  polled-running : n ≡ running p → polled (Waits r p) n ≡ Serves r p false
  polled-running e = polled_cases plan (λ d. d ≡ Serves r p false) r p n (λ _. refl) (λ x. absurd (omega arith)) (λ x. absurd (omega arith)) (λ na _ _. absurd (na e))

  polled-stopping : n ≡ stopping p → polled (Waits r p) n ≡ Serves r p true
  polled-stopping e = polled_cases plan (λ d. d ≡ Serves r p true) r p n (λ x. absurd (omega arith)) (λ _. refl) (λ x. absurd (omega arith)) (λ _ nc _. absurd (nc e))

  polled-claimed : n ≡ claimed p → polled (Waits r p) n ≡ Waits r p
  polled-claimed e = polled_cases plan (λ d. d ≡ Waits r p) r p n (λ x. absurd (omega arith)) (λ x. absurd (omega arith)) (λ _. refl) (λ _ _ nd. absurd (nd e))

  polled-other : n ≢ claimed p → n ≢ running p → n ≢ stopping p → polled (Waits r p) n ≡ Idle
  polled-other nd na nc = polled_cases plan (λ d. d ≡ Idle) r p n (λ x. absurd (na x)) (λ x. absurd (nc x)) (λ x. absurd (nd x)) (λ _ _ _. refl)

module _ (plan : Plan) (claim : Claim) (old new : Hand) (i n : ℕ) (has : HasClaim old claim) (is : new.seat.me.0 ≡ with_doing old.seat.me.0 (polled old.seat.me.0.doing n) i n) (word : i ≡ request_word claim.request) where
  does : new.seat.me.0.doing ≡ polled (Waits claim.request claim.place) n
  does = ap (λ (v : View). v.doing) is ∙ ap (λ (d : Doing). polled d n) has

  finds : (k : ℕ) → n ≡ k → new.seat.me.0.found ≡ old.seat.me.0.found ++ (request_word claim.request, k) ∷ []
  finds k e = ap (λ (v : View). v.found) is ∙ (λ x. old.seat.me.0.found ++ (word x, e x) ∷ [])

  pub polls_so : (answer : Polled) → PolledBy answer claim n → Polls answer claim old new
  polls_so (answer.Go permit) (inl e, a, b) = (a, b, (false, does ∙ (polled-running plan claim.request claim.place n e ∙ (λ x. Serves (sym a x) (sym b x) false)), finds (running claim.place) e))
  polls_so (answer.Go permit) (inr e, a, b) = (a, b, (true, does ∙ (polled-stopping plan claim.request claim.place n e ∙ (λ x. Serves (sym a x) (sym b x) true)), finds (stopping claim.place) e))
  polls_so (answer.NotYet same) (e, a, b) = (a, b, does ∙ (polled-claimed plan claim.request claim.place n e ∙ (λ x. Waits (sym a x) (sym b x))), finds (claimed claim.place) e)
  polls_so answer.Withdrawn (nd, na, nc) = (does ∙ polled-other plan claim.request claim.place n nd na nc, (n, (nd, na, nc), finds n refl))

-- ---- the stop sign

pub warned-serves : (r : RequestId) (p : PlaceId) (stop : Bool) (n : ℕ) → warned (Serves r p stop) n ≡ Serves r p ((n == stopping p) || stop)
warned-serves r p stop n = go (n == stopping p)
  where
    go : (b : Bool) → (if b then Serves r p true else Serves r p stop) ≡ Serves r p (b || stop)
    go true = refl
    go false = refl

-- what runs with the stop sign runs
pub runs_at_all : (stop : Bool) (p : PlaceId) (n : ℕ) → Runs stop p n → Runs false p n
runs_at_all true p n e = inr e
runs_at_all false p n e = e
