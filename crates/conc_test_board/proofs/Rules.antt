-- What the calls of a trial rest on.
use Rattle.std.proofs.Common.{◌≡◌, ◌≢◌, ℕ, zero, suc, ◌-◌, ◌<◌, ◌==◌, ◌&&◌, ◌||◌, not, if◌then◌else◌, Bool, true, false, true≢false, arith, eq-eqb, ne_eqb, List, [], ◌∷◌, ◌++◌, Option, None, Some, sym, refl, ap, ◌∙◌, subst}
use mathlib.Core.Logic.{dite}
use native.Mathlib.Decide.{ℕ_discrete}
use Rattle.std.specs.List.{list_all, slice_get}
use Rattle.conc_types.specs.declared.event.PlaceId.{PlaceId}
use Rattle.conc_types.specs.declared.event.RequestId.{RequestId}
use Rattle.conc_types.specs.declared.plan.Plan.{Plan}
use Rattle.conc_types.specs.declared.plan.Req.{Req}
use Rattle.conc_types.specs.Plans.{request}
use Rattle.conc_types.specs.Words.{numbered, some_and}
use Rattle.conc_base_law.specs.Plans.{are_exclusive}
use Rattle.conc_pool_seats.specs.declared.views.LeadState.{LeadState}
use Rattle.conc_pool_seats.specs.declared.views.LeadState.TheVariants.{NotLet, Let, Seen, Gone, Got, Done}
use Rattle.conc_pool_seats.specs.Places.{has, without}
use Rattle.conc_pool_seats.specs.Rule.{exclude}
use Rattle.conc_pool_seats.specs.LeadStates.{IsGone, IsLet}
use Rattle.conc_pool_seats.proofs.Facts.{place_eq}
use Rattle.conc_board.specs.declared.board.Board.{Board}
use Rattle.conc_board.specs.declared.lead.Lead.{Lead}
use Rattle.conc_board.specs.declared.lead.Looked.{Looked}
use Rattle.conc_board.specs.declared.lead.Looked.TheVariants.{Free, Claimed, Running, Ended}
use Rattle.conc_board.specs.Looks.{Looks}
use Rattle.conc_board.specs.Seats.{Changes, LeavesLeadStates, lead_state_of}
use Rattle.conc_pool_lanes.specs.Lanes.{AreHandPasses, IsHandPassOf}
use Rattle.conc_pool_lanes.specs.declared.lanes.HandPass.{HandPass}
use Rattle.conc_pool_lanes.specs.declared.lanes.Lanes.{Lanes}
use Rattle.conc_test_board.specs.Rounds.{AreBothLet, IsSeen, OnlyOne}

-- ---- exclusion

and_true : (a b : Bool) → a && b ≡ true → (a ≡ true) × (b ≡ true)
and_true true b e = (refl, e)
and_true false b e = absurd (cc)

not_true : (b : Bool) → not b ≡ true → b ≡ false
not_true true e = absurd (cc)
not_true false e = refl

all_at : (test : Req → Bool) (xs : List Req) (i : ℕ) (x : Req) → list_all test xs ≡ true → slice_get xs i ≡ Some x → test x ≡ true
all_at test [] i x all e = absurd (cc)
all_at test (y ∷ ys) zero x all e = let same : y ≡ x = cc in ap test (sym same) ∙ (and_true (test y) (list_all test ys) all).0
all_at test (y ∷ ys) (suc i) x all e = all_at test ys i x (and_true (test y) (list_all test ys) all).1 e

all_numbered : (test : Req → Bool) (xs : List Req) (n : ℕ) (x : Req) → list_all test xs ≡ true → numbered xs n ≡ Some x → test x ≡ true
all_numbered test xs n x all e = go (n == 0) e
  where
    go : (b : Bool) → (if b then None else slice_get xs (n - 1)) ≡ Some x → test x ≡ true
    go true e = absurd (cc)
    go false e = all_at test xs (n - 1) x all e

none_of : (f : Req → Bool) (o : Option Req) → ((y : Req) → o ≡ Some y → f y ≡ false) → some_and f o ≡ false
none_of f None h = refl
none_of f (Some y) h = h y refl

pub excludes_no : (plan : Plan) (r : RequestId) (x : Req) → request plan r ≡ Some x → list_all (λ y. not (are_exclusive plan x y)) plan.requests ≡ true → (q : RequestId) → exclude plan r q ≡ false
unfolding request
excludes_no plan r x found all q = ap (λ (o : Option Req). some_and (λ z. some_and (λ y. are_exclusive plan z y) (request plan q)) o) found
    ∙ none_of (are_exclusive plan x) (request plan q) (λ y e. not_true (are_exclusive plan x y) (all_numbered (λ y. not (are_exclusive plan x y)) plan.requests q.number y all e))

pub excludes_no_other : (plan : Plan) (r : RequestId) → request plan r ≡ None → (q : RequestId) → exclude plan r q ≡ false
excludes_no_other plan r none q = ap (λ (o : Option Req). some_and (λ z. some_and (λ y. are_exclusive plan z y) (request plan q)) o) none

-- ---- looks

pub let_still : (plan : Plan) (answer : Looked) (old new : LeadState) → Looks plan answer old new → IsLet old → IsLet new × IsSeen answer new
let_still plan Free old new l is = (subst IsLet (sym l.1) tt, tt)
let_still plan (Claimed p) old new l is = (subst IsLet (sym l.2) tt, l.2)
let_still plan (Running p) old new l is = absurd (subst IsLet l.1.1 is)
let_still plan (Ended p) old new l is = absurd (subst IsLet l.1.1 is)

pub gone_still : (plan : Plan) (answer : Looked) (old new : LeadState) → Looks plan answer old new → IsGone old → new ≡ old
gone_still plan Free old new l is = absurd (subst IsGone l.0 is)
gone_still plan (Claimed p) old new l is = absurd (both old l.1 is)
  where
    both : (st : LeadState) → IsLet st → IsGone st → ⊥
    both NotLet a b = a
    both Let a b = b
    both (Seen p) a b = b
    both (Gone p m) a b = a
    both (Got p m) a b = a
    both (Done m) a b = a
gone_still plan (Running p) old new l is = l.1.2
gone_still plan (Ended p) old new l is = l.1.2

-- ---- calls on one request

pub only_one : (board : Board) (r : RequestId) (old new : Lead) → Changes board r old new → OnlyOne board r old new
only_one board r old new c = record { lead = c.lead; others = c.others }

pub only_one_kept : (board : Board) (r : RequestId) (old new : Lead) → LeavesLeadStates board old new → OnlyOne board r old new
only_one_kept board r old new k = record { lead = k.lead; others = λ q other. k.lead_states.each q }

pub only_one_after : (board : Board) (r : RequestId) (old mid new : Lead) → OnlyOne board r old mid → OnlyOne board r mid new → OnlyOne board r old new
only_one_after board r old mid new first second = record { lead = second.lead; others = λ q other. second.others q other ∙ first.others q other }

-- ---- three places

either_front : (b c d : Bool) → (c ≡ true → d ≡ true) → b || c ≡ true → b || d ≡ true
either_front true c d more e = refl
either_front false c d more e = more e

either_back : (b d : Bool) → d ≡ true → b || d ≡ true
either_back true d e = refl
either_back false d e = e

has_front : (ps qs : List PlaceId) (p : PlaceId) → has ps p ≡ true → has (ps ++ qs) p ≡ true
has_front [] qs p e = absurd (cc)
has_front (a ∷ ps) qs p e = either_front (a.index == p.index) (has ps p) (has (ps ++ qs) p) (has_front ps qs p) e

has_back : (ps qs : List PlaceId) (p : PlaceId) → has qs p ≡ true → has (ps ++ qs) p ≡ true
has_back [] qs p e = e
has_back (a ∷ ps) qs p e = either_back (a.index == p.index) (has (ps ++ qs) p) (has_back ps qs p e)

-- one place is kept, or passed on
kept_or_passed : (q : PlaceId) (qs ps : List PlaceId) (p : PlaceId) → ((has qs p ≡ true) → has (without qs ps) p ≡ true) → has (q ∷ qs) p ≡ true → has ps p ≡ false → (b : Bool) → has ps q ≡ b →
    has (if b then without qs ps else q ∷ without qs ps) p ≡ true
kept_or_passed q qs ps p more e away true is = dite (ℕ_discrete q.index p.index)
    (λ same. absurd (true≢false (sym is ∙ (ap (has ps) (place_eq q p same) ∙ away))))
    (λ other. more (sym (ap (λ b. b || has qs p) (ne_eqb q.index p.index other)) ∙ e))
kept_or_passed q qs ps p more e away false is = dite (ℕ_discrete q.index p.index)
    (λ same. ap (λ b. b || has (without qs ps) p) (eq-eqb q.index p.index same))
    (λ other. ap (λ b. b || has (without qs ps) p) (ne_eqb q.index p.index other) ∙ more (sym (ap (λ b. b || has qs p) (ne_eqb q.index p.index other)) ∙ e))

-- a place that is not passed on stays
pub has_without : (qs ps : List PlaceId) (p : PlaceId) → has qs p ≡ true → has ps p ≡ false → has (without qs ps) p ≡ true
has_without [] ps p e away = absurd (cc)
has_without (q ∷ qs) ps p e away = kept_or_passed q qs ps p (λ h. has_without qs ps p h away) e away (has ps q) refl

-- three lists with one of the places 0, 1 and 2 each have them all
pub three_have : (one two three rest : List PlaceId) → has one (record { index = 0 }) ≡ true → has two (record { index = 1 }) ≡ true → has three (record { index = 2 }) ≡ true →
    (p : PlaceId) → p.index < 3 → has (three ++ (two ++ (one ++ rest))) p ≡ true
three_have one two three rest a b c p small = dite (ℕ_discrete p.index 0)
    (λ e. has_back three (two ++ (one ++ rest)) p (has_back two (one ++ rest) p (has_front one rest p (ap (has one) (place_eq p (record { index = 0 }) e) ∙ a))))
    (λ more. dite (ℕ_discrete p.index 1)
    (λ e. has_back three (two ++ (one ++ rest)) p (has_front two (one ++ rest) p (ap (has two) (place_eq p (record { index = 1 }) e) ∙ b)))
    (λ yet. has_front three (two ++ (one ++ rest)) p (ap (has three) (place_eq p (record { index = 2 }) (omega arith)) ∙ c)))

-- requests with two numbers are two
pub two_requests : (r q : RequestId) → r.number ≢ q.number → r ≢ q
two_requests r q other e = other (ap (λ (z : RequestId). z.number) e)

-- ---- passes

-- of passes the last is one, and so are the others
passes_apart : (lanes : Lanes) (rest : List HandPass) (last : HandPass) → AreHandPasses lanes (rest ++ last ∷ []) → IsHandPassOf lanes last × AreHandPasses lanes rest
unfolding AreHandPasses
passes_apart lanes [] last are = (are.0, tt)
passes_apart lanes (x ∷ rest) last are = let both = passes_apart lanes rest last are.1 in (both.0, (are.0, both.1))

pub passes_last : (lanes : Lanes) (passes rest : List HandPass) (last : HandPass) → passes ≡ rest ++ last ∷ [] → AreHandPasses lanes passes → IsHandPassOf lanes last × AreHandPasses lanes rest
passes_last lanes passes rest last e are = passes_apart lanes rest last (subst (AreHandPasses lanes) e are)

-- ---- the requests 1 and 2

abbrev one : RequestId
one = record { number = 1 }

abbrev two : RequestId
two = record { number = 2 }

pub two_not_one : two ≢ one
two_not_one = two_requests two one (λ e. omega arith)

-- a call on one of them that leaves it let leaves both so
pub both_one : (board : Board) (old new : Lead) → AreBothLet board old → OnlyOne board one old new → IsLet (lead_state_of new one) → AreBothLet board new
both_one board old new both only is = record { lead_of_board = only.lead; one = is; two = subst IsLet (sym (only.others two two_not_one)) both.two }

pub both_two : (board : Board) (old new : Lead) → AreBothLet board old → OnlyOne board two old new → IsLet (lead_state_of new two) → AreBothLet board new
both_two board old new both only is = record { lead_of_board = only.lead; one = subst IsLet (sym (only.others one (λ e. two_not_one (sym e)))) both.one; two = is }

-- both are let out, and then a call on no request
pub both_let : (board : Board) (first second last : Lead) → lead_state_of first one ≡ Let → OnlyOne board two first second → lead_state_of second two ≡ Let → LeavesLeadStates board second last → AreBothLet board last
both_let board first second last is_one only is_two kept = record {
  lead_of_board = kept.lead;
  one = subst IsLet (sym (kept.lead_states.each one ∙ (only.others one (λ e. two_not_one (sym e)) ∙ is_one))) tt;
  two = subst IsLet (sym (kept.lead_states.each two ∙ is_two)) tt;
}
