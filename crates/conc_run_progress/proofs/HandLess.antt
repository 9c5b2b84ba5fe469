-- Each move of a hand makes the measure less.
use Rattle.std.proofs.Common.{◌≡◌, ◌==◌, ◌∷◌, [], ℕ, ◌+◌, ◌/◌, ◌<◌, ◌≢◌, ◌⊎◌, Bool, true, if◌then◌else◌, List, None, Some, length, set, reverse, slice_index, refl, sym, ap, ◌∙◌, subst, inl, inr, arith, eq-eqb, get_or-set_other, get_or-set_same}
use mathlib.Core.Option.{some}
use lib.ListN.{get_elem?}
use Rattle.atomic_table.specs.Table.{Act, Me, stepped}
use Rattle.conc_types.specs.declared.event.Event.{Event}
use Rattle.conc_types.specs.declared.event.PlaceId.{PlaceId}
use Rattle.conc_types.specs.declared.event.RequestId.{RequestId}
use Rattle.conc_types.specs.declared.plan.Plan.{Plan}
use Rattle.conc_types.specs.declared.script.Readings.{Readings}
use Rattle.conc_board.specs.Permits.{SitsAt}
use Rattle.conc_board.specs.declared.lead.Lead.{Lead}
use Rattle.conc_board.proofs.PermitsHeld.{works}
use Rattle.conc_pool_seats.specs.Doings.{polled}
use Rattle.conc_pool_seats.specs.LeadStates.{lead_state_at}
use Rattle.conc_pool_seats.specs.Rule.{BoardState, Runs, view_at}
use Rattle.conc_pool_seats.specs.Steps.{Slot, with_doing, with_left}
use Rattle.conc_pool_seats.specs.Words.{IsPlace, IsRequest, claimed, count_of_requests, count_of_words, ended, place_in, request_of, request_word, running, stopping}
use Rattle.conc_pool_seats.specs.declared.views.Doing.{Doing}
use Rattle.conc_pool_seats.specs.declared.views.Doing.TheVariants.{Idle, Waits, Serves}
use Rattle.conc_pool_seats.specs.declared.views.LeadState.{LeadState}
use Rattle.conc_pool_seats.specs.declared.views.View.{View}
use Rattle.conc_pool_seats.proofs.Facts.{at_view, same_part}
use Rattle.conc_pool_seats.proofs.HandSteps.{polled_cases}
use Rattle.conc_run_progress.specs.Boards.{doing_in, is_usable_after, word_of}
use Rattle.conc_run_progress.specs.EachStep.{OpensOnlyWhatIsUsable}
use Rattle.conc_run_progress.specs.HandMoves.{HandMove, claims, polls, posts}
use Rattle.conc_run_progress.specs.Measure.{IsLess, doing_weight, lead_state_weight, measure_of, requests_weight, seats_weight, unfit_count, word_weight}
use Rattle.conc_run_progress.specs.Moves.{HandLeaves}
use Rattle.conc_run_progress.proofs.Board.{few, runs_there}
use Rattle.conc_run_progress.proofs.Lighter.{ChangesAt, IsLighter, less-lighter, lighter-at, requests-kept, seats-after, unfit-kept, unfit_count-claim, unfit_count-no_claim, word_weight-other}

-- numbers
claim_weighs : (a x y d d' : ℕ) → x ≡ 0 → y ≡ 3 → d ≡ 0 → d' ≡ 2 → a + x + d' < a + y + d
claim_weighs a x y d d' one two three four = omega (arith, one, two, three, four)

post_weighs : (a x y d d' : ℕ) → x ≡ 0 → d ≡ 1 → d' ≡ 0 → a + x + d' < a + y + d
post_weighs a x y d d' one two three = omega (arith, one, two, three)

poll_weighs : (r q q' d d' : ℕ) → q' + d ≡ q + d' → d' < d → r + q' < r + q
poll_weighs r q q' d d' sum less = omega (arith, sum, less)

below_two : (d d' : ℕ) → d ≡ 2 → d' < 2 → d' < d
below_two d d' two less = omega (arith, two, less)

none_below : 0 < 2
none_below = omega arith

one_below : 1 < 2
one_below = omega arith

-- words that are no claims, or not that of a request let out
claimed_other : (p : PlaceId) → claimed p ≢ 1
claimed_other p = λ e. omega (arith, e)

ended_other : (p : PlaceId) → ended p ≢ 1
ended_other p = λ e. omega (arith, e)

ended_no_claim : (p : PlaceId) → ended p / 256 ≢ 1
ended_no_claim p = λ e. omega (arith, e)

runs_no_claim : (p : PlaceId) (n : ℕ) → (n ≡ running p) ⊎ (n ≡ stopping p) → n / 256 ≢ 1
runs_no_claim p n (inl is) = λ e. omega (arith, is, e)
runs_no_claim p n (inr is) = λ e. omega (arith, is, e)

-- what a seat leaves in a slot changes nothing else of its view
left_doing : (v : View) (slots : List (ℕ × Slot)) → (with_left v slots).doing ≡ v.doing
left_doing v [] = refl
left_doing v ((i, None) ∷ slots) = refl
left_doing v ((i, Some x) ∷ slots) = refl

left_states : (v : View) (slots : List (ℕ × Slot)) → (with_left v slots).lead_states ≡ v.lead_states
left_states v [] = refl
left_states v ((i, None) ∷ slots) = refl
left_states v ((i, Some x) ∷ slots) = refl

-- a claim that found its request let out
abbrev waits_if : RequestId → PlaceId → Bool → Doing
waits_if r p b = if b then Waits r p else Idle

module _ (plan : Plan) (list : List Event) (lead : Lead) (s : BoardState) (sits : SitsAt plan s lead) (hand : ℕ) (me : Me Slot View) (there : get_elem? s.views hand ≡ some me.0) where
  here : (hand < length s.views) × (view_at s.views hand ≡ me.0)
  here = at_view s.views hand me.0 there

  all_words : length s.words ≡ count_of_words plan
  all_words = let k = sits.0 in k.all_words

  does : (d : Doing) → doing_in s hand ≡ d → me.0.doing ≡ d
  does d is = sym (ap (λ (v : View). v.doing) here.1) ∙ is

  -- a step of the hand leaves all lead states
  states_same : (w : View) → w.lead_states ≡ me.0.lead_states → (view_at (set s.views hand w) lead.seat.id).lead_states ≡ (view_at s.views lead.seat.id).lead_states
  states_same w same = same_part (λ u. u.lead_states) s.views hand me.0 w there same lead.seat.id

  hand_changes : (i n : ℕ) (w : View) (act : Act Slot) → i < count_of_requests plan → w.lead_states ≡ me.0.lead_states
      → ChangesAt plan lead.seat.id i s (stepped s i n hand me.1 w act) (lead_state_at (view_at s.views lead.seat.id).lead_states i) (lead_state_at (view_at s.views lead.seat.id).lead_states i) n
  hand_changes i n w act inside same = record {
    inside = inside;
    was = refl;
    is = ap (λ (ss : List LeadState). lead_state_at ss i) (states_same w same);
    word = get_or-set_same s.words i n 0 (omega (arith, inside, all_words));
    states = λ j other. ap (λ (ss : List LeadState). lead_state_at ss j) (states_same w same);
    words = λ j other. get_or-set_other s.words i j n 0 other;
  }

  hand_lighter : (i n : ℕ) (w : View) (act : Act Slot) → i < count_of_requests plan → w.lead_states ≡ me.0.lead_states
      → unfit_count (is_usable_after plan (reverse list)) n ≡ unfit_count (is_usable_after plan (reverse list)) (slice_index s.words i)
      → lead_state_weight (lead_state_at (view_at s.views lead.seat.id).lead_states i) + word_weight n + doing_weight w.doing
      < lead_state_weight (lead_state_at (view_at s.views lead.seat.id).lead_states i) + word_weight (slice_index s.words i) + doing_weight me.0.doing
      → IsLighter plan (reverse list) lead.seat.id s (stepped s i n hand me.1 w act)
  hand_lighter i n w act inside same fit less =
      lighter-at plan (reverse list) lead.seat.id i s (stepped s i n hand me.1 w act) (lead_state_at (view_at s.views lead.seat.id).lead_states i)
      (lead_state_at (view_at s.views lead.seat.id).lead_states i) n (hand_changes i n w act inside same) (doing_weight me.0.doing) (doing_weight w.doing)
      (seats-after s i n hand me.1 me.0 w act here.0 here.1) fit less

  -- ---- a claim

  claim_lighter : (r : RequestId) (p : PlaceId) (w : View) (act : Act Slot) → IsRequest plan r → IsPlace plan p → is_usable_after plan (reverse list) p ≡ true → word_of s r ≡ 1
      → doing_in s hand ≡ Idle → w.lead_states ≡ me.0.lead_states → w.doing ≡ waits_if (request_of (request_word r)) (place_in 256 (claimed p)) (word_of s r == 1)
      → IsLighter plan (reverse list) lead.seat.id s (stepped s (request_word r) (claimed p) hand me.1 w act)
  claim_lighter r p w act is near usable word idle same doing =
      let waits : w.doing ≡ Waits (request_of (request_word r)) (place_in 256 (claimed p)) =
      doing ∙ ap (waits_if (request_of (request_word r)) (place_in 256 (claimed p))) (eq-eqb (word_of s r) 1 word) in
      hand_lighter (request_word r) (claimed p) w act (omega (arith, is.from_one, is.within)) same
      (unfit_count-claim (is_usable_after plan (reverse list)) p true (few plan lead s sits p near) usable ∙ sym (ap (unfit_count (is_usable_after plan (reverse list))) word))
      (claim_weighs (lead_state_weight (lead_state_at (view_at s.views lead.seat.id).lead_states (request_word r))) (word_weight (claimed p)) (word_weight (word_of s r))
      (doing_weight me.0.doing) (doing_weight w.doing) (word_weight-other (claimed p) (claimed_other p)) (ap word_weight word) (ap doing_weight (does Idle idle)) (ap doing_weight waits))

  -- ---- a post

  post_lighter : (r : RequestId) (p : PlaceId) (stop : Bool) (w : View) (act : Act Slot) → doing_in s hand ≡ Serves r p stop → Runs stop p (word_of s r) → w.lead_states ≡ me.0.lead_states → w.doing ≡ Idle
      → IsLighter plan (reverse list) lead.seat.id s (stepped s (request_word r) (ended p) hand me.1 w act)
  post_lighter r p stop w act serves runs same idle =
      let is : IsRequest plan r = (works plan s sits.0 hand r p stop serves).1 in
      hand_lighter (request_word r) (ended p) w act (omega (arith, is.from_one, is.within)) same
      (unfit_count-no_claim (is_usable_after plan (reverse list)) (ended p) (ended_no_claim p)
      ∙ sym (unfit_count-no_claim (is_usable_after plan (reverse list)) (word_of s r) (runs_no_claim p (word_of s r) (runs_there stop p (word_of s r) runs))))
      (post_weighs (lead_state_weight (lead_state_at (view_at s.views lead.seat.id).lead_states (request_word r))) (word_weight (ended p)) (word_weight (word_of s r))
      (doing_weight me.0.doing) (doing_weight w.doing) (word_weight-other (ended p) (ended_other p)) (ap doing_weight (does (Serves r p stop) serves)) (ap doing_weight idle))

  -- ---- a poll that is answered: it leaves the words

  poll_lighter : (r : RequestId) (p : PlaceId) (w : View) (act : Act Slot) → doing_in s hand ≡ Waits r p → word_of s r ≢ claimed p → w.lead_states ≡ me.0.lead_states
      → w.doing ≡ polled me.0.doing (word_of s r) → IsLighter plan (reverse list) lead.seat.id s (stepped s (request_word r) (word_of s r) hand me.1 w act)
  poll_lighter r p w act waits answered same doing =
      let next : BoardState = stepped s (request_word r) (word_of s r) hand me.1 w act in
      let does_then : w.doing ≡ polled (Waits r p) (word_of s r) = doing ∙ ap (λ (d : Doing). polled d (word_of s r)) (does (Waits r p) waits) in
      let below : doing_weight (polled (Waits r p) (word_of s r)) < 2 =
      polled_cases plan (λ (d : Doing). doing_weight d < 2) r p (word_of s r) (λ e. one_below) (λ e. one_below) (λ e. absurd (answered e)) (λ a b c. none_below) in
      let requests : requests_weight plan lead.seat.id next ≡ requests_weight plan lead.seat.id s =
      requests-kept plan s hand (request_word r) me.1 me.0 w act there lead.seat.id same in (
        unfit-kept plan s hand (request_word r) me.1 me.0 w act there (reverse list),
        subst (λ (n : ℕ). n + seats_weight next < requests_weight plan lead.seat.id s + seats_weight s) (sym requests)
            (poll_weighs (requests_weight plan lead.seat.id s) (seats_weight s) (seats_weight next) (doing_weight me.0.doing) (doing_weight w.doing)
            (seats-after s (request_word r) (word_of s r) hand me.1 me.0 w act here.0 here.1)
            (below_two (doing_weight me.0.doing) (doing_weight w.doing) (ap doing_weight (does (Waits r p) waits)) (subst (λ (d : Doing). doing_weight d < 2) (sym does_then) below))),
      )

-- ---- all moves

pub hand_move_less : (plan : Plan) (readings : Readings) (list : List Event) (lead : Lead) (s next : BoardState) (hand : ℕ) (move : HandMove plan s hand)
    → SitsAt plan s lead → OpensOnlyWhatIsUsable plan (reverse list) s → HandLeaves plan s hand move next
    → IsLess (measure_of plan readings.list list lead.seat.id next) (measure_of plan readings.list list lead.seat.id s)
hand_move_less plan readings list lead s next hand (claims can) sits opens to =
    less-lighter plan readings.list list lead.seat.id s next
    (subst (IsLighter plan (reverse list) lead.seat.id s) (sym to.2.3)
    (claim_lighter plan list lead s sits hand to.0 to.1 can.request can.place to.2.0 to.2.1 can.request_of_plan can.place_of_plan (opens.each can.place can.place_of_plan can.open_there) can.word can.idle
    (ap (λ (v : View). v.lead_states) to.2.2.0) (ap (λ (v : View). v.doing) to.2.2.0)))
hand_move_less plan readings list lead s next hand (polls can) sits opens to =
    less-lighter plan readings.list list lead.seat.id s next
    (subst (IsLighter plan (reverse list) lead.seat.id s) (sym to.2.3)
    (poll_lighter plan list lead s sits hand to.0 to.1 can.request can.place to.2.0 to.2.1 can.waits can.answered
    (ap (λ (v : View). v.lead_states) to.2.2.0) (ap (λ (v : View). v.doing) to.2.2.0)))
hand_move_less plan readings list lead s next hand (posts can) sits opens to =
    less-lighter plan readings.list list lead.seat.id s next
    (subst (IsLighter plan (reverse list) lead.seat.id s) (sym to.2.3)
    (post_lighter plan list lead s sits hand to.0 to.1 can.request can.place can.stop to.2.0 to.2.1 can.serves can.runs
    (ap (λ (v : View). v.lead_states) to.2.2.0 ∙ left_states (with_doing to.0.0 Idle (request_word can.request) (word_of s can.request)) to.0.1)
    (ap (λ (v : View). v.doing) to.2.2.0 ∙ left_doing (with_doing to.0.0 Idle (request_word can.request) (word_of s can.request)) to.0.1)))
