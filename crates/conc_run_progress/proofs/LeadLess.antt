-- Each move of the lead makes the measure less.
use Rattle.std.proofs.Common.{◌≡◌, ℕ, ◌+◌, ◌/◌, ◌<◌, ◌≢◌, Bool, true, false, if◌then◌else◌, List, Option, length, set, reverse, slice_index, refl, sym, ap, ◌∙◌, subst, inl, inr, arith, eq-eqb, get_or-set_other, get_or-set_same}
use mathlib.Core.Option.{none, some}
use lib.ListN.{get_elem?}
use Rattle.atomic_table.specs.Table.{Act, Me, carried_after, stepped}
use Rattle.conc_types.specs.declared.event.Event.{Event}
use Rattle.conc_types.specs.declared.event.Event.TheVariants as event
use Rattle.conc_types.specs.declared.event.PlaceId.{PlaceId}
use Rattle.conc_types.specs.declared.event.RequestId.{RequestId}
use Rattle.conc_types.specs.declared.plan.Plan.{Plan}
use Rattle.conc_types.specs.declared.script.Reading.{Reading}
use Rattle.conc_types.specs.declared.script.Readings.{Readings}
use Rattle.conc_base_law.specs.Places.{count_of_places}
use Rattle.conc_board.specs.Permits.{SitsAt}
use Rattle.conc_board.specs.Seats.{lead_state_of}
use Rattle.conc_board.specs.declared.lead.Lead.{Lead}
use Rattle.conc_board.proofs.Leads.{lead_state_there}
use Rattle.conc_pool_seats.specs.LeadStates.{cleared, got, lead_state_at, lead_state_in, looked}
use Rattle.conc_pool_seats.specs.Rule.{BoardState, Fits, Home, Keep, doing_at, home_at, view_at}
use Rattle.conc_pool_seats.specs.Steps.{Slot, got_leaves}
use Rattle.conc_pool_seats.specs.Words.{IsPlace, IsRequest, claimed, count_of_requests, count_of_words, done, ended, idle, place_in, place_word, released, request_of, request_word}
use Rattle.conc_pool_seats.specs.declared.views.Doing.{Doing}
use Rattle.conc_pool_seats.specs.declared.views.LeadState.{LeadState}
use Rattle.conc_pool_seats.specs.declared.views.LeadState.TheVariants.{NotLet, Let, Seen, Gone, Got, Done}
use Rattle.conc_pool_seats.specs.declared.views.View.{View}
use Rattle.conc_pool_seats.proofs.Facts.{at_view}
use Rattle.conc_pool_seats.proofs.Moves.{led}
use Rattle.conc_run_progress.specs.Boards.{is_usable_after, slot_of, word_of}
use Rattle.conc_run_progress.specs.LeadMoves.{CanCollect, CanLetOut, CanOpen, CanSee, HasAnswer, LeadMove, answers, collects, lets_out, opens, sees}
use Rattle.conc_run_progress.specs.Measure.{IsLess, closed_count, closed_places, lead_state_weight, measure_of, unfit_claims, unfit_count, word_weight}
use Rattle.conc_run_progress.specs.Moves.{AnswersTo, GetsTo, LeadLeaves, LetsOutTo, OpensTo, SeesTo, WithdrawsTo, WritesDone, on_word}
use Rattle.conc_run_progress.proofs.Below.{balance, sum-one, sum-same}
use Rattle.conc_run_progress.proofs.Board.{at_place, few, fits_as}
use Rattle.conc_run_progress.proofs.Lighter.{IsFitter, IsLighter, closed_at, fitter-at, lead_changes, lead_lighter, less-fitter, less-lighter, unfit_at, unfit_count-claim, unfit_count-no_claim}
use Rattle.conc_run_progress.proofs.Logged.{fewer_events}

-- numbers
let_out_weighs : (b : ℕ) → 7 < 8 + b
let_out_weighs b = omega arith

seen_weighs : (b : ℕ) → 3 + b < 4 + b
seen_weighs b = omega arith

got_weighs : (b : ℕ) → 1 + b < 2 + b
got_weighs b = omega arith

done_weighs : (b : ℕ) → 0 < 1 + b
done_weighs b = omega arith

opened_less : (a a' b b' : ℕ) → a' + 1 ≡ a + 0 → b' ≡ b → a' + b' < a + b
opened_less a a' b b' sum same = omega (arith, sum, same)

one_less : (a b : ℕ) → a ≡ 0 → b ≡ 1 → a < b
one_less a b first second = omega (arith, first, second)

-- what is left for a request: its word holds no claim
ended_four : (p : PlaceId) (n : ℕ) → p.index < 64 → n ≡ ended p → n / 256 ≡ 4
ended_four p n small is = omega (arith, small, is)

ended_no_claim : (p : PlaceId) (n : ℕ) → n ≡ ended p → n / 256 ≢ 1
ended_no_claim p n is = λ e. omega (arith, is, e)

-- a claim that the lead looks at
abbrev seen_if : ℕ → Bool → LeadState
seen_if n b = if b then Seen (place_in 256 n) else Let

looked_at : (n : ℕ) (p : PlaceId) → p.index < 64 → n ≡ claimed p → looked Let n ≡ Seen (place_in 256 n)
looked_at n p small is = ap (seen_if n) (eq-eqb (n / 256) 1 (omega (arith, small, is)))

-- it is that of a place of the plan
claimed_near : (plan : Plan) (at : PlaceId → Doing) (r : RequestId) (p : PlaceId) (word : ℕ) (home : Home) → Fits plan at r Let word home → word ≡ claimed p → IsPlace plan p
claimed_near plan at r p word home (inl free, empty) is = absurd (omega (arith, free, is))
claimed_near plan at r p word home (inr t, empty) is = let near = t.1 in let claim = t.2 in record { within = let front : t.0.index < count_of_places plan = near.within in omega (arith, front, claim, is) }

module _ (plan : Plan) (list : List Event) (lead : Lead) (s : BoardState) (sits : SitsAt plan s lead) where
  here : (lead.seat.id < length s.views) × (view_at s.views lead.seat.id ≡ lead.seat.me.0)
  here = at_view s.views lead.seat.id lead.seat.me.0 sits.1

  all_states : length lead.seat.me.0.lead_states ≡ count_of_requests plan
  all_states = let l = led plan s sits.0 lead.seat.id lead.seat.me.0 sits.1 lead.leads in l.all_lead_states

  all_words : length s.words ≡ count_of_words plan
  all_words = let k = sits.0 in k.all_words

  inside : (r : RequestId) → IsRequest plan r → request_word r < count_of_requests plan
  inside r is = omega (arith, is.from_one, is.within)

  at_request : (r : RequestId) (old : LeadState) → IsRequest plan r → lead_state_of lead r ≡ old → lead_state_at lead.seat.me.0.lead_states (request_word r) ≡ old
  at_request r old is so = lead_state_there lead.seat.me.0.lead_states r (request_word r) (λ _. request_word r) is.from_one ∙ so

  -- a step of the lead's on the word of a request, by which it knows another lead state
  lighter : (r : RequestId) (n : ℕ) (old new : LeadState) (view : View) (act : Act Slot) → IsRequest plan r → lead_state_of lead r ≡ old
      → view.lead_states ≡ set lead.seat.me.0.lead_states (request_word r) new → view.doing ≡ lead.seat.me.0.doing
      → unfit_count (is_usable_after plan (reverse list)) n ≡ unfit_count (is_usable_after plan (reverse list)) (word_of s r)
      → lead_state_weight new + word_weight n < lead_state_weight old + word_weight (word_of s r)
      → IsLighter plan (reverse list) lead.seat.id s (stepped s (request_word r) n lead.seat.id lead.seat.me.1 view act)
  lighter r n old new view act is so states doing fit less =
      lead_lighter plan (reverse list) s lead.seat.id lead.seat.me.0 view lead.seat.me.1 act here.0 here.1 all_states all_words (request_word r) n old new (inside r is)
      (at_request r old is so) states doing fit less

  -- ---- a request is let out, and seen claimed

  let_out_lighter : (can : CanLetOut plan list lead s) (next : BoardState) → LetsOutTo plan list lead s can next → IsLighter plan (reverse list) lead.seat.id s next
  let_out_lighter can next to =
      subst (IsLighter plan (reverse list) lead.seat.id s) (sym to.3)
      (lighter can.request released NotLet Let to.0 to.1 can.of_plan can.lead_state (ap (λ (v : View). v.lead_states) to.2.0) (ap (λ (v : View). v.doing) to.2.0)
      (sym (ap (unfit_count (is_usable_after plan (reverse list))) can.word)) (let_out_weighs (word_weight (word_of s can.request))))

  see_lighter : (can : CanSee plan lead s) (next : BoardState) → SeesTo plan lead s can next → IsLighter plan (reverse list) lead.seat.id s next
  see_lighter can next to =
      let near = claimed_near plan (at_place plan lead s sits) can.request can.place (word_of s can.request) (slot_of s can.request) (fits_as plan lead s sits can.request Let can.of_plan can.lead_state) can.word in
      let seen : looked (lead_state_at lead.seat.me.0.lead_states (request_word can.request)) (word_of s can.request) ≡ Seen (place_in 256 (word_of s can.request)) =
      ap (λ (z : LeadState). looked z (word_of s can.request)) (at_request can.request Let can.of_plan can.lead_state)
      ∙ looked_at (word_of s can.request) can.place (few plan lead s sits can.place near) can.word in
      subst (IsLighter plan (reverse list) lead.seat.id s) (sym to.3)
      (lighter can.request (word_of s can.request) Let (Seen (place_in 256 (word_of s can.request))) to.0 to.1 can.of_plan can.lead_state
      (ap (λ (v : View). v.lead_states) to.2.0 ∙ ap (λ (z : LeadState). set lead.seat.me.0.lead_states (request_word can.request) z) seen) (ap (λ (v : View). v.doing) to.2.0)
      refl (seen_weighs (word_weight (word_of s can.request))))

  -- ---- a claim at a place that may not be used is withdrawn

  withdraw_fitter : (r : RequestId) (p : PlaceId) (next : BoardState) → IsRequest plan r → lead_state_of lead r ≡ Seen p → word_of s r ≡ claimed p
      → is_usable_after plan (reverse list) p ≡ false → WithdrawsTo plan lead s r next → IsFitter plan (reverse list) s next
  withdraw_fitter r p next is so word unusable to =
      let near = fits_as plan lead s sits r (Seen p) is so in
      let one : unfit_count (is_usable_after plan (reverse list)) (word_of s r) ≡ 1 =
      ap (unfit_count (is_usable_after plan (reverse list))) word ∙ unfit_count-claim (is_usable_after plan (reverse list)) p false (few plan lead s sits p near.0) unusable in
      subst (IsFitter plan (reverse list) s) (sym to.3)
      (fitter-at plan (reverse list) lead.seat.id (request_word r) s (stepped s (request_word r) idle lead.seat.id lead.seat.me.1 to.0 to.1) (Seen p) NotLet idle
      (lead_changes plan (reverse list) s lead.seat.id lead.seat.me.0 to.0 lead.seat.me.1 to.1 here.0 here.1 all_states all_words (request_word r) idle (Seen p) NotLet (inside r is)
      (at_request r (Seen p) is so) (ap (λ (v : View). v.lead_states) to.2.0))
      (one_less (unfit_count (is_usable_after plan (reverse list)) idle) (unfit_count (is_usable_after plan (reverse list)) (word_of s r)) refl one))

  -- ---- what was left for a request is taken

  -- what the lead knows once it has the slot
  got_view : (r : RequestId) (p : PlaceId) (m : Bool) (view : View) (act : Act Slot) → IsRequest plan r → lead_state_of lead r ≡ Gone p m → word_of s r ≡ ended p
      → got_leaves (on_word plan (request_word r) 0) lead.seat.me (word_of s r) (view, carried_after lead.seat.me.1 act)
      → (view.lead_states ≡ set lead.seat.me.0.lead_states (request_word r) (Got p m)) × (view.doing ≡ lead.seat.me.0.doing)
  got_view r p m view act is so word leaves =
      let near = fits_as plan lead s sits r (Gone p m) is so in
      let taken = (leaves.0 (ended_four p (word_of s r) (few plan lead s sits p near.0) word)).1 in (
        ap (λ (v : View). v.lead_states) taken.1 ∙ ap (λ (z : LeadState). set lead.seat.me.0.lead_states (request_word r) (got z)) (at_request r (Gone p m) is so),
        ap (λ (v : View). v.doing) taken.1,
      )

  get_lighter : (kept : Option Event) (can : CanCollect plan list kept lead s) (next : BoardState) → GetsTo plan list kept lead s can next → IsLighter plan (reverse list) lead.seat.id s next
  get_lighter kept can next to =
      let view = got_view can.request can.place can.marked to.0 to.1 can.of_plan can.lead_state can.word to.2 in
      subst (IsLighter plan (reverse list) lead.seat.id s) (sym to.3)
      (lighter can.request (word_of s can.request) (Gone can.place can.marked) (Got can.place can.marked) to.0 to.1 can.of_plan can.lead_state view.0 view.1 refl
      (got_weighs (word_weight (word_of s can.request))))

  -- ---- a place is opened

  opened_fitter : (can : CanOpen plan list s) (view : View) (act : Act Slot) → IsFitter plan (reverse list) s (stepped s (place_word plan can.place) 1 lead.seat.id lead.seat.me.1 view act)
  opened_fitter can view act =
      let next : BoardState = stepped s (place_word plan can.place) 1 lead.seat.id lead.seat.me.1 view act in
      let near : can.place.index < count_of_places plan = let of_plan = can.of_plan in of_plan.within in
      let usable : is_usable_after plan (reverse list) can.place ≡ true = can.usable in
      let there : slice_index (set s.words (place_word plan can.place) 1) (place_word plan can.place) ≡ 1 =
      get_or-set_same s.words (place_word plan can.place) 1 0 (omega (arith, near, all_words)) in
      opened_less (closed_places plan (reverse list) s) (closed_places plan (reverse list) next) (unfit_claims plan (reverse list) s) (unfit_claims plan (reverse list) next)
      (balance (closed_places plan (reverse list) next) (closed_places plan (reverse list) next) (closed_places plan (reverse list) s) (closed_at plan (reverse list) s can.place.index) 1
      (closed_at plan (reverse list) next can.place.index) 0
      (sum-one (count_of_places plan) (closed_at plan (reverse list) next) (closed_at plan (reverse list) s) can.place.index near
      (λ k other. ap (closed_count (is_usable_after plan (reverse list) (record { index = k })))
      (get_or-set_other s.words (place_word plan can.place) (count_of_requests plan + k) 1 0 (λ e. other (omega (arith, e))))))
      refl (λ x. closed_count (usable x) (can.closed x)) (λ x. closed_count (usable x) (there x)))
      (sum-same (count_of_requests plan) (unfit_at plan (reverse list) next) (unfit_at plan (reverse list) s)
      (λ j below. ap (unfit_count (is_usable_after plan (reverse list))) (get_or-set_other s.words (place_word plan can.place) j 1 0 (λ e. omega (arith, e, below)))))

  open_fitter : (can : CanOpen plan list s) (next : BoardState) → OpensTo plan list lead s can next → IsFitter plan (reverse list) s next
  open_fitter can next to = subst (IsFitter plan (reverse list) s) (sym to.3) (opened_fitter can to.0 to.1)

-- ---- the second step of a collect

done_lighter : (plan : Plan) (list : List Event) (lead : ℕ) (me : Me Slot View) (s next : BoardState) (r : RequestId) (p : PlaceId) (m : Bool) (k : Keep plan s)
    → get_elem? s.views lead ≡ some me.0 → me.0.leads ≡ true → IsRequest plan r → lead_state_in me.0.lead_states r ≡ Got p m → WritesDone plan s lead me r next
    → IsLighter plan (reverse list) lead s next
done_lighter plan list lead me s next r p m k at leads is so to =
    let l = led plan s k lead me.0 at leads in
    let here = at_view s.views lead me.0 at in
    let small : request_word r < count_of_requests plan = omega (arith, is.from_one, is.within) in
    let was : lead_state_at me.0.lead_states (request_word r) ≡ Got p m = lead_state_there me.0.lead_states r (request_word r) (λ _. request_word r) is.from_one ∙ so in
    let fits : IsPlace plan p × (slice_index s.words (request_word r) ≡ ended p) × (home_at s.homes (request_word r) ≡ none) =
    subst (λ (z : LeadState). Fits plan (doing_at s.views k.owner) (request_of (request_word r)) z (slice_index s.words (request_word r)) (home_at s.homes (request_word r))) was (l.fits (request_word r) small) in
    subst (IsLighter plan (reverse list) lead s) (sym to.3)
    (lead_lighter plan (reverse list) s lead me.0 to.0 me.1 to.1 here.0 here.1 l.all_lead_states k.all_words (request_word r) done (Got p m) (Done m) small was
    (ap (λ (v : View). v.lead_states) to.2.0 ∙ ap (λ (z : LeadState). set me.0.lead_states (request_word r) (cleared z)) was) (ap (λ (v : View). v.doing) to.2.0)
    (sym (unfit_count-no_claim (is_usable_after plan (reverse list)) (slice_index s.words (request_word r)) (ended_no_claim p (slice_index s.words (request_word r)) fits.1)))
    (done_weighs (word_weight (slice_index s.words (request_word r)))))

pub done_less : (plan : Plan) (readings : Readings) (list : List Event) (lead : ℕ) (me : Me Slot View) (s next : BoardState) (r : RequestId) (p : PlaceId) (m : Bool) → Keep plan s
    → get_elem? s.views lead ≡ some me.0 → me.0.leads ≡ true → IsRequest plan r → lead_state_in me.0.lead_states r ≡ Got p m → WritesDone plan s lead me r next
    → IsLess (measure_of plan readings.list list lead next) (measure_of plan readings.list list lead s)
done_less plan readings list lead me s next r p m k at leads is so to = less-lighter plan readings.list list lead s next (done_lighter plan list lead me s next r p m k at leads is so to)

-- ---- all moves

-- with the same list
on_list : (plan : Plan) (readings : List Reading) (list list' : List Event) (lead : ℕ) (s next : BoardState) → list' ≡ list → IsLess (measure_of plan readings list lead next) (measure_of plan readings list lead s)
    → IsLess (measure_of plan readings list' lead next) (measure_of plan readings list lead s)
on_list plan readings list list' lead s next same less = subst (λ (l : List Event). IsLess (measure_of plan readings l lead next) (measure_of plan readings list lead s)) (sym same) less

answer_less : (plan : Plan) (readings : Readings) (list list' : List Event) (kept : Option Event) (lead : Lead) (s next : BoardState) (r : RequestId) (p : PlaceId)
    (answer : HasAnswer plan readings.list list kept r p) → SitsAt plan s lead → IsRequest plan r → lead_state_of lead r ≡ Seen p → word_of s r ≡ claimed p
    → AnswersTo plan readings.list list kept lead s r p answer list' next → IsLess (measure_of plan readings.list list' lead.seat.id next) (measure_of plan readings.list list lead.seat.id s)
answer_less plan readings list list' kept lead s next r p (inl start) sits is so word to =
    subst (λ (l : List Event). IsLess (measure_of plan readings.list l lead.seat.id next) (measure_of plan readings.list list lead.seat.id s)) (sym to)
    (inl (fewer_events plan readings list (event.Started r p) refl start.0))
answer_less plan readings list list' kept lead s next r p (inr unusable) sits is so word to =
    on_list plan readings.list list list' lead.seat.id s next to.0
    (less-fitter plan readings.list list lead.seat.id s next (withdraw_fitter plan list lead s sits r p next is so word unusable to.1))

pub lead_move_less : (plan : Plan) (readings : Readings) (list list' : List Event) (kept : Option Event) (lead : Lead) (s next : BoardState) (move : LeadMove plan readings.list list kept lead s)
    → SitsAt plan s lead → LeadLeaves plan readings.list list kept lead s move list' next
    → IsLess (measure_of plan readings.list list' lead.seat.id next) (measure_of plan readings.list list lead.seat.id s)
lead_move_less plan readings list list' kept lead s next (opens can) sits to =
    on_list plan readings.list list list' lead.seat.id s next to.0 (less-fitter plan readings.list list lead.seat.id s next (open_fitter plan list lead s sits can next to.1))
lead_move_less plan readings list list' kept lead s next (lets_out can) sits to =
    on_list plan readings.list list list' lead.seat.id s next to.0 (less-lighter plan readings.list list lead.seat.id s next (let_out_lighter plan list lead s sits can next to.1))
lead_move_less plan readings list list' kept lead s next (sees can) sits to =
    on_list plan readings.list list list' lead.seat.id s next to.0 (less-lighter plan readings.list list lead.seat.id s next (see_lighter plan list lead s sits can next to.1))
lead_move_less plan readings list list' kept lead s next (answers can) sits to =
    answer_less plan readings list list' kept lead s next can.request can.place can.answer sits can.of_plan can.lead_state can.word to
lead_move_less plan readings list list' kept lead s next (collects can) sits to =
    on_list plan readings.list list list' lead.seat.id s next to.0 (less-lighter plan readings.list list lead.seat.id s next (get_lighter plan list lead s sits kept can next to.1))
