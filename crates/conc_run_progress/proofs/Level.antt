-- A stop that wins and the close of a place that may not be used leave the measure.
use Rattle.std.proofs.Common.{◌≡◌, ℕ, ◌+◌, ◌/◌, ◌<◌, ◌≢◌, Bool, true, false, if◌then◌else◌, List, set, reverse, slice_index, refl, sym, ap, ◌∙◌, subst, arith, eq-eqb, get_or-set_other}
use mathlib.Core.Logic.{dite}
use native.Mathlib.Decide.{ℕ_discrete}
use Rattle.atomic_table.specs.Table.{Act, stepped}
use Rattle.conc_types.specs.declared.event.Event.{Event}
use Rattle.conc_types.specs.declared.event.PlaceId.{PlaceId}
use Rattle.conc_types.specs.declared.event.RequestId.{RequestId}
use Rattle.conc_types.specs.declared.plan.Plan.{Plan}
use Rattle.conc_types.specs.declared.script.Readings.{Readings}
use Rattle.conc_base_law.specs.Places.{count_of_places}
use Rattle.conc_board.specs.Permits.{SitsAt}
use Rattle.conc_board.specs.Seats.{lead_state_of}
use Rattle.conc_board.specs.declared.lead.Lead.{Lead}
use Rattle.conc_board.proofs.Leads.{lead_state_there}
use Rattle.conc_pool_seats.specs.LeadStates.{lead_state_at, marked}
use Rattle.conc_pool_seats.specs.Rule.{BoardState, view_at}
use Rattle.conc_pool_seats.specs.Steps.{Slot, noted, with_lead_state}
use Rattle.conc_pool_seats.specs.Words.{IsPlace, IsRequest, count_of_requests, place_word, request_word, running, stopping}
use Rattle.conc_pool_seats.specs.declared.views.LeadState.{LeadState}
use Rattle.conc_pool_seats.specs.declared.views.LeadState.TheVariants.{Gone}
use Rattle.conc_pool_seats.specs.declared.views.View.{View}
use Rattle.conc_pool_seats.proofs.Facts.{at_view, same_part}
use Rattle.conc_pool_seats.proofs.Moves.{led}
use Rattle.conc_run_progress.specs.Boards.{is_usable_after, word_of}
use Rattle.conc_run_progress.specs.Measure.{closed_count, closed_places, doing_weight, lead_state_weight, measure_of, requests_weight, seats_weight, unfit_claims, unfit_count, word_weight}
use Rattle.conc_run_progress.specs.Moves.{ClosesTo, StopsTo}
use Rattle.conc_run_progress.proofs.Below.{sum-same}
use Rattle.conc_run_progress.proofs.Lighter.{closed_at, kept_sum, lead_changes, level-at, request_weight, same_measure, seats-after, unfit_at, unfit_count-no_claim, word_weight-other}

-- words that are no claims, or not that of a request let out
running_other : (p : PlaceId) → running p ≢ 1
running_other p = λ e. omega (arith, e)

stopping_other : (p : PlaceId) → stopping p ≢ 1
stopping_other p = λ e. omega (arith, e)

running_no_claim : (p : PlaceId) → running p / 256 ≢ 1
running_no_claim p = λ e. omega (arith, e)

stopping_no_claim : (p : PlaceId) → stopping p / 256 ≢ 1
stopping_no_claim p = λ e. omega (arith, e)

-- numbers
same_light : (a x y : ℕ) → x ≡ 0 → y ≡ 0 → a + x ≡ a + y
same_light a x y first second = omega (arith, first, second)

both_same : (a a' b b' : ℕ) → a' ≡ a → b' ≡ b → a' + b' ≡ a + b
both_same a a' b b' first second = omega (arith, first, second)

-- ---- a stop

-- the lead's view, by whether the stop won
abbrev stopped_view : View → ℕ → ℕ → Bool → View
stopped_view v i n b = if b then with_lead_state v i (marked (lead_state_at v.lead_states i)) n else noted v i n

pub stop_level : (plan : Plan) (readings : Readings) (list : List Event) (lead : Lead) (s next : BoardState) (r : RequestId) (p : PlaceId) (m : Bool)
    → SitsAt plan s lead → IsRequest plan r → lead_state_of lead r ≡ Gone p m → word_of s r ≡ running p → StopsTo plan lead s r p next
    → measure_of plan readings.list list lead.seat.id next ≡ measure_of plan readings.list list lead.seat.id s
stop_level plan readings list lead s next r p m sits is so word to =
    let k = sits.0 in
    let l = led plan s sits.0 lead.seat.id lead.seat.me.0 sits.1 lead.leads in
    let here = at_view s.views lead.seat.id lead.seat.me.0 sits.1 in
    let small : request_word r < count_of_requests plan = omega (arith, is.from_one, is.within) in
    let was : lead_state_at lead.seat.me.0.lead_states (request_word r) ≡ Gone p m = lead_state_there lead.seat.me.0.lead_states r (request_word r) (λ _. request_word r) is.from_one ∙ so in
    let won : to.0 ≡ stopped_view lead.seat.me.0 (request_word r) (word_of s r) true = to.2.0 ∙ ap (stopped_view lead.seat.me.0 (request_word r) (word_of s r)) (eq-eqb (word_of s r) (running p) word) in
    let fit : unfit_count (is_usable_after plan (reverse list)) (word_of s r) ≡ 0 =
    ap (unfit_count (is_usable_after plan (reverse list))) word ∙ unfit_count-no_claim (is_usable_after plan (reverse list)) (running p) (running_no_claim p) in
    let light : word_weight (word_of s r) ≡ 0 = ap word_weight word ∙ word_weight-other (running p) (running_other p) in
    subst (λ (z : BoardState). measure_of plan readings.list list lead.seat.id z ≡ measure_of plan readings.list list lead.seat.id s) (sym to.3)
    (level-at plan readings list lead.seat.id (request_word r) s (stepped s (request_word r) (stopping p) lead.seat.id lead.seat.me.1 to.0 to.1) (Gone p m) (Gone p true) (stopping p)
    (lead_changes plan (reverse list) s lead.seat.id lead.seat.me.0 to.0 lead.seat.me.1 to.1 here.0 here.1 l.all_lead_states k.all_words (request_word r) (stopping p) (Gone p m) (Gone p true) small was
    (ap (λ (v : View). v.lead_states) won ∙ ap (λ (z : LeadState). set lead.seat.me.0.lead_states (request_word r) (marked z)) was))
    (doing_weight lead.seat.me.0.doing) (doing_weight to.0.doing) (seats-after s (request_word r) (stopping p) lead.seat.id lead.seat.me.1 lead.seat.me.0 to.0 to.1 here.0 here.1)
    (ap (λ (v : View). doing_weight v.doing) won)
    (unfit_count-no_claim (is_usable_after plan (reverse list)) (stopping p) (stopping_no_claim p) ∙ sym fit)
    (same_light 2 (word_weight (stopping p)) (word_weight (word_of s r)) (word_weight-other (stopping p) (stopping_other p)) light))

-- ---- the close of a place

-- a place that may not be used counts for nothing
closed_count-unusable : (b : Bool) (n n' : ℕ) → b ≡ false → closed_count b n ≡ closed_count b n'
closed_count-unusable false n n' h = refl
closed_count-unusable true n n' h = cc

module _ (plan : Plan) (list : List Event) (lead : Lead) (s : BoardState) (sits : SitsAt plan s lead) (p : PlaceId) (view : View) (act : Act Slot)
    (states : view.lead_states ≡ lead.seat.me.0.lead_states) (doing : view.doing ≡ lead.seat.me.0.doing) where
  abbrev closed : BoardState
  closed = stepped s (place_word plan p) 0 lead.seat.id lead.seat.me.1 view act

  -- the words of requests, and of other places, are as they were
  request_same : (j : ℕ) → j < count_of_requests plan → slice_index closed.words j ≡ slice_index s.words j
  request_same j below = get_or-set_other s.words (place_word plan p) j 0 0 (λ e. omega (arith, e, below))

  place_same : (k : ℕ) → k ≢ p.index → slice_index closed.words (count_of_requests plan + k) ≡ slice_index s.words (count_of_requests plan + k)
  place_same k other = get_or-set_other s.words (place_word plan p) (count_of_requests plan + k) 0 0 (λ e. other (omega (arith, e)))

  closed_same : is_usable_after plan (reverse list) p ≡ false → closed_places plan (reverse list) closed ≡ closed_places plan (reverse list) s
  closed_same unusable = sum-same (count_of_places plan) (closed_at plan (reverse list) closed) (closed_at plan (reverse list) s) (λ k below. dite (ℕ_discrete k p.index)
      (λ here. closed_count-unusable (is_usable_after plan (reverse list) (record { index = k })) (slice_index closed.words (count_of_requests plan + k)) (slice_index s.words (count_of_requests plan + k))
      (ap (λ (n : ℕ). is_usable_after plan (reverse list) (record { index = n })) here ∙ unusable))
      (λ other. ap (closed_count (is_usable_after plan (reverse list) (record { index = k }))) (place_same k other)))

  claims_same : unfit_claims plan (reverse list) closed ≡ unfit_claims plan (reverse list) s
  claims_same = sum-same (count_of_requests plan) (unfit_at plan (reverse list) closed) (unfit_at plan (reverse list) s)
      (λ j below. ap (unfit_count (is_usable_after plan (reverse list))) (request_same j below))

  states_same : (view_at closed.views lead.seat.id).lead_states ≡ (view_at s.views lead.seat.id).lead_states
  states_same = same_part (λ u. u.lead_states) s.views lead.seat.id lead.seat.me.0 view sits.1 states lead.seat.id

  requests_same : requests_weight plan lead.seat.id closed ≡ requests_weight plan lead.seat.id s
  requests_same = sum-same (count_of_requests plan) (request_weight closed lead.seat.id) (request_weight s lead.seat.id)
      (λ j below x. lead_state_weight (lead_state_at (states_same x) j) + word_weight (request_same j below x))

  seats_same : requests_weight plan lead.seat.id closed + seats_weight closed ≡ requests_weight plan lead.seat.id s + seats_weight s
  seats_same =
      let here = at_view s.views lead.seat.id lead.seat.me.0 sits.1 in
      kept_sum (requests_weight plan lead.seat.id s) (requests_weight plan lead.seat.id closed) (seats_weight s) (seats_weight closed) (doing_weight lead.seat.me.0.doing) (doing_weight view.doing)
      requests_same (seats-after s (place_word plan p) 0 lead.seat.id lead.seat.me.1 lead.seat.me.0 view act here.0 here.1) (ap doing_weight doing)

  closed_level : (readings : Readings) → is_usable_after plan (reverse list) p ≡ false → measure_of plan readings.list list lead.seat.id closed ≡ measure_of plan readings.list list lead.seat.id s
  closed_level readings unusable =
      same_measure plan readings list lead.seat.id s closed
      (both_same (closed_places plan (reverse list) s) (closed_places plan (reverse list) closed) (unfit_claims plan (reverse list) s) (unfit_claims plan (reverse list) closed) (closed_same unusable) claims_same)
      seats_same

pub close_level : (plan : Plan) (readings : Readings) (list : List Event) (lead : Lead) (s next : BoardState) (p : PlaceId)
    → SitsAt plan s lead → IsPlace plan p → is_usable_after plan (reverse list) p ≡ false → ClosesTo plan lead s p next
    → measure_of plan readings.list list lead.seat.id next ≡ measure_of plan readings.list list lead.seat.id s
close_level plan readings list lead s next p sits near unusable to =
    subst (λ (z : BoardState). measure_of plan readings.list list lead.seat.id z ≡ measure_of plan readings.list list lead.seat.id s) (sym to.3)
    (closed_level plan list lead s sits p to.0 to.1 (ap (λ (v : View). v.lead_states) to.2.0) (ap (λ (v : View). v.doing) to.2.0) readings unusable)
