-- How one step on a board changes the second and the third number of the measure.
use Rattle.std.proofs.Common.{◌≡◌, ℕ, ◌+◌, ◌/◌, ◌<◌, ◌≢◌, Bool, if◌then◌else◌, List, length, set, get_or, reverse, slice_index, refl, sym, ap, ◌∙◌, inl, inr, arith, eq-eqb, ne_eqb, length-set, get_or-set_other, get_or-set_same}
use mathlib.Core.Option.{some}
use lib.ListN.{get_elem?}
use lib.Seq.{set-get_or}
use Rattle.atomic_table.specs.Table.{Act, Me, stepped}
use Rattle.conc_types.specs.declared.event.Event.{Event}
use Rattle.conc_types.specs.declared.event.PlaceId.{PlaceId}
use Rattle.conc_types.specs.declared.plan.Plan.{Plan}
use Rattle.conc_types.specs.declared.script.Reading.{Reading}
use Rattle.conc_types.specs.declared.script.Readings.{Readings}
use Rattle.conc_base_law.specs.Places.{count_of_places}
use Rattle.conc_base_law.specs.Remaining.{remaining}
use Rattle.conc_pool_seats.specs.LeadStates.{lead_state_at}
use Rattle.conc_pool_seats.specs.Rule.{BoardState, nobody, view_at}
use Rattle.conc_pool_seats.specs.Steps.{Slot}
use Rattle.conc_pool_seats.specs.Words.{claimed, count_of_requests, count_of_words, place_in}
use Rattle.conc_pool_seats.specs.declared.views.LeadState.{LeadState}
use Rattle.conc_pool_seats.specs.declared.views.LeadState.TheVariants.{NotLet}
use Rattle.conc_pool_seats.specs.declared.views.View.{View}
use Rattle.conc_pool_seats.proofs.Facts.{at_view, place_eq, same_part}
use Rattle.conc_run_progress.specs.Boards.{is_usable_after}
use Rattle.conc_run_progress.specs.Measure.{IsLess, closed_count, closed_places, doing_weight, lead_state_weight, measure_of, requests_weight, seats_weight, sum_below, unfit_claims, unfit_count, word_weight}
use Rattle.conc_run_progress.proofs.Below.{balance, sum-one, sum-same}

-- ---- words

abbrev three_if : Bool → ℕ
three_if b = if b then 3 else 0

abbrev pub none_if : Bool → ℕ
none_if b = if b then 0 else 1

abbrev only_if : ℕ → Bool → ℕ
only_if x b = if b then x else 0

-- a word that is not that of a request let out
pub word_weight-other : (n : ℕ) → n ≢ 1 → word_weight n ≡ 0
word_weight-other n other = ap three_if (ne_eqb n 1 other)

-- one that is no claim
pub unfit_count-no_claim : (usable : PlaceId → Bool) (n : ℕ) → n / 256 ≢ 1 → unfit_count usable n ≡ 0
unfit_count-no_claim usable n other = ap (only_if (none_if (usable (place_in 256 n)))) (ne_eqb (n / 256) 1 other)

-- a claim, by whether the place may be used
pub unfit_count-claim : (usable : PlaceId → Bool) (p : PlaceId) (b : Bool) → p.index < 64 → usable p ≡ b → unfit_count usable (claimed p) ≡ none_if b
unfit_count-claim usable p b few is =
    let back : place_in 256 (claimed p) ≡ p = place_eq (place_in 256 (claimed p)) p (omega (arith, few)) in
    ap (only_if (none_if (usable (place_in 256 (claimed p))))) (eq-eqb (claimed p / 256) 1 (omega (arith, few))) ∙ ap none_if (ap usable back ∙ is)

-- ---- seats

abbrev seat_weight : List View → ℕ → ℕ
seat_weight views j = doing_weight (view_at views j).doing

-- the seats together, after a step of the one with this number
pub seats-after : (s : BoardState) (i n seat : ℕ) (cs : List (ℕ × Slot)) (v w : View) (act : Act Slot) → seat < length s.views → view_at s.views seat ≡ v
    → seats_weight (stepped s i n seat cs w act) + doing_weight v.doing ≡ seats_weight s + doing_weight w.doing
seats-after s i n seat cs v w act near was =
    balance (sum_below (length s.views) (seat_weight (set s.views seat w))) (sum_below (length (set s.views seat w)) (seat_weight (set s.views seat w)))
    (sum_below (length s.views) (seat_weight s.views)) (seat_weight s.views seat) (doing_weight v.doing) (seat_weight (set s.views seat w) seat) (doing_weight w.doing)
    (sum-one (length s.views) (seat_weight (set s.views seat w)) (seat_weight s.views) seat near
    (λ j other. ap (λ (u : View). doing_weight u.doing) (get_or-set_other s.views seat j w nobody other)))
    (ap (λ (count : ℕ). sum_below count (seat_weight (set s.views seat w))) (length-set s.views seat w))
    (ap (λ (u : View). doing_weight u.doing) was)
    (ap (λ (u : View). doing_weight u.doing) (get_or-set_same s.views seat w nobody near))

-- ---- one request

-- The word with this number is that of a request. It holds n then, and the lead knows another lead state of the request; no other word and no other lead state changed.
pub record ChangesAt (plan : Plan) (lead i : ℕ) (s next : BoardState) (old new : LeadState) (n : ℕ) : Type 0 where
  pub inside : i < count_of_requests plan
  pub was : lead_state_at (view_at s.views lead).lead_states i ≡ old
  pub is : lead_state_at (view_at next.views lead).lead_states i ≡ new
  pub word : slice_index next.words i ≡ n
  pub states : (j : ℕ) → j ≢ i → lead_state_at (view_at next.views lead).lead_states j ≡ lead_state_at (view_at s.views lead).lead_states j
  pub words : (j : ℕ) → j ≢ i → slice_index next.words j ≡ slice_index s.words j

abbrev pub request_weight : BoardState → ℕ → ℕ → ℕ
request_weight s lead j = lead_state_weight (lead_state_at (view_at s.views lead).lead_states j) + word_weight (slice_index s.words j)

abbrev pub unfit_at : Plan → List Event → BoardState → ℕ → ℕ
unfit_at plan past s j = unfit_count (is_usable_after plan past) (slice_index s.words j)

abbrev pub closed_at : Plan → List Event → BoardState → ℕ → ℕ
closed_at plan past s k = closed_count (is_usable_after plan past (record { index = k })) (slice_index s.words (count_of_requests plan + k))

module _ (plan : Plan) (past : List Event) (lead i : ℕ) (s next : BoardState) (old new : LeadState) (n : ℕ) (c : ChangesAt plan lead i s next old new n) where
  requests-after : requests_weight plan lead next + (lead_state_weight old + word_weight (slice_index s.words i)) ≡ requests_weight plan lead s + (lead_state_weight new + word_weight n)
  requests-after =
      balance (sum_below (count_of_requests plan) (request_weight next lead)) (sum_below (count_of_requests plan) (request_weight next lead))
      (sum_below (count_of_requests plan) (request_weight s lead)) (request_weight s lead i) (lead_state_weight old + word_weight (slice_index s.words i))
      (request_weight next lead i) (lead_state_weight new + word_weight n)
      (sum-one (count_of_requests plan) (request_weight next lead) (request_weight s lead) i c.inside
      (λ j other x. lead_state_weight (c.states j other x) + word_weight (c.words j other x)))
      refl (λ x. lead_state_weight (c.was x) + word_weight (slice_index s.words i)) (λ x. lead_state_weight (c.is x) + word_weight (c.word x))

  pub claims-after : unfit_claims plan past next + unfit_at plan past s i ≡ unfit_claims plan past s + unfit_count (is_usable_after plan past) n
  claims-after =
      balance (sum_below (count_of_requests plan) (unfit_at plan past next)) (sum_below (count_of_requests plan) (unfit_at plan past next))
      (sum_below (count_of_requests plan) (unfit_at plan past s)) (unfit_at plan past s i) (unfit_at plan past s i)
      (unfit_at plan past next i) (unfit_count (is_usable_after plan past) n)
      (sum-one (count_of_requests plan) (unfit_at plan past next) (unfit_at plan past s) i c.inside (λ j other. ap (unfit_count (is_usable_after plan past)) (c.words j other)))
      refl refl (ap (unfit_count (is_usable_after plan past)) c.word)

  pub closed-after : closed_places plan past next ≡ closed_places plan past s
  closed-after = let near = c.inside in sum-same (count_of_places plan) (closed_at plan past next) (closed_at plan past s)
      (λ k below. ap (closed_count (is_usable_after plan past (record { index = k }))) (c.words (count_of_requests plan + k) (λ e. omega (arith, e, near))))

-- ---- the second and the third number

-- the second number is the same, and the third is less
abbrev pub IsLighter : Plan → List Event → ℕ → BoardState → BoardState → Type 0
IsLighter plan past lead s next =
    (closed_places plan past next + unfit_claims plan past next ≡ closed_places plan past s + unfit_claims plan past s)
    × (requests_weight plan lead next + seats_weight next < requests_weight plan lead s + seats_weight s)

-- the second is less
abbrev pub IsFitter : Plan → List Event → BoardState → BoardState → Type 0
IsFitter plan past s next = closed_places plan past next + unfit_claims plan past next < closed_places plan past s + unfit_claims plan past s

pub less-lighter : (plan : Plan) (readings : List Reading) (list : List Event) (lead : ℕ) (s next : BoardState) → IsLighter plan (reverse list) lead s next
    → IsLess (measure_of plan readings list lead next) (measure_of plan readings list lead s)
less-lighter plan readings list lead s next h = inr (refl, inr (h.0, h.1))

pub less-fitter : (plan : Plan) (readings : List Reading) (list : List Event) (lead : ℕ) (s next : BoardState) → IsFitter plan (reverse list) s next
    → IsLess (measure_of plan readings list lead next) (measure_of plan readings list lead s)
less-fitter plan readings list lead s next h = inr (refl, inl h)

-- numbers
same_sum : (a a' b b' u u' : ℕ) → a' ≡ a → b' + u ≡ b + u' → u' ≡ u → a' + b' ≡ a + b
same_sum a a' b b' u u' same sum equal = omega (arith, same, sum, equal)

less_sum : (a a' b b' u u' : ℕ) → a' ≡ a → b' + u ≡ b + u' → u' < u → a' + b' < a + b
less_sum a a' b b' u u' same sum less = omega (arith, same, sum, less)

less_both : (r r' q q' a a' d d' : ℕ) → r' + a ≡ r + a' → q' + d ≡ q + d' → a' + d' < a + d → r' + q' < r + q
less_both r r' q q' a a' d d' requests seats less = omega (arith, requests, seats, less)

module _ (plan : Plan) (past : List Event) (lead i : ℕ) (s next : BoardState) (old new : LeadState) (n : ℕ) (c : ChangesAt plan lead i s next old new n) where
  -- d and d' : what the seat that makes the step weighs before and after
  pub lighter-at : (d d' : ℕ) → seats_weight next + d ≡ seats_weight s + d' → unfit_count (is_usable_after plan past) n ≡ unfit_count (is_usable_after plan past) (slice_index s.words i)
      → lead_state_weight new + word_weight n + d' < lead_state_weight old + word_weight (slice_index s.words i) + d → IsLighter plan past lead s next
  lighter-at d d' seats fit less = (
    same_sum (closed_places plan past s) (closed_places plan past next) (unfit_claims plan past s) (unfit_claims plan past next) (unfit_at plan past s i)
        (unfit_count (is_usable_after plan past) n) (closed-after plan past lead i s next old new n c) (claims-after plan past lead i s next old new n c) fit,
    less_both (requests_weight plan lead s) (requests_weight plan lead next) (seats_weight s) (seats_weight next)
        (lead_state_weight old + word_weight (slice_index s.words i)) (lead_state_weight new + word_weight n) d d' (requests-after plan past lead i s next old new n c) seats less,
  )

  pub fitter-at : unfit_count (is_usable_after plan past) n < unfit_count (is_usable_after plan past) (slice_index s.words i) → IsFitter plan past s next
  fitter-at less =
      less_sum (closed_places plan past s) (closed_places plan past next) (unfit_claims plan past s) (unfit_claims plan past next) (unfit_at plan past s i)
      (unfit_count (is_usable_after plan past) n) (closed-after plan past lead i s next old new n c) (claims-after plan past lead i s next old new n c) less

-- the measure is the same where both numbers are, with the same list
pub same_measure : (plan : Plan) (readings : Readings) (list : List Event) (lead : ℕ) (s next : BoardState)
    → closed_places plan (reverse list) next + unfit_claims plan (reverse list) next ≡ closed_places plan (reverse list) s + unfit_claims plan (reverse list) s
    → requests_weight plan lead next + seats_weight next ≡ requests_weight plan lead s + seats_weight s
    → measure_of plan readings.list list lead next ≡ measure_of plan readings.list list lead s
same_measure plan readings list lead s next unfit weight = λ x. record { events = remaining plan readings.list (reverse list); unfit = unfit x; weight = weight x }

-- numbers
same_both : (r r' q q' a a' d d' : ℕ) → r' + a ≡ r + a' → q' + d ≡ q + d' → a' ≡ a → d' ≡ d → r' + q' ≡ r + q
same_both r r' q q' a a' d d' requests seats first second = omega (arith, requests, seats, first, second)

module _ (plan : Plan) (readings : Readings) (list : List Event) (lead i : ℕ) (s next : BoardState) (old new : LeadState) (n : ℕ) (c : ChangesAt plan lead i s next old new n) where
  pub level-at : (d d' : ℕ) → seats_weight next + d ≡ seats_weight s + d' → d' ≡ d
      → unfit_count (is_usable_after plan (reverse list)) n ≡ unfit_count (is_usable_after plan (reverse list)) (slice_index s.words i)
      → lead_state_weight new + word_weight n ≡ lead_state_weight old + word_weight (slice_index s.words i)
      → measure_of plan readings.list list lead next ≡ measure_of plan readings.list list lead s
  level-at d d' seats same fit equal =
      same_measure plan readings list lead s next
      (same_sum (closed_places plan (reverse list) s) (closed_places plan (reverse list) next) (unfit_claims plan (reverse list) s) (unfit_claims plan (reverse list) next)
      (unfit_at plan (reverse list) s i) (unfit_count (is_usable_after plan (reverse list)) n) (closed-after plan (reverse list) lead i s next old new n c)
      (claims-after plan (reverse list) lead i s next old new n c) fit)
      (same_both (requests_weight plan lead s) (requests_weight plan lead next) (seats_weight s) (seats_weight next) (lead_state_weight old + word_weight (slice_index s.words i))
      (lead_state_weight new + word_weight n) d d' (requests-after plan (reverse list) lead i s next old new n c) seats equal same)

-- ---- a step that leaves the word as it finds it, and all lead states

-- what all requests weigh, by the lead states and the words
abbrev requests_sum : Plan → List LeadState → List ℕ → ℕ
requests_sum plan ss ws = sum_below (count_of_requests plan) (λ i. lead_state_weight (lead_state_at ss i) + word_weight (slice_index ws i))

module _ (plan : Plan) (s : BoardState) (seat i : ℕ) (cs : List (ℕ × Slot)) (v w : View) (act : Act Slot) (at : get_elem? s.views seat ≡ some v) where
  pub requests-kept : (lead : ℕ) → w.lead_states ≡ v.lead_states → requests_weight plan lead (stepped s i (slice_index s.words i) seat cs w act) ≡ requests_weight plan lead s
  requests-kept lead same =
      let states : (view_at (set s.views seat w) lead).lead_states ≡ (view_at s.views lead).lead_states = same_part (λ u. u.lead_states) s.views seat v w at same lead in
      let same_words : set s.words i (get_or s.words i 0) ≡ s.words = set-get_or s.words i 0 in
      λ x. requests_sum plan (states x) (same_words x)

  pub unfit-kept : (past : List Event) → closed_places plan past (stepped s i (slice_index s.words i) seat cs w act) + unfit_claims plan past (stepped s i (slice_index s.words i) seat cs w act)
      ≡ closed_places plan past s + unfit_claims plan past s
  unfit-kept past =
      let same_words : set s.words i (get_or s.words i 0) ≡ s.words = set-get_or s.words i 0 in
      λ x. closed_places plan past (record s { words = same_words x }) + unfit_claims plan past (record s { words = same_words x })

-- numbers
pub kept_sum : (r r' q q' d d' : ℕ) → r' ≡ r → q' + d ≡ q + d' → d' ≡ d → r' + q' ≡ r + q
kept_sum r r' q q' d d' requests seats same = omega (arith, requests, seats, same)

-- where the seat does what it did, the measure is the same
pub measure_kept : (plan : Plan) (readings : Readings) (list : List Event) (lead : ℕ) (s : BoardState) (seat i : ℕ) (me : Me Slot View) (w : View) (act : Act Slot)
    → get_elem? s.views seat ≡ some me.0 → w.lead_states ≡ me.0.lead_states → doing_weight w.doing ≡ doing_weight me.0.doing
    → measure_of plan readings.list list lead (stepped s i (slice_index s.words i) seat me.1 w act) ≡ measure_of plan readings.list list lead s
measure_kept plan readings list lead s seat i me w act at states doing =
    let next : BoardState = stepped s i (slice_index s.words i) seat me.1 w act in
    let here = at_view s.views seat me.0 at in
    let unfit : closed_places plan (reverse list) next + unfit_claims plan (reverse list) next ≡ closed_places plan (reverse list) s + unfit_claims plan (reverse list) s =
    unfit-kept plan s seat i me.1 me.0 w act at (reverse list) in
    let weight : requests_weight plan lead next + seats_weight next ≡ requests_weight plan lead s + seats_weight s =
    kept_sum (requests_weight plan lead s) (requests_weight plan lead next) (seats_weight s) (seats_weight next) (doing_weight me.0.doing) (doing_weight w.doing)
    (requests-kept plan s seat i me.1 me.0 w act at lead states) (seats-after s i (slice_index s.words i) seat me.1 me.0 w act here.0 here.1) doing in
    λ x. record { events = remaining plan readings.list (reverse list); unfit = unfit x; weight = weight x }

-- ---- a step of the lead's on the word of a request, by which it knows another lead state

-- numbers
add_same : (a b d d' : ℕ) → d' ≡ d → a < b → a + d' < b + d
add_same a b d d' same less = omega (arith, same, less)

module _ (plan : Plan) (past : List Event) (s : BoardState) (seat : ℕ) (v w : View) (cs : List (ℕ × Slot)) (act : Act Slot) (near : seat < length s.views) (there : view_at s.views seat ≡ v)
    (all_states : length v.lead_states ≡ count_of_requests plan) (all_words : length s.words ≡ count_of_words plan)
    (i n : ℕ) (old new : LeadState) (inside : i < count_of_requests plan) (was : lead_state_at v.lead_states i ≡ old) (states : w.lead_states ≡ set v.lead_states i new) where
  pub lead_changes : ChangesAt plan seat i s (stepped s i n seat cs w act) old new n
  lead_changes = let now : view_at (set s.views seat w) seat ≡ w = get_or-set_same s.views seat w nobody near in record {
    inside = inside;
    was = ap (λ (u : View). lead_state_at u.lead_states i) there ∙ was;
    is = ap (λ (u : View). lead_state_at u.lead_states i) now
        ∙ (ap (λ (ss : List LeadState). lead_state_at ss i) states ∙ get_or-set_same v.lead_states i new NotLet (omega (arith, inside, all_states)));
    word = get_or-set_same s.words i n 0 (omega (arith, inside, all_words));
    states = λ j other. ap (λ (u : View). lead_state_at u.lead_states j) now
        ∙ (ap (λ (ss : List LeadState). lead_state_at ss j) states ∙ (get_or-set_other v.lead_states i j new NotLet other ∙ sym (ap (λ (u : View). lead_state_at u.lead_states j) there)));
    words = λ j other. get_or-set_other s.words i j n 0 other;
  }

  pub lead_lighter : w.doing ≡ v.doing → unfit_count (is_usable_after plan past) n ≡ unfit_count (is_usable_after plan past) (slice_index s.words i)
      → lead_state_weight new + word_weight n < lead_state_weight old + word_weight (slice_index s.words i) → IsLighter plan past seat s (stepped s i n seat cs w act)
  lead_lighter doing fit less =
      lighter-at plan past seat i s (stepped s i n seat cs w act) old new n lead_changes (doing_weight v.doing) (doing_weight w.doing) (seats-after s i n seat cs v w act near there) fit
      (add_same (lead_state_weight new + word_weight n) (lead_state_weight old + word_weight (slice_index s.words i)) (doing_weight v.doing) (doing_weight w.doing) (ap doing_weight doing) less)
