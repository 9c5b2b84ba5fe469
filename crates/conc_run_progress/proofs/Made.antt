-- Each move can be made.
use Rattle.std.proofs.Common.{◌≡◌, ◌∷◌, ◌++◌, [], ℕ, zero, suc, eqb, ◌<◌, ◌≤◌, ◌⊎◌, Bool, true, false, List, Option, Some, slice_index, refl, sym, ap, ◌∙◌, subst, inl, inr, arith, eq-eqb}
use mathlib.Core.Option.{none, some}
use lib.ListN.{get_elem?}
use prog.Atomic.{either}
use Rattle.atomic_table.specs.Table.{Allows, Me, step, stepped}
use Rattle.conc_types.specs.declared.event.Event.{Event}
use Rattle.conc_types.specs.declared.event.Event.TheVariants as event
use Rattle.conc_types.specs.declared.event.PlaceId.{PlaceId}
use Rattle.conc_types.specs.declared.event.RequestId.{RequestId}
use Rattle.conc_types.specs.declared.plan.Plan.{Plan}
use Rattle.conc_types.specs.declared.script.Reading.{Reading}
use Rattle.conc_board.specs.Permits.{SitsAt}
use Rattle.conc_board.specs.Seats.{lead_state_of}
use Rattle.conc_board.specs.declared.lead.Lead.{Lead}
use Rattle.conc_board.proofs.Leads.{lead_state_in-word, lead_state_there, request_there}
use Rattle.conc_board.proofs.PermitsHeld.{works}
use Rattle.conc_pool_seats.specs.LeadStates.{IsLet, IsLetOrGone, IsLive, IsSettled, lead_state_at}
use Rattle.conc_pool_seats.specs.Places.{has}
use Rattle.conc_pool_seats.specs.Rule.{BoardState, Fits, Home, Keep, Works, doing_at, exclude, home_at, nobody, view_at}
use Rattle.conc_pool_seats.specs.Steps.{Slot, StepLeaves, back_leaves, claim_leaves, got_leaves, let_out_leaves, look_leaves, poll_leaves, post_leaves, switch_leaves}
use Rattle.conc_base_law.specs.Places.{count_of_places}
use Rattle.conc_pool_seats.specs.Words.{IsPlace, IsRequest, claimed, count_of_requests, ended, place_word, request_of, request_word}
use Rattle.conc_pool_seats.specs.declared.posted.Posted.TheVariants.{NoMemory}
use Rattle.conc_pool_seats.specs.declared.views.Doing.{Doing}
use Rattle.conc_pool_seats.specs.declared.views.Doing.TheVariants.{Idle, Waits, Serves}
use Rattle.conc_pool_seats.specs.declared.views.LeadState.{LeadState}
use Rattle.conc_pool_seats.specs.declared.views.LeadState.TheVariants.{NotLet, Let, Seen, Gone, Got, Done}
use Rattle.conc_pool_seats.specs.declared.views.View.{View}
use Rattle.conc_pool_seats.proofs.HandSteps.{claims as claims_allowed, polls as polls_allowed, posts as posts_allowed}
use Rattle.conc_pool_seats.proofs.LeadSteps.{collects as collects_allowed, lets_out as lets_out_allowed, looks as looks_allowed, switches as switches_allowed, withdraws as withdraws_allowed}
use Rattle.conc_run_desk.specs.Seated.{IsSeated}
use Rattle.conc_run_progress.specs.Boards.{doing_in, word_of}
use Rattle.conc_run_progress.specs.HandMoves.{CanClaim, CanPoll, CanPost, HandMove, claims, polls, posts}
use Rattle.conc_run_progress.specs.LeadMoves.{CanCollect, CanLetOut, CanOpen, CanSee, HasAnswer, LeadMove, answers, collects, lets_out, opens, sees}
use Rattle.conc_run_progress.specs.Moves.{AnswersTo, HandLeaves, LeadLeaves, MakesStep}

-- a step that the rule allows
abbrev Makes : Plan → BoardState → ℕ → Me Slot View → ℕ → ℕ → ℕ → ℕ → StepLeaves → Type 0
Makes plan s seat me i first second value leaves =
    (next : BoardState) × Keep plan next × MakesStep s seat me (step (count_of_requests plan) i first second none) value leaves next

allowed : (plan : Plan) (s : BoardState) (k : Keep plan s) (seat : ℕ) (me : Me Slot View) (i first second value : ℕ) (f : ℕ → ℕ) (leaves : StepLeaves) → get_elem? s.views seat ≡ some me.0
    → slice_index s.words i < 18446744073709551616 → f (slice_index s.words i) ≡ value
    → Allows (Keep plan) (count_of_requests plan) seat me i f (leaves (step (count_of_requests plan) i first second none) me) → Makes plan s seat me i first second value leaves
allowed plan s k seat me i first second value f leaves at small same allows =
    let t = allows s k k.all_slots at small in
    subst (λ (n : ℕ). Makes plan s seat me i first second n leaves) same (stepped s i (f (slice_index s.words i)) seat me.1 t.0 t.1, t.3, (t.0, t.1, t.4, refl))

-- words are small
small_0 : (n : ℕ) → n ≡ 0 → n < 18446744073709551616
small_0 n is = omega (arith, is)

small_1 : (n : ℕ) → n ≡ 1 → n < 18446744073709551616
small_1 n is = omega (arith, is)

small_fits : (plan : Plan) (at : PlaceId → Doing) (r : RequestId) (st : LeadState) (n : ℕ) (home : Home) → count_of_places plan ≤ 64 → Fits plan at r st n home → n < 18446744073709551616
small_fits plan at r NotLet n home few f = small_0 n f.0
small_fits plan at r Let n home few (inl free, empty) = small_1 n free
small_fits plan at r Let n home few (inr t, empty) = let near = t.1 in let claim = t.2 in omega (arith, near.within, few, claim)
small_fits plan at r (Seen p) n home few f = let near = f.0 in let claim = f.1 in omega (arith, near.within, few, claim)
small_fits plan at r (Gone p true) n home few (near, inl run) = let word = run.0 in omega (arith, near.within, few, word)
small_fits plan at r (Gone p false) n home few (near, inl run) = let word = run.0 in omega (arith, near.within, few, word)
small_fits plan at r (Gone p m) n home few (near, inr end) = let word = end.0 in omega (arith, near.within, few, word)
small_fits plan at r (Got p m) n home few f = let near = f.0 in let word = f.1 in omega (arith, near.within, few, word)
small_fits plan at r (Done m) n home few f = let word = f.0 in omega (arith, word)

small_word : (plan : Plan) (s : BoardState) (k : Keep plan s) (r : RequestId) → IsRequest plan r → word_of s r < 18446744073709551616
small_word plan s k r is =
    small_fits plan (doing_at s.views k.owner) (request_of (request_word r)) (lead_state_at (view_at s.views k.lead).lead_states (request_word r)) (word_of s r)
    (home_at s.homes (request_word r)) k.few_places (k.each_request (request_word r) (omega (arith, is.from_one, is.within)))

-- ---- the lead

-- what is live and not in the middle of a collect is let out or has the go
let_or_gone : (st : LeadState) → IsLive st → IsSettled st → IsLetOrGone st
let_or_gone NotLet live calm = absurd live
let_or_gone Let live calm = inl tt
let_or_gone (Seen p) live calm = inl tt
let_or_gone (Gone p m) live calm = inr tt
let_or_gone (Got p m) live calm = absurd calm
let_or_gone (Done m) live calm = absurd live

module _ (plan : Plan) (lead : Lead) (s : BoardState) (sits : SitsAt plan s lead) where
  inside : (r : RequestId) → IsRequest plan r → request_word r < count_of_requests plan
  inside r is = omega (arith, is.from_one, is.within)

  at_request : (r : RequestId) (old : LeadState) → IsRequest plan r → lead_state_of lead r ≡ old → lead_state_at lead.seat.me.0.lead_states (request_word r) ≡ old
  at_request r old is so = lead_state_there lead.seat.me.0.lead_states r (request_word r) (λ _. request_word r) is.from_one ∙ so

  -- a step on the word of a request
  on_request : (r : RequestId) (first value : ℕ) (f : ℕ → ℕ) (leaves : StepLeaves) → IsRequest plan r → f (word_of s r) ≡ value
      → Allows (Keep plan) (count_of_requests plan) lead.seat.id lead.seat.me (request_word r) f (leaves (step (count_of_requests plan) (request_word r) first 0 none) lead.seat.me)
      → Makes plan s lead.seat.id lead.seat.me (request_word r) first 0 value leaves
  on_request r first value f leaves is same allows =
      allowed plan s sits.0 lead.seat.id lead.seat.me (request_word r) first 0 value f leaves sits.1 (small_word plan s sits.0 r is) same allows

  open_made : (list : List Event) (can : CanOpen plan list s) → Makes plan s lead.seat.id lead.seat.me (place_word plan can.place) 1 0 1 switch_leaves
  open_made list can =
      let near : can.place.index < count_of_places plan = let of_plan = can.of_plan in of_plan.within in
      allowed plan s sits.0 lead.seat.id lead.seat.me (place_word plan can.place) 1 0 1 (λ n. 1) switch_leaves sits.1 (small_0 (slice_index s.words (place_word plan can.place)) can.closed) refl
      (switches_allowed plan (count_of_requests plan) lead.seat.id lead.seat.me (place_word plan can.place) 1 lead.leads (omega arith) (omega (arith, near)) (omega arith))

  let_out_made : (list : List Event) (seated : IsSeated plan lead) (can : CanLetOut plan list lead s) → Makes plan s lead.seat.id lead.seat.me (request_word can.request) 1 0 1 let_out_leaves
  let_out_made list seated can =
      let is : IsRequest plan can.request = can.of_plan in
      on_request can.request 1 1 (λ n. 1) let_out_leaves is refl
      (lets_out_allowed plan (count_of_requests plan) lead.seat.id lead.seat.me (request_word can.request) lead.leads (inside can.request is) (at_request can.request NotLet is can.lead_state)
      (λ q live. subst (λ (z : RequestId). exclude plan z (request_of q) ≡ false) (sym (request_there can.request (request_word can.request) (λ _. request_word can.request) is.from_one))
      (can.apart (request_of q) (let_or_gone (lead_state_of lead (request_of q)) (subst IsLive (sym (lead_state_in-word lead.seat.me.0.lead_states q)) live) (seated.settled (request_of q))))))

  see_made : (can : CanSee plan lead s) → Makes plan s lead.seat.id lead.seat.me (request_word can.request) 0 0 (word_of s can.request) look_leaves
  see_made can =
      on_request can.request 0 (word_of s can.request) (λ n. n) look_leaves can.of_plan refl
      (looks_allowed plan (count_of_requests plan) lead.seat.id lead.seat.me (request_word can.request) lead.leads (inside can.request can.of_plan))

  withdraw_made : (r : RequestId) (p : PlaceId) → IsRequest plan r → lead_state_of lead r ≡ Seen p → Makes plan s lead.seat.id lead.seat.me (request_word r) 0 0 0 back_leaves
  withdraw_made r p is so =
      on_request r 0 0 (λ n. 0) back_leaves is refl
      (withdraws_allowed plan (count_of_requests plan) lead.seat.id lead.seat.me (request_word r) lead.leads (inside r is) (subst IsLet (sym (at_request r (Seen p) is so)) tt))

  get_made : (list : List Event) (kept : Option Event) (can : CanCollect plan list kept lead s) → Makes plan s lead.seat.id lead.seat.me (request_word can.request) 0 0 (word_of s can.request) got_leaves
  get_made list kept can =
      on_request can.request 0 (word_of s can.request) (λ n. n) got_leaves can.of_plan refl
      (collects_allowed plan (count_of_requests plan) lead.seat.id lead.seat.me (request_word can.request) can.place can.marked lead.leads (inside can.request can.of_plan)
      (at_request can.request (Gone can.place can.marked) can.of_plan can.lead_state))

answer_made : (plan : Plan) (readings : List Reading) (list : List Event) (kept : Option Event) (lead : Lead) (s : BoardState) (r : RequestId) (p : PlaceId) (answer : HasAnswer plan readings list kept r p)
    → SitsAt plan s lead → IsRequest plan r → lead_state_of lead r ≡ Seen p → (list' : List Event) × (next : BoardState) × Keep plan next × AnswersTo plan readings list kept lead s r p answer list' next
answer_made plan readings list kept lead s r p (inl start) sits is so = (list ++ event.Started r p ∷ [], s, sits.0, refl)
answer_made plan readings list kept lead s r p (inr unusable) sits is so = let m = withdraw_made plan lead s sits r p is so in (list, m.0, m.1, (refl, m.2))

pub lead_made : (plan : Plan) (readings : List Reading) (list : List Event) (kept : Option Event) (lead : Lead) (s : BoardState) (move : LeadMove plan readings list kept lead s)
    → SitsAt plan s lead → IsSeated plan lead → (list' : List Event) × (next : BoardState) × Keep plan next × LeadLeaves plan readings list kept lead s move list' next
lead_made plan readings list kept lead s (opens can) sits seated = let m = open_made plan lead s sits list can in (list, m.0, m.1, (refl, m.2))
lead_made plan readings list kept lead s (lets_out can) sits seated = let m = let_out_made plan lead s sits list seated can in (list, m.0, m.1, (refl, m.2))
lead_made plan readings list kept lead s (sees can) sits seated = let m = see_made plan lead s sits can in (list, m.0, m.1, (refl, m.2))
lead_made plan readings list kept lead s (answers can) sits seated = answer_made plan readings list kept lead s can.request can.place can.answer sits can.of_plan can.lead_state
lead_made plan readings list kept lead s (collects can) sits seated = let m = get_made plan lead s sits list kept can in (list, m.0, m.1, (refl, m.2))

-- ---- a hand

-- a seat has its view, or there is none with this number
seen_view : (vs : List View) (j : ℕ) → (get_elem? vs j ≡ some (view_at vs j)) ⊎ (view_at vs j ≡ nobody)
seen_view [] j = inr refl
seen_view (v ∷ vs) zero = inl refl
seen_view (v ∷ vs) (suc j) = seen_view vs j

module _ (plan : Plan) (s : BoardState) (k : Keep plan s) (hand : ℕ) where
  -- one that does something, or has a place, is there
  busy : (doing_in s hand ≡ Idle → ⊥) → get_elem? s.views hand ≡ some (view_at s.views hand)
  busy works = elim (seen_view s.views hand) [
    | inl there ↦ there
    | inr gone ↦ absurd (works (ap (λ (v : View). v.doing) gone))
  ]

  owner_there : (p : PlaceId) → has (view_at s.views hand).places p ≡ true → get_elem? s.views hand ≡ some (view_at s.views hand)
  owner_there p own = elim (seen_view s.views hand) [
    | inl there ↦ there
    | inr gone ↦ absurd (let never : false ≡ true = sym (ap (λ (v : View). has v.places p) gone) ∙ own in cc)
  ]

  claim_made : (can : CanClaim plan s hand) → (next : BoardState) × Keep plan next × HandLeaves plan s hand (claims can) next
  claim_made can =
      let is : IsRequest plan can.request = can.request_of_plan in
      let there = owner_there can.place can.own in
      let m = allowed plan s k hand (view_at s.views hand, []) (request_word can.request) 1 (claimed can.place) (claimed can.place) (λ n. either (eqb n 1) (claimed can.place) n) claim_leaves there
      (small_1 (word_of s can.request) can.word) (ap (λ (b : Bool). either b (claimed can.place) (word_of s can.request)) (eq-eqb (word_of s can.request) 1 can.word))
      (claims_allowed plan (count_of_requests plan) hand (view_at s.views hand, []) (request_word can.request) can.place (omega (arith, is.from_one, is.within)) can.place_of_plan can.own can.idle) in
      (m.0, m.1, ((view_at s.views hand, []), there, m.2))

  poll_made : (can : CanPoll s hand) → (next : BoardState) × Keep plan next × HandLeaves plan s hand (polls can) next
  poll_made can =
      let w : (k.owner can.place ≡ hand) × IsRequest plan can.request × IsPlace plan can.place = subst (λ (d : Doing). Works plan k.owner s.words hand d) can.waits (k.each_seat hand) in
      let is : IsRequest plan can.request = w.1 in
      let there = busy (λ idle. let never : Waits can.request can.place ≡ Idle = sym can.waits ∙ idle in cc) in
      let m = allowed plan s k hand (view_at s.views hand, []) (request_word can.request) 0 0 (word_of s can.request) (λ n. n) poll_leaves there
      (small_word plan s k can.request is) refl
      (polls_allowed plan (count_of_requests plan) hand (view_at s.views hand, []) (request_word can.request) can.place
      (can.waits ∙ ap (λ (r : RequestId). Waits r can.place) (sym (request_there can.request (request_word can.request) (λ _. request_word can.request) is.from_one))) refl (omega (arith, is.from_one, is.within))) in
      (m.0, m.1, ((view_at s.views hand, []), there, m.2))

  post_made : (can : CanPost plan s hand) → (next : BoardState) × Keep plan next × HandLeaves plan s hand (posts can) next
  post_made can =
      let is : IsRequest plan can.request = (works plan s k hand can.request can.place can.stop can.serves).1 in
      let there = busy (λ idle. let never : Serves can.request can.place can.stop ≡ Idle = sym can.serves ∙ idle in cc) in
      let me : Me Slot View = (view_at s.views hand, (request_word can.request, Some NoMemory) ∷ []) in
      let m = allowed plan s k hand me (request_word can.request) (ended can.place) 0 (ended can.place) (λ n. ended can.place) post_leaves there
      (small_word plan s k can.request is) refl
      (posts_allowed plan (count_of_requests plan) hand me (request_word can.request) can.place can.stop NoMemory
      (can.serves ∙ ap (λ (r : RequestId). Serves r can.place can.stop) (sym (request_there can.request (request_word can.request) (λ _. request_word can.request) is.from_one))) refl tt
      (omega (arith, is.from_one, is.within))) in
      (m.0, m.1, (me, there, m.2))

pub hand_made : (plan : Plan) (s : BoardState) (hand : ℕ) (move : HandMove plan s hand) → Keep plan s → (next : BoardState) × Keep plan next × HandLeaves plan s hand move next
hand_made plan s hand (claims can) k = claim_made plan s k hand can
hand_made plan s hand (polls can) k = poll_made plan s k hand can
hand_made plan s hand (posts can) k = post_made plan s k hand can
