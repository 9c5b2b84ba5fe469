-- What the rules say at one position of two plans with the same first commands.
use Rattle.std.proofs.Common.{◌≡◌, ℕ, suc, ◌+◌, ◌<◌, ◌≤◌, ◌^◌, ◌==◌, Bool, true, false, not, ◌&&◌, ◌||◌, List, [], length, map, Option, None, Some, is_some, if◌then◌else◌, refl, sym, ◌∙◌, ap, subst, inl, inr, arith}
use Rattle.std.specs.Bool.{then_some}
use Rattle.std.specs.List.{enumerate_from, filter, filter_map, find, list_all, list_any}
use Rattle.std.specs.Option.{option_and_then, option_map, option_map_or}
use Rattle.std.specs.Prelude.{nat_le, nat_lt, slice_get}
use Rattle.std.proofs.lemmas.Bool.{and_left, both_ways, cases_lt, ne_eqb, or_from}
use Rattle.std.proofs.lemmas.Option.{slice_get_within}
use Rattle.conc_types.specs.declared.event.Event.{Event}
use Rattle.conc_types.specs.declared.event.Event.TheVariants as event
use Rattle.conc_types.specs.declared.event.Extent.{Extent}
use Rattle.conc_types.specs.declared.event.Moment.{Moment}
use Rattle.conc_types.specs.declared.event.Outcome.{Outcome}
use Rattle.conc_types.specs.declared.event.PlaceId.{PlaceId}
use Rattle.conc_types.specs.declared.event.RequestId.{RequestId}
use Rattle.conc_types.specs.declared.facts.State.{State}
use Rattle.conc_types.specs.declared.item.Item.{Item}
use Rattle.conc_types.specs.declared.item.Item.TheVariants as item
use Rattle.conc_types.specs.declared.plan.Plan.{Plan}
use Rattle.conc_types.specs.declared.plan.Req.{Req}
use Rattle.conc_types.specs.Plans.{request}
use Rattle.conc_types.specs.Stages.{has_stage}
use Rattle.conc_types.specs.Words.{is_empty, numbered, some_and}
use Rattle.conc_base_law.specs.Exclusion.{excludes}
use Rattle.conc_base_law.specs.Managers.{admits, places}
use Rattle.conc_base_law.specs.Next.{blocks, can_run, forced_interrupt, forced_let, forced_step, has_step, is_allowed, is_free, is_left_running, is_next_extent, is_ready, is_vacant, let_event, may_end, may_let, may_start, may_tick, runs_at}
use Rattle.conc_base_law.specs.Places.{is_usable, place_from, place_of}
use Rattle.conc_base_law.specs.Plans.{are_exclusive, is_admitted, is_enabled, is_member, members, parent, parent_item, precedes, program_of, set_at, stages_of}
use Rattle.conc_base_law.specs.Stages.{after_stage, completed_at, counts_for_set, critical_stages, has_ended, link, next_stage, outcome_at, set_outcome, set_step, stage_outcome, step_from, worst}
use Rattle.conc_base_law.specs.State.{facts_at, is_completed, is_live, is_not_earlier, is_running, is_waiting}
use Rattle.conc_base_law.specs.Words.{first_by, Has, id_eq, is_set}
use Rattle.conc_base_law.proofs.FirstBy.{find-some}
use Rattle.conc_base_law.proofs.Numbering.{found, numbered-at}
use Rattle.conc_base_law.proofs.Alike.{IsAlike, numbered-has, parent-front, parent-same, program-same, request-front}
use Rattle.conc_base_law.proofs.Fronts.{all-same, any-front, filter-front, filter_map-same, find-front, first_by-front, get-front, has-append, has-filter, has-get, map-same}
use Rattle.conc_base_law.proofs.Submitted.{Begins}
use Rattle.conc_base_law.proofs.Unentered.{IsUnentered}

-- two plans that are alike, each at a position of which the same is true but for the further requests, which are not entered
pub record IsSame (one another : Plan) (count : ℕ) (front : List Req) (s t : State) : Type 0 where
  pub alike : IsAlike one another count front
  pub time : s.time ≡ t.time
  pub used : s.used ≡ t.used
  pub facts : (r : Req) → Has front r → facts_at s r ≡ facts_at t r
  pub rest : (r : Req) → Has alike.of_one.rest r → IsUnentered s r
  pub other : (r : Req) → Has alike.of_another.rest r → IsUnentered t r

-- a request of the front has a number up to their count
pub number-front : (plan : Plan) (count : ℕ) (front : List Req) (r : Req) → Begins plan count front → Has front r → r.number.number ≤ length front
unfolding request
number-front plan count front r b h =
    let p : (k : ℕ) × (slice_get front k ≡ Some r) = has-get front r h in
    let below : p.0 < length front = slice_get_within front p.0 r p.1 in
    let at : slice_get plan.requests p.0 ≡ Some r = ap (λ l. slice_get l p.0) b.is ∙ (get-front front b.rest p.0 below ∙ p.1) in
    let id : RequestId = record { number = suc p.0 } in
    let q : request plan id ≡ Some r = numbered-at plan.requests (suc p.0) p.0 (omega arith) ∙ at in
    omega (arith, (found plan id r q).0, below)

-- a member of a set of the front is one of the front
member-front : (plan : Plan) (count : ℕ) (front : List Req) (set : Req) (stage : ℕ) (b : Begins plan count front) → Has front set
    → (r : Req) → Has b.rest r → is_member set.number stage r ≡ false
unfolding is_member
member-front plan count front set stage b hs r h = and_left _ _ (by r.parent refl) where
  by : (o : Option RequestId) → r.parent ≡ o → some_and (id_eq set.number) o ≡ false
  by None is = refl
  by (Some id) is =
      let few : set.number.number ≤ length front = number-front plan count front set b hs in
      ne_eqb set.number.number id.number (λ e. omega (arith, few, b.apart r h id is, e))

-- the members of a set of the front
members-front : (plan : Plan) (count : ℕ) (front : List Req) (set : Req) (stage : ℕ) → Begins plan count front → Has front set
    → members plan set.number stage ≡ filter (is_member set.number stage) front
unfolding members
members-front plan count front set stage b h =
    ap (filter (is_member set.number stage)) b.is
    ∙ filter-front (is_member set.number stage) front b.rest (member-front plan count front set stage b h)

-- ---- what a request that is not entered does not

-- it is not left running
pub left-none : (u : State) (r : Req) → IsUnentered u r → is_left_running u r ≡ false
unfolding is_left_running
left-none u r n = and_left _ _ n.runs

-- it has no step
pub has_step-none : (plan : Plan) (u : State) (set : Req) → IsUnentered u set → has_step plan u set ≡ false
unfolding has_step
has_step-none plan u set n = and_left _ _ n.opened

-- it blocks none
blocks-none : (plan : Plan) (u : State) (r q : Req) → IsUnentered u q → blocks plan u r q ≡ false
unfolding blocks
blocks-none plan u r q n = and_left _ _ (or_from _ _ n.let_out n.opened)

-- it cannot be let
pub let-none : (plan : Plan) (u : State) (r : Req) → IsUnentered u r → may_let plan u r ≡ false
unfolding may_let is_ready
let-none plan u r n = and_left _ _ (and_left _ _ n.entered)

-- it runs nowhere
runs_at-none : (u : State) (place : PlaceId) (r : Req) → IsUnentered u r → runs_at u place r ≡ false
unfolding runs_at
runs_at-none u place r n = by (facts_at u r).place n.runs where
  by : (o : Option PlaceId) → is_some o ≡ false → some_and (λ q. q.index == place.index) o ≡ false
  by None k = refl
  by (Some q) k = cc

-- it cannot start
pub start-none : (plan : Plan) (u : State) (place : PlaceId) (r : Req) → IsUnentered u r → may_start plan u r place ≡ false
unfolding may_start
start-none plan u place r n = and_left _ _ n.let_out

-- it cannot end
pub end-none : (u : State) (o : Outcome) (x : Option Extent) (r : Req) → IsUnentered u r → may_end u r o x ≡ false
unfolding may_end
end-none u o x r n = and_left _ _ n.runs

module _ (one another : Plan) (count : ℕ) (front : List Req) (s t : State) (p : IsSame one another count front s t) where
  -- ---- searches among the requests, by tests that agree on the front, and that none of the others passes
  find-requests : (f g : Req → Bool) → ((r : Req) → Has front r → f r ≡ g r) → ((r : Req) → IsUnentered s r → f r ≡ false) → ((r : Req) → IsUnentered t r → g r ≡ false)
      → find f one.requests ≡ find g another.requests
  find-requests f g same none no_other =
      ap (find f) p.alike.of_one.is
      ∙ (find-front f g front p.alike.of_one.rest p.alike.of_another.rest same (λ r h. none r (p.rest r h)) (λ r h. no_other r (p.other r h))
      ∙ ap (find g) (sym p.alike.of_another.is))

  any-requests : (f g : Req → Bool) → ((r : Req) → Has front r → f r ≡ g r) → ((r : Req) → IsUnentered s r → f r ≡ false) → ((r : Req) → IsUnentered t r → g r ≡ false)
      → list_any f one.requests ≡ list_any g another.requests
  any-requests f g same none no_other =
      ap (list_any f) p.alike.of_one.is
      ∙ (any-front f g front p.alike.of_one.rest p.alike.of_another.rest same (λ r h. none r (p.rest r h)) (λ r h. no_other r (p.other r h))
      ∙ ap (list_any g) (sym p.alike.of_another.is))

  first-requests : (before : Req → Req → Bool) (f g : Req → Bool) → ((r : Req) → Has front r → f r ≡ g r) → ((r : Req) → IsUnentered s r → f r ≡ false) → ((r : Req) → IsUnentered t r → g r ≡ false)
      → first_by before f one.requests ≡ first_by before g another.requests
  first-requests before f g same none no_other =
      ap (first_by before f) p.alike.of_one.is
      ∙ (first_by-front before f g front p.alike.of_one.rest p.alike.of_another.rest same (λ r h. none r (p.rest r h)) (λ r h. no_other r (p.other r h))
      ∙ ap (first_by before g) (sym p.alike.of_another.is))

  -- the request with a number
  request-some : (f g : Req → Bool) → ((r : Req) → Has front r → f r ≡ g r) → ((r : Req) → IsUnentered s r → f r ≡ false) → ((r : Req) → IsUnentered t r → g r ≡ false)
      → (id : RequestId) → some_and f (request one id) ≡ some_and g (request another id)
  request-some f g same none no_other id = elim (cases_lt (length front) id.number) [
    | inl far ↦ behind one p.alike.of_one f far (λ r h. none r (p.rest r h)) (request one id) refl
        ∙ sym (behind another p.alike.of_another g far (λ r h. no_other r (p.other r h)) (request another id) refl)
    | inr few ↦
        ap (some_and f) (request-front one count front id p.alike.of_one few)
        ∙ (here (numbered front id.number) refl
        ∙ ap (some_and g) (sym (request-front another count front id p.alike.of_another few)))
  ] where
    behind : (plan : Plan) (b : Begins plan count front) (test : Req → Bool) → length front < id.number → ((r : Req) → Has b.rest r → test r ≡ false)
        → (o : Option Req) → request plan id ≡ o → some_and test o ≡ false
    behind plan b test far off None is = refl
    behind plan b test far off (Some r) is =
        let q : (r.number.number ≡ id.number) × Has plan.requests r = found plan id r is in
        elim (has-append front b.rest r (subst (λ l. Has l r) b.is q.1)) [
          | inl h ↦ absurd (omega (arith, far, q.0, number-front plan count front r b h))
          | inr h ↦ off r h
        ]

    here : (o : Option Req) → numbered front id.number ≡ o → some_and f o ≡ some_and g o
    here None is = refl
    here (Some r) is = same r (numbered-has front id.number r is)

  -- ---- interrupts

  left-same : (r : Req) → Has front r → is_left_running s r ≡ is_left_running t r
  unfolding is_left_running
  left-same r h = ap (λ f. is_running f && not f.started) (p.facts r h)

  pub interrupt-same : forced_interrupt one s ≡ forced_interrupt another t
  unfolding forced_interrupt
  interrupt-same = ap (option_map (λ (r : Req). event.Interrupt r.number)) (find-requests (is_left_running s) (is_left_running t) left-same (left-none s) (left-none t))

  -- ---- steps

  members-same : (set : Req) (stage : ℕ) → Has front set → members one set.number stage ≡ members another set.number stage
  members-same set stage h = members-front one count front set stage p.alike.of_one h ∙ sym (members-front another count front set stage p.alike.of_another h)

  members-has : (set : Req) (stage : ℕ) → Has front set → (r : Req) → Has (members another set.number stage) r → Has front r
  members-has set stage h r k = has-filter (is_member set.number stage) front r (subst (λ l. Has l r) (members-front another count front set stage p.alike.of_another h) k)

  ended-same : (set : Req) (stage : ℕ) → Has front set → has_ended one s set stage ≡ has_ended another t set stage
  unfolding has_ended completed_at
  ended-same set stage h =
      ap (list_all (completed_at s)) (members-same set stage h)
      ∙ all-same (completed_at s) (completed_at t) (members another set.number stage) (λ r k. ap is_completed (p.facts r (members-has set stage h r k)))

  outcome-same : (set : Req) (stage : ℕ) → Has front set → stage_outcome one s set stage ≡ stage_outcome another t set stage
  unfolding stage_outcome outcome_at
  outcome-same set stage h =
      ap (λ l. worst (filter_map (outcome_at s) l)) (members-same set stage h)
      ∙ ap worst (filter_map-same (outcome_at s) (outcome_at t) (members another set.number stage) (λ r k. ap (λ f. f.outcome) (p.facts r (members-has set stage h r k))))

  set_at-same : (i : Item) → set_at one i ≡ set_at another i
  unfolding set_at
  set_at-same (item.Program n) = refl
  set_at-same (item.Set n) = ap (λ setup. slice_get setup.sets n) (sym p.alike.setup)

  stages-same : (set : Req) → stages_of one set ≡ stages_of another set
  unfolding stages_of
  stages-same set = ap (λ o. option_map_or (λ def. def.stages) o []) (set_at-same set.item)

  next-same : (set : Req) (stage : ℕ) → Has front set → next_stage one s set stage ≡ next_stage another t set stage
  unfolding next_stage
  next-same set stage h =
      ap (λ o. option_map (λ place. place + 1) (option_and_then (λ found. link found o) (numbered (stages_of one set) stage))) (outcome-same set stage h)
      ∙ ap (λ l. option_map (λ place. place + 1) (option_and_then (λ found. link found (stage_outcome another t set stage)) (numbered l stage))) (stages-same set)

  critical-same : (set : Req) → Has front set → critical_stages one s set ≡ critical_stages another t set
  unfolding critical_stages
  critical-same set h =
      ap (λ f. filter (counts_for_set f) (enumerate_from 1 (stages_of one set))) (p.facts set h)
      ∙ ap (λ l. filter (counts_for_set (facts_at t set)) (enumerate_from 1 l)) (stages-same set)

  set_outcome-same : (set : Req) (last : ℕ) → Has front set → set_outcome one s set last ≡ set_outcome another t set last
  unfolding set_outcome
  set_outcome-same set last h =
      ap (λ l. if is_empty l then stage_outcome one s set last else worst (map (λ stage. stage_outcome one s set stage.0) l)) (critical-same set h)
      ∙ (ap (λ o. if is_empty (critical_stages another t set) then o else worst (map (λ stage. stage_outcome one s set stage.0) (critical_stages another t set))) (outcome-same set last h)
      ∙ ap (λ l. if is_empty (critical_stages another t set) then stage_outcome another t set last else worst l)
      (map-same (λ stage. stage_outcome one s set stage.0) (λ stage. stage_outcome another t set stage.0) (critical_stages another t set) (λ stage k. outcome-same set stage.0 h)))

  after-same : (set : Req) (last : ℕ) (next : Option ℕ) → Has front set → after_stage one s set last next ≡ after_stage another t set last next
  after-same set last None h = ap (λ o. event.CloseSet set.number o) (set_outcome-same set last h)
  after-same set last (Some n) h = refl

  step_from-same : (set : Req) (current : Option ℕ) → Has front set → step_from one s set current ≡ step_from another t set current
  step_from-same set None h = refl
  step_from-same set (Some stage) h =
      ap (λ b. then_some b (after_stage one s set stage (next_stage one s set stage))) (ended-same set stage h)
      ∙ (ap (λ o. then_some (has_ended another t set stage) (after_stage one s set stage o)) (next-same set stage h)
      ∙ ap (λ e. then_some (has_ended another t set stage) e) (after-same set stage (next_stage another t set stage) h))

  step-same : (set : Req) → Has front set → set_step one s set ≡ set_step another t set
  unfolding set_step
  step-same set h = ap (step_from one s set) (ap (λ f. f.stage) (p.facts set h)) ∙ step_from-same set (facts_at t set).stage h

  has_step-same : (set : Req) → Has front set → has_step one s set ≡ has_step another t set
  unfolding has_step
  has_step-same set h =
      ap (λ f. f.opened && is_some (set_step one s set)) (p.facts set h)
      ∙ ap (λ o. (facts_at t set).opened && is_some o) (step-same set h)

  -- a request that passes is one of the front
  passes-front : (f : Req → Bool) → ((r : Req) → IsUnentered s r → f r ≡ false) → (r : Req) → Has one.requests r → f r ≡ true → Has front r
  passes-front f none r h k = elim (has-append front p.alike.of_one.rest r (subst (λ l. Has l r) p.alike.of_one.is h)) [
    | inl here ↦ here
    | inr behind ↦ absurd (both_ways _ (none r (p.rest r behind)) k)
  ]

  -- the step of a set that is found
  found-step : (o : Option Req) → find (has_step one s) one.requests ≡ o → option_and_then (set_step one s) o ≡ option_and_then (set_step another t) o
  found-step None is = refl
  found-step (Some set) is =
      let q : (has_step one s set ≡ true) × Has one.requests set = find-some (has_step one s) one.requests set is in
      step-same set (passes-front (has_step one s) (has_step-none one s) set q.1 q.0)

  pub forced_step-same : forced_step one s ≡ forced_step another t
  unfolding forced_step
  forced_step-same =
      found-step (find (has_step one s) one.requests) refl
      ∙ ap (option_and_then (set_step another t)) (find-requests (has_step one s) (has_step another t) has_step-same (has_step-none one s) (has_step-none another t))

  -- ---- lets

  parent_item-same : (r : Req) → Has front r → parent_item one r ≡ parent_item another r
  unfolding parent_item
  parent_item-same r h = ap (option_map (λ (set : Req). set.item)) (parent-same one another count front p.alike r h)

  exclusive-same : (q r : Req) → Has front q → Has front r → are_exclusive one q r ≡ are_exclusive another q r
  unfolding are_exclusive
  exclusive-same q r hq hr =
      ap (λ setup. excludes setup q r (parent_item one q) (parent_item one r)) (sym p.alike.setup)
      ∙ (ap (λ i. excludes another.setup q r i (parent_item one r)) (parent_item-same q hq)
      ∙ ap (λ i. excludes another.setup q r (parent_item another q) i) (parent_item-same r hr))

  blocks-same : (r : Req) → Has front r → (q : Req) → Has front q → blocks one s r q ≡ blocks another t r q
  unfolding blocks
  blocks-same r hr q hq =
      ap (λ f. is_live f && are_exclusive one q r) (p.facts q hq)
      ∙ ap (λ b. is_live (facts_at t q) && b) (exclusive-same q r hq hr)

  free-same : (r : Req) → Has front r → is_free one s r ≡ is_free another t r
  unfolding is_free
  free-same r h = ap not (any-requests (blocks one s r) (blocks another t r) (blocks-same r h) (blocks-none one s r) (blocks-none another t r))

  can_run-same : (r : Req) → can_run one r ≡ can_run another r
  unfolding can_run is_enabled is_admitted program_of
  can_run-same r =
      ap (λ o. is_set r.item || (some_and (λ program. program.enabled) o && is_admitted one r)) (program-same one another r.item p.alike.setup)
      ∙ ap (λ setup. is_set r.item || (is_enabled another r && list_any (λ manager. admits manager r) setup.managers)) (sym p.alike.setup)

  -- the set of a request of the front
  waiting-by : (r : Req) (o : Option Req) → ((set : Req) → o ≡ Some set → Has front set)
      → some_and (λ set. not (has_stage (facts_at s set).begun.bits r.stage)) o ≡ some_and (λ set. not (has_stage (facts_at t set).begun.bits r.stage)) o
  waiting-by r None has = refl
  waiting-by r (Some set) has = ap (λ f. not (has_stage f.begun.bits r.stage)) (p.facts set (has set refl))

  waiting-same : (r : Req) → Has front r → is_waiting one s r ≡ is_waiting another t r
  unfolding is_waiting
  waiting-same r h =
      waiting-by r (parent one r) (λ set is. parent-front one count front r set p.alike.of_one p.alike.closed h is)
      ∙ ap (some_and (λ set. not (has_stage (facts_at t set).begun.bits r.stage))) (parent-same one another count front p.alike r h)

  ready-same : (r : Req) → Has front r → is_ready one s r ≡ is_ready another t r
  unfolding is_ready
  ready-same r h = rw (waiting-same r h, can_run-same r, p.facts r h, p.time)

  let-same : (r : Req) → Has front r → may_let one s r ≡ may_let another t r
  unfolding may_let
  let-same r h = ap (λ b. b && is_free one s r) (ready-same r h) ∙ ap (λ b. is_ready another t r && b) (free-same r h)

  pub forced_let-same : forced_let one s ≡ forced_let another t
  unfolding forced_let
  forced_let-same = ap (option_map let_event) (first-requests precedes (may_let one s) (may_let another t) let-same (let-none one s) (let-none another t))

  -- ---- what is allowed

  vacant-same : (place : PlaceId) → is_vacant one s place ≡ is_vacant another t place
  unfolding is_vacant runs_at
  vacant-same place =
      ap not (any-requests (runs_at s place) (runs_at t place) (λ r h. ap (λ f. some_and (λ q. q.index == place.index) f.place) (p.facts r h)) (runs_at-none s place) (runs_at-none t place))

  place-same : (place : PlaceId) → place_of one place ≡ place_of another place
  unfolding place_of
  place-same place = ap (λ setup. place_from 1 setup.managers place.index) (sym p.alike.setup)

  usable-same : (place : PlaceId) (o : Option Moment) → some_and (λ time. is_usable one time place) o ≡ some_and (λ time. is_usable another time place) o
  unfolding is_usable
  usable-same place None = refl
  usable-same place (Some time) = ap (some_and (λ q. nat_le q.number (places q.manager time))) (place-same place)

  start-same : (place : PlaceId) (r : Req) → Has front r → may_start one s r place ≡ may_start another t r place
  unfolding may_start
  start-same place r h = rw (vacant-same place, usable-same place s.time, place-same place, p.facts r h, p.time)

  extent-same : (x : Option Extent) → some_and (is_next_extent s) x ≡ some_and (is_next_extent t) x
  unfolding is_next_extent
  extent-same None = refl
  extent-same (Some x) = ap (λ used. some_and (λ n. x.offset == n) used && (nat_lt 0 x.length && nat_lt x.length (2 ^ 32))) p.used

  end-same : (o : Outcome) (x : Option Extent) (r : Req) → Has front r → may_end s r o x ≡ may_end t r o x
  unfolding may_end
  end-same o x r h = rw (p.facts r h, extent-same x)

  pub allowed-same : (e : Event) → is_allowed one s None e ≡ is_allowed another t None e
  unfolding is_allowed may_tick
  allowed-same (event.Started id place) = request-some (λ r. may_start one s r place) (λ r. may_start another t r place) (start-same place) (start-none one s place) (start-none another t place) id
  allowed-same (event.Ended id o x) = request-some (λ r. may_end s r o x) (λ r. may_end t r o x) (end-same o x) (end-none s o x) (end-none t o x) id
  allowed-same (event.Tick u) = ap (λ time. is_not_earlier time u) p.time
  allowed-same _ = refl
