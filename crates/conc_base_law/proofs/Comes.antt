-- What holds where an event comes next.
use Rattle.std.proofs.Common.{◌≡◌, ◌⊎◌, ℕ, Bool, true, false, not, ◌&&◌, List, Option, None, Some, refl, sym, ◌∙◌, ap, inl, inr}
use Rattle.std.specs.Option.{option_map}
use Rattle.std.specs.Prelude.{is_some}
use Rattle.std.proofs.lemmas.Bool.{and_parts, both_ways, cond-false, not-true}
use Rattle.conc_types.specs.declared.event.Event.{Event}
use Rattle.conc_types.specs.declared.event.Event.TheVariants as event
use Rattle.conc_types.specs.declared.event.Outcome.{Outcome}
use Rattle.conc_types.specs.declared.event.PlaceId.{PlaceId}
use Rattle.conc_types.specs.declared.event.RequestId.{RequestId}
use Rattle.conc_types.specs.declared.facts.State.{State}
use Rattle.conc_types.specs.declared.plan.Plan.{Plan}
use Rattle.conc_types.specs.declared.plan.Req.{Req}
use Rattle.conc_types.specs.declared.script.Reading.{Reading}
use Rattle.conc_types.specs.Plans.{request}
use Rattle.conc_types.specs.Words.{none_or, some_and}
use Rattle.conc_base_law.specs.Kinds.{is_resume}
use Rattle.conc_base_law.specs.Law.{may_follow}
use Rattle.conc_base_law.specs.Managers.{admits}
use Rattle.conc_base_law.specs.Next.{forced, has_step, is_allowed, is_vacant, may_come, may_let, may_start, obeys}
use Rattle.conc_base_law.specs.Places.{is_usable, place_of}
use Rattle.conc_base_law.specs.Readings.{next_reading}
use Rattle.conc_base_law.specs.Stages.{set_step}
use Rattle.conc_base_law.specs.State.{facts_at, is_running, state}
use Rattle.conc_base_law.specs.Words.{Has, is_set}
use Rattle.conc_base_law.proofs.EqualEvents.{event_same}
use Rattle.conc_base_law.proofs.ForcedBy.{by_command, by_interrupt, by_let, by_step, forced-by, ForcedBy}
use Rattle.conc_base_law.proofs.ForcedKinds.{forced_kind, is_forced_kind}
use Rattle.conc_base_law.proofs.Numbering.{numbered_plan}

-- requests of the plan with one number are one
pub same_request : (plan : Plan) (q r : Req) → Has plan.requests q → Has plan.requests r → q.number ≡ r.number → q ≡ r
same_request plan q r hq hr n =
    let e : Some q ≡ Some r = sym (numbered_plan plan q hq) ∙ (ap (request plan) n ∙ numbered_plan plan r hr) in
    cc

-- an event that may come is a resume, or forced, or allowed where nothing is forced
pub came : (plan : Plan) (s : State) (next : Option (Option Reading)) (e : Event) → is_resume e ≡ false → may_come plan s next e ≡ true
    → (forced plan s ≡ Some e) ⊎ ((forced plan s ≡ None) × (is_allowed plan s next e ≡ true))
unfolding may_come
came plan s next e r h =
    by (forced plan s) (sym (cond-false (is_resume e) (not s.empty) (obeys plan s next e (forced plan s)) r) ∙ h) where
      by : (due : Option Event) → obeys plan s next e due ≡ true → (due ≡ Some e) ⊎ ((due ≡ None) × (is_allowed plan s next e ≡ true))
      by None k = inr (refl, k)
      by (Some d) k = inl (ap (λ x. Some x) (sym (event_same e d k)))

-- an event that is never allowed comes where it is forced
pub comes_forced : (plan : Plan) (s : State) (next : Option (Option Reading)) (e : Event) → is_resume e ≡ false → is_allowed plan s next e ≡ false
    → may_come plan s next e ≡ true → ForcedBy plan s e
comes_forced plan s next e r never h = elim (came plan s next e r h) [
  | inl f ↦ forced-by plan s e f
  | inr a ↦ absurd (both_ways _ never a.1)
]

-- an event of a kind that is never forced comes where it is allowed, and nothing is forced
pub comes_allowed : (plan : Plan) (s : State) (next : Option (Option Reading)) (e : Event) → is_resume e ≡ false → is_forced_kind e ≡ false
    → may_come plan s next e ≡ true → (forced plan s ≡ None) × (is_allowed plan s next e ≡ true)
comes_allowed plan s next e r never h = elim (came plan s next e r h) [
  | inl f ↦
      let k : is_forced_kind e ≡ true = ap (none_or is_forced_kind) (sym f) ∙ forced_kind plan s in
      absurd (both_ways _ never k)
  | inr a ↦ a
]

-- ---- a start

-- a request that starts may start there
pub start_comes : (plan : Plan) (readings : Option (List Reading)) (past : List Event) (r : Req) (place : PlaceId) → Has plan.requests r
    → may_follow plan readings past (event.Started r.number place) ≡ true → may_start plan (state plan past) r place ≡ true
unfolding may_follow is_allowed
start_comes plan readings past r place hr h =
    let s = state plan past in
    let allowed : some_and (λ q. may_start plan s q place) (request plan r.number) ≡ true =
    (comes_allowed plan s (option_map (λ known. next_reading known past) readings) (event.Started r.number place) refl refl h).1 in
    ap (some_and (λ q. may_start plan s q place)) (sym (numbered_plan plan r hr)) ∙ allowed

-- what a request that may start meets: it is let and does not run, and nothing runs there
pub may_start-parts : (plan : Plan) (s : State) (r : Req) (place : PlaceId) → may_start plan s r place ≡ true
    → ((facts_at s r).let_out ≡ true) × (is_running (facts_at s r) ≡ false) × (is_vacant plan s place ≡ true)
unfolding may_start
may_start-parts plan s r place h =
    let admitted : Bool = some_and (λ p. admits p.manager r) (place_of plan place) in
    let usable : Bool = some_and (λ t. is_usable plan t place) s.time in
    let a : ((facts_at s r).let_out ≡ true) × ((not (is_running (facts_at s r)) && (admitted && (usable && is_vacant plan s place))) ≡ true) = and_parts _ _ h in
    let b : (not (is_running (facts_at s r)) ≡ true) × ((admitted && (usable && is_vacant plan s place)) ≡ true) = and_parts _ _ a.1 in
    let c : (usable && is_vacant plan s place) ≡ true = (and_parts admitted _ b.1).1 in
    (a.0, not-true _ b.0, (and_parts usable _ c).1)

-- ---- a let, and a step of a set

-- r is a request of the plan with this number, and it could be let
pub record Lettable (plan : Plan) (s : State) (id : RequestId) (set : Bool) : Type 0 where
  pub req : Req
  pub element : Has plan.requests req
  pub number : req.number ≡ id
  pub could : may_let plan s req ≡ true
  pub kind : is_set req.item ≡ set

-- a forced let is that of a request that could be let
let_by : (plan : Plan) (s : State) (id : RequestId) → ForcedBy plan s (event.LetOut id) → Lettable plan s id false
let_by plan s id (by_interrupt r hr p e) = cc
let_by plan s id (by_command n e) = cc
let_by plan s id (by_step set hs p (inl e)) = let k : event.LetOut id ≡ event.Stage set.number e.0 = e.1 in cc
let_by plan s id (by_step set hs p (inr e)) = let k : event.LetOut id ≡ event.CloseSet set.number e.0 = e.1 in cc
let_by plan s id (by_let r hr p (inl e)) = let k : event.LetOut id ≡ event.OpenSet r.number = e.1 in cc
let_by plan s id (by_let r hr p (inr e)) =
    let k : event.LetOut id ≡ event.LetOut r.number = e.1 in
    let n : r.number ≡ id = cc in
    record { req = r; element = hr; number = n; could = p; kind = e.0 }

-- a forced opening is that of a set that could be opened
open_by : (plan : Plan) (s : State) (id : RequestId) → ForcedBy plan s (event.OpenSet id) → Lettable plan s id true
open_by plan s id (by_interrupt r hr p e) = cc
open_by plan s id (by_command n e) = cc
open_by plan s id (by_step set hs p (inl e)) = let k : event.OpenSet id ≡ event.Stage set.number e.0 = e.1 in cc
open_by plan s id (by_step set hs p (inr e)) = let k : event.OpenSet id ≡ event.CloseSet set.number e.0 = e.1 in cc
open_by plan s id (by_let r hr p (inr e)) = let k : event.OpenSet id ≡ event.LetOut r.number = e.1 in cc
open_by plan s id (by_let r hr p (inl e)) =
    let k : event.OpenSet id ≡ event.OpenSet r.number = e.1 in
    let n : r.number ≡ id = cc in
    record { req = r; element = hr; number = n; could = p; kind = e.0 }

-- the request that an event lets out could be let, and is no set
pub let_comes : (plan : Plan) (readings : Option (List Reading)) (past : List Event) (id : RequestId)
    → may_follow plan readings past (event.LetOut id) ≡ true → Lettable plan (state plan past) id false
unfolding may_follow is_allowed
let_comes plan readings past id h =
    let_by plan (state plan past) id
    (comes_forced plan (state plan past) (option_map (λ known. next_reading known past) readings) (event.LetOut id) refl refl h)

-- the set that an event opens could be opened
pub open_comes : (plan : Plan) (readings : Option (List Reading)) (past : List Event) (id : RequestId)
    → may_follow plan readings past (event.OpenSet id) ≡ true → Lettable plan (state plan past) id true
unfolding may_follow is_allowed
open_comes plan readings past id h =
    open_by plan (state plan past) id
    (comes_forced plan (state plan past) (option_map (λ known. next_reading known past) readings) (event.OpenSet id) refl refl h)

-- r is a request of the plan with this number, and an open set
pub record Opened (plan : Plan) (s : State) (id : RequestId) : Type 0 where
  pub req : Req
  pub element : Has plan.requests req
  pub number : req.number ≡ id
  pub opened : (facts_at s req).opened ≡ true

-- a set that has a step is open
has_step-opened : (plan : Plan) (s : State) (set : Req) → has_step plan s set ≡ true → (facts_at s set).opened ≡ true
unfolding has_step
has_step-opened plan s set h = (and_parts (facts_at s set).opened (is_some (set_step plan s set)) h).0

-- a forced stage is one of an open set
stage_by : (plan : Plan) (s : State) (id : RequestId) (stage : ℕ) → ForcedBy plan s (event.Stage id stage) → Opened plan s id
stage_by plan s id stage (by_interrupt r hr p e) = cc
stage_by plan s id stage (by_command n e) = cc
stage_by plan s id stage (by_step set hs p (inl e)) =
    let k : event.Stage id stage ≡ event.Stage set.number e.0 = e.1 in
    let n : set.number ≡ id = cc in
    record { req = set; element = hs; number = n; opened = has_step-opened plan s set p }
stage_by plan s id stage (by_step set hs p (inr e)) = let k : event.Stage id stage ≡ event.CloseSet set.number e.0 = e.1 in cc
stage_by plan s id stage (by_let r hr p (inl e)) = let k : event.Stage id stage ≡ event.OpenSet r.number = e.1 in cc
stage_by plan s id stage (by_let r hr p (inr e)) = let k : event.Stage id stage ≡ event.LetOut r.number = e.1 in cc

-- a forced close is that of an open set
close_by : (plan : Plan) (s : State) (id : RequestId) (o : Outcome) → ForcedBy plan s (event.CloseSet id o) → Opened plan s id
close_by plan s id o (by_interrupt r hr p e) = cc
close_by plan s id o (by_command n e) = cc
close_by plan s id o (by_step set hs p (inl e)) = let k : event.CloseSet id o ≡ event.Stage set.number e.0 = e.1 in cc
close_by plan s id o (by_step set hs p (inr e)) =
    let k : event.CloseSet id o ≡ event.CloseSet set.number e.0 = e.1 in
    let n : set.number ≡ id = cc in
    record { req = set; element = hs; number = n; opened = has_step-opened plan s set p }
close_by plan s id o (by_let r hr p (inl e)) = let k : event.CloseSet id o ≡ event.OpenSet r.number = e.1 in cc
close_by plan s id o (by_let r hr p (inr e)) = let k : event.CloseSet id o ≡ event.LetOut r.number = e.1 in cc

-- a set of which a stage begins is open
pub stage_comes : (plan : Plan) (readings : Option (List Reading)) (past : List Event) (id : RequestId) (stage : ℕ)
    → may_follow plan readings past (event.Stage id stage) ≡ true → Opened plan (state plan past) id
unfolding may_follow is_allowed
stage_comes plan readings past id stage h =
    stage_by plan (state plan past) id stage
    (comes_forced plan (state plan past) (option_map (λ known. next_reading known past) readings) (event.Stage id stage) refl refl h)

-- a set that closes is open
pub close_comes : (plan : Plan) (readings : Option (List Reading)) (past : List Event) (id : RequestId) (o : Outcome)
    → may_follow plan readings past (event.CloseSet id o) ≡ true → Opened plan (state plan past) id
unfolding may_follow is_allowed
close_comes plan readings past id o h =
    close_by plan (state plan past) id o
    (comes_forced plan (state plan past) (option_map (λ known. next_reading known past) readings) (event.CloseSet id o) refl refl h)
