-- What holds of a list at rest, where each manager has a usable place: each request that could run has ended.
use Rattle.std.proofs.Common.{◌≡◌, ◌⊎◌, ℕ, Bool, true, false, not, ◌&&◌, ◌==◌, List, [], ◌∷◌, Option, None, Some, is_none, is_some, refl, sym, ◌∙◌, ap, subst, inl, inr}
use Rattle.std.specs.Prelude.{unwrap_or}
use Rattle.std.specs.List.{enumerate_from, find, list_any}
use Rattle.std.specs.Option.{option_and_then, option_map, option_or}
use Rattle.std.proofs.lemmas.Bool.{and_from, and_left, and_parts, and_right, both_ways, cases_Bool, not-true, not_from_false, or_cases, or_from}
use Rattle.conc_types.specs.declared.event.Event.{Event}
use Rattle.conc_types.specs.declared.event.Event.TheVariants as event
use Rattle.conc_types.specs.declared.event.Moment.{Moment}
use Rattle.conc_types.specs.declared.event.Outcome.{Outcome}
use Rattle.conc_types.specs.declared.event.PlaceId.{PlaceId}
use Rattle.conc_types.specs.declared.facts.State.{State}
use Rattle.conc_types.specs.declared.manager.Manager.{Manager}
use Rattle.conc_types.specs.declared.plan.Plan.{Plan}
use Rattle.conc_types.specs.declared.plan.Req.{Req}
use Rattle.conc_types.specs.declared.script.Order.{Order}
use Rattle.conc_types.specs.declared.script.Reading.{Reading}
use Rattle.conc_types.specs.Words.{numbered, some_and}
use Rattle.conc_base_law.specs.Facts.{completion, facts_of, is_entered, is_let, is_open, waits_for_stage, was_completed}
use Rattle.conc_base_law.specs.Kinds.{ends, is_command, opens, tick_of}
use Rattle.conc_base_law.specs.Law.{may_follow}
use Rattle.conc_base_law.specs.Managers.{admits}
use Rattle.conc_base_law.specs.Next.{blocks, can_run, forced, forced_command, forced_interrupt, forced_let, forced_step, has_step, is_at_rest, is_due, is_free, is_ready, is_vacant, let_event, may_let, may_start, may_start_somewhere, runs_at, runs_somewhere}
use Rattle.conc_base_law.specs.Before.{latest, occurs}
use Rattle.conc_base_law.specs.Places.{all_places, is_usable, place_of}
use Rattle.conc_base_law.specs.Plans.{is_admitted, is_enabled, precedes}
use Rattle.conc_base_law.specs.Stages.{set_step}
use Rattle.conc_base_law.specs.State.{facts_at, has_come, is_completed, is_done, is_live, is_running, is_waiting, now, state}
use Rattle.conc_base_law.specs.Words.{first_by, Has, is_set}
use Rattle.conc_base_law.proofs.FactsAt.{facts_at-state, is_completed-state, is_waiting-state, let_out-state, numbered-map, opened-state}
use Rattle.conc_base_law.proofs.FirstBy.{any-some, find-found, find-some, first_by-none, none_any, precedes-order}
use Rattle.conc_base_law.proofs.LiveApart.{are_exclusive_comm, is_let-more, let_could}
use Rattle.conc_base_law.proofs.OpenSets.{open_set}
use Rattle.conc_base_law.proofs.Numbers.{enumerated-numbered}
use Rattle.conc_base_law.specs.Steady.{HasUsablePlace, Steady}
use Rattle.conc_base_law.proofs.Calm.{Calm, calm-before, calm-follows, held-not}
use Rattle.conc_base_law.proofs.Endings.{closed_opened, closed_set_item, completed-some, ended_item, open_opened, way, Way, way_cancel, way_close, way_end}
use Rattle.conc_base_law.proofs.Lists.{any-has, get-has, none-has}
use Rattle.conc_base_law.proofs.Times.{last_tick}

-- ---- nothing is forced

-- none of two options that give nothing gives something
or-none : {A : Type 0} (a b : Option A) → option_or a b ≡ None → (a ≡ None) × (b ≡ None)
or-none None b h = (refl, h)
or-none (Some x) b h = cc

-- what a map makes of nothing is nothing
map-none : {A B : Type 0} (f : A → B) (o : Option A) → option_map f o ≡ None → o ≡ None
map-none f None h = refl
map-none f (Some x) h = cc

-- an option without a value
is_none-none : {A : Type 0} (o : Option A) → is_none o ≡ true → o ≡ None
is_none-none None h = refl
is_none-none (Some x) h = cc

-- a search finds nothing where no element passes
find-none_any : {T : Type 0} (test : T → Bool) (xs : List T) → find test xs ≡ None → list_any test xs ≡ false
find-none_any test xs h = none_any test xs (λ y k. elim (cases_Bool (test y)) [
  | inl t ↦ let f : (z : _) × (find test xs ≡ Some z) = find-found test xs y k t in absurd (cc (h, f.1))
  | inr f ↦ f
])

-- nothing is forced, nothing runs, and nothing may start
pub record IsResting (plan : Plan) (s : State) : Type 0 where
  pub no_command : (order : ℕ × Order) → Has (enumerate_from 1 plan.script.commands) order → is_due s order ≡ false
  pub no_step : (set : Req) → Has plan.requests set → has_step plan s set ≡ false
  pub no_let : (r : Req) → Has plan.requests r → may_let plan s r ≡ false
  pub no_run : (r : Req) → Has plan.requests r → is_running (facts_at s r) ≡ false
  pub no_start : (r : Req) → Has plan.requests r → may_start_somewhere plan s r ≡ false

-- a set that has a step takes it
step-found : (plan : Plan) (s : State) (found : Option Req) → find (has_step plan s) plan.requests ≡ found → option_and_then (set_step plan s) found ≡ None → found ≡ None
unfolding has_step
step-found plan s None is h = refl
step-found plan s (Some set) is h =
    let p : (_ ≡ true) × Has plan.requests set = find-some (has_step plan s) plan.requests set is in
    let q : is_some (set_step plan s set) ≡ true = (and_parts (facts_at s set).opened _ p.0).1 in
    let n : is_some (set_step plan s set) ≡ false = ap is_some h in
    absurd (both_ways _ n q)

-- a list at rest is so
pub resting : (plan : Plan) (s : State) → is_at_rest plan s ≡ true → IsResting plan s
unfolding is_at_rest forced forced_command forced_step forced_let runs_somewhere
resting plan s h =
    let p = and_parts (is_none (forced plan s)) _ h in
    let q = and_parts (not (list_any (runs_somewhere s) plan.requests)) _ p.1 in
    let a = or-none (forced_interrupt plan s) (option_or (forced_command plan s) (option_or (forced_step plan s) (forced_let plan s))) (is_none-none _ p.0) in
    let b = or-none (forced_command plan s) (option_or (forced_step plan s) (forced_let plan s)) a.1 in
    let c = or-none (forced_step plan s) (forced_let plan s) b.1 in
    record {
      no_command = λ order k. none-has (is_due s) (enumerate_from 1 plan.script.commands) order
          (find-none_any (is_due s) (enumerate_from 1 plan.script.commands) (map-none (λ order. event.Command order.0) (find (is_due s) (enumerate_from 1 plan.script.commands)) b.0)) k;
      no_step = λ set k. none-has (has_step plan s) plan.requests set
          (find-none_any (has_step plan s) plan.requests (step-found plan s (find (has_step plan s) plan.requests) refl c.0)) k;
      no_let = λ r k. first_by-none precedes (may_let plan s) plan.requests precedes-order (map-none let_event (first_by precedes (may_let plan s) plan.requests) c.1) r k;
      no_run = λ r k. none-has (λ x. is_running (facts_at s x)) plan.requests r (not-true _ q.0) k;
      no_start = λ r k. none-has (may_start_somewhere plan s) plan.requests r (not-true _ q.1) k;
    }

-- ---- commands

-- a command whose moment has come is done
pub command_done : (plan : Plan) (past : List Event) (order : ℕ × Order) → IsResting plan (state plan past) → Has (enumerate_from 1 plan.script.commands) order
    → has_come (now past) order.1.at ≡ true → occurs (is_command order.0) past ≡ true
unfolding is_due state is_done
command_done plan past order rest k come = elim (cases_Bool (occurs (is_command order.0) past)) [
  | inl t ↦ t
  | inr f ↦
      let commands = enumerate_from 1 plan.script.commands in
      let at : unwrap_or (numbered (state plan past).done order.0) false ≡ occurs (is_command order.0) past =
      ap (λ o. unwrap_or o false) (numbered-map (is_done past) commands order.0)
      ∙ ap (λ o. unwrap_or (option_map (is_done past) o) false) (enumerated-numbered plan.script.commands order k) in
      let due : (not (unwrap_or (numbered (state plan past).done order.0) false) && has_come (now past) order.1.at) ≡ true =
      and_from _ _ (not_from_false _ (at ∙ f)) come in
      absurd (both_ways _ (rest.no_command order k) due)
]

-- ---- a let request can run

-- a request that can run, and is no set, is admitted
run-admitted : (plan : Plan) (r : Req) → can_run plan r ≡ true → is_set r.item ≡ false → is_admitted plan r ≡ true
unfolding can_run
run-admitted plan r h n = elim (or_cases (is_set r.item) _ h) [
  | inl t ↦ absurd (both_ways _ n t)
  | inr p ↦ (and_parts (is_enabled plan r) _ p).1
]

-- what a request that can be let out meets
pub record IsReady (plan : Plan) (past : List Event) (r : Req) : Type 0 where
  pub entered : is_entered past r ≡ true
  pub come : has_come (now past) r.start ≡ true
  pub can : can_run plan r ≡ true
  pub waits_not : waits_for_stage plan past r ≡ false

-- a request that could be let meets it
pub could-ready : (plan : Plan) (past : List Event) (r : Req) → Has plan.requests r → may_let plan (state plan past) r ≡ true → IsReady plan past r
unfolding may_let is_ready facts_of state
could-ready plan past r hr h =
    let s = state plan past in
    let f = facts_at s r in
    let z = (and_parts (is_ready plan s r) _ h).0 in
    let a = and_parts f.entered _ z in
    let b = (and_parts (not (is_live f)) _ a.1).1 in
    let c = (and_parts (not (is_completed f)) _ b).1 in
    let d = (and_parts (not f.held) _ c).1 in
    let e = and_parts (has_come s.time r.start) _ d in
    let g = and_parts (can_run plan r) _ e.1 in
    record {
      entered = sym (ap (λ x. x.entered) (facts_at-state plan past r hr)) ∙ a.0;
      come = e.0;
      can = g.0;
      waits_not = sym (is_waiting-state plan past r) ∙ not-true _ g.1;
    }

-- a let request can run, is no set, and was let after a tick
pub record CouldRun (plan : Plan) (past : List Event) (r : Req) : Type 0 where
  pub can : can_run plan r ≡ true
  pub no_set : is_set r.item ≡ false
  pub ticked : is_some (now past) ≡ true

-- a moment comes by a tick
come-some : (o : Option Moment) (t : Moment) → has_come o t ≡ true → is_some o ≡ true
unfolding has_come
come-some None t h = cc
come-some (Some m) t h = refl

-- a tick stays
now-more : (past : List Event) (e : Event) → is_some (now past) ≡ true → is_some (now (e ∷ past)) ≡ true
unfolding now
now-more past e h = by (tick_of e) (latest tick_of past) h where
  by : (a b : Option Moment) → is_some b ≡ true → is_some (option_or a b) ≡ true
  by None b k = k
  by (Some t) b k = refl

-- each let request is so
pub let_could_run : (plan : Plan) (readings : List Reading) (past : List Event) (r : Req) → Has plan.requests r → Calm plan readings past → is_let plan past r ≡ true → CouldRun plan past r
unfolding is_let
let_could_run plan readings [] r hr c h = cc
let_could_run plan readings (e ∷ past) r hr c h = elim (is_let-more plan past r e h) [
  | inl k ↦
      let could : (may_let plan (state plan past) r ≡ true) × (is_set r.item ≡ false) =
      let_could plan None past r hr (subst (λ d. may_follow plan None past d ≡ true) k (calm-follows plan readings past e c)) in
      let p : IsReady plan past r = could-ready plan past r hr could.0 in
      record { can = p.can; no_set = could.1; ticked = now-more past e (come-some (now past) r.start p.come) }
  | inr k ↦
      let p : CouldRun plan past r = let_could_run plan readings past r hr (calm-before plan readings past e c) k.1 in
      record { can = p.can; no_set = p.no_set; ticked = now-more past e p.ticked }
]

-- where nothing runs each place is vacant
vacant : (plan : Plan) (s : State) (place : PlaceId) → IsResting plan s → is_vacant plan s place ≡ true
unfolding is_vacant runs_at
vacant plan s place rest = not_from_false _ (none_any (runs_at s place) plan.requests (λ x k. by (facts_at s x).place (rest.no_run x k))) where
  by : (o : Option PlaceId) → is_some o ≡ false → some_and (λ p. p.index == place.index) o ≡ false
  by None h = refl
  by (Some p) h = cc

-- the last tick is a reading
tick-reading : (plan : Plan) (readings : List Reading) (past : List Event) → Calm plan readings past → is_some (now past) ≡ true
    → (q : Reading) × Has readings q × (now past ≡ Some q.moment)
tick-reading plan readings past c h = elim (last_tick plan readings past c) [
  | inl a ↦ let n : is_some {T = Moment} None ≡ true = ap is_some (sym a.1) ∙ h in cc
  | inr a ↦ (a.1, get-has readings a.0 a.1 a.3, a.4)
]

-- a let request that does not run may start
let_starts : (plan : Plan) (readings : List Reading) (past : List Event) (r : Req) → Steady plan readings → Has plan.requests r → Calm plan readings past → IsResting plan (state plan past)
    → is_let plan past r ≡ true → may_start_somewhere plan (state plan past) r ≡ true
unfolding may_start_somewhere may_start is_admitted state
let_starts plan readings past r st hr c rest h =
    let s = state plan past in
    let k : CouldRun plan past r = let_could_run plan readings past r hr c h in
    let m : (manager : Manager) × Has plan.setup.managers manager × (admits manager r ≡ true) = any-has (λ manager. admits manager r) plan.setup.managers (run-admitted plan r k.can k.no_set) in
    let q : (q : Reading) × Has readings q × (now past ≡ Some q.moment) = tick-reading plan readings past c k.ticked in
    let u : HasUsablePlace plan m.0 q.0.moment = st.usable m.0 q.0 m.1 q.1 in
    let admitted : some_and (λ p. admits p.manager r) (place_of plan u.place) ≡ true =
    ap (some_and (λ p. admits p.manager r)) u.here ∙ (ap (λ x. admits x r) u.owner ∙ m.2) in
    let usable : some_and (λ t. is_usable plan t u.place) (now past) ≡ true = ap (some_and (λ t. is_usable plan t u.place)) q.2 ∙ u.usable in
    let here : ((facts_at s r).let_out && (not (is_running (facts_at s r)) && (some_and (λ p. admits p.manager r) (place_of plan u.place)
    && (some_and (λ t. is_usable plan t u.place) (now past) && is_vacant plan s u.place)))) ≡ true =
    and_from _ _ (let_out-state plan past r hr ∙ h)
    (and_from _ _ (not_from_false _ (rest.no_run r hr)) (and_from _ _ admitted (and_from _ _ usable (vacant plan s u.place rest)))) in
    any-some (may_start plan s r) (all_places plan) u.place u.element here

-- no request is let at rest
pub let-not : (plan : Plan) (readings : List Reading) (past : List Event) (r : Req) → Steady plan readings → Has plan.requests r → Calm plan readings past → IsResting plan (state plan past)
    → is_let plan past r ≡ false
let-not plan readings past r st hr c rest = elim (cases_Bool (is_let plan past r)) [
  | inr f ↦ f
  | inl t ↦ absurd (both_ways _ (rest.no_start r hr) (let_starts plan readings past r st hr c rest t))
]

-- ---- what is ready is live or completed

-- no live request excludes another
free : (plan : Plan) (readings : List Reading) (past : List Event) (r : Req) → Steady plan readings → Has plan.requests r → Calm plan readings past → IsResting plan (state plan past)
    → is_free plan (state plan past) r ≡ true
unfolding is_free blocks
free plan readings past r st hr c rest =
    not_from_false _ (none_any (blocks plan (state plan past) r) plan.requests (λ q hq. elim (cases_Bool (is_open past q)) [
      | inl o ↦ and_right _ _ (are_exclusive_comm plan q r ∙ st.sets_apart r q hr hq (open_set past q o))
      | inr n ↦ and_left _ _ (or_from _ _ (let_out-state plan past q hq ∙ let-not plan readings past q st hq c rest) (opened-state plan past q hq ∙ n))
    ]))

-- a request that is ready in this list is open or completed
pub ready-open_or_completed : (plan : Plan) (readings : List Reading) (past : List Event) (r : Req) → Steady plan readings → Has plan.requests r → Calm plan readings past → IsResting plan (state plan past)
    → IsReady plan past r → (is_open past r ≡ true) ⊎ (was_completed plan past r ≡ true)
unfolding may_let is_ready state facts_of
ready-open_or_completed plan readings past r st hr c rest p = elim (cases_Bool (is_open past r)) [
  | inl o ↦ inl o
  | inr n ↦ elim (cases_Bool (was_completed plan past r)) [
    | inl d ↦ inr d
    | inr u ↦
        let s = state plan past in
        let f = facts_at s r in
        let same = facts_at-state plan past r hr in
        let dead : is_live f ≡ false = or_from _ _ (let_out-state plan past r hr ∙ let-not plan readings past r st hr c rest) (opened-state plan past r hr ∙ n) in
        let fresh : is_completed f ≡ false = is_completed-state plan past r hr ∙ u in
        let unheld : f.held ≡ false = ap (λ x. x.held) same ∙ held-not plan past r c.submits in
        let in_it : f.entered ≡ true = ap (λ x. x.entered) same ∙ p.entered in
        let ready : (f.entered && (not (is_live f) && (not (is_completed f) && (not f.held && (has_come (now past) r.start && (can_run plan r && not (is_waiting plan s r))))))) ≡ true =
        and_from _ _ in_it (and_from _ _ (not_from_false _ dead) (and_from _ _ (not_from_false _ fresh) (and_from _ _ (not_from_false _ unheld)
        (and_from _ _ p.come (and_from _ _ p.can (not_from_false _ (is_waiting-state plan past r ∙ p.waits_not))))))) in
        absurd (both_ways _ (rest.no_let r hr) (and_from _ _ ready (free plan readings past r st hr c rest)))
  ]
]

-- so a program's request that is ready has ended
pub ready-ended : (plan : Plan) (readings : List Reading) (past : List Event) (r : Req) → Steady plan readings → Has plan.requests r → Calm plan readings past → IsResting plan (state plan past)
    → is_set r.item ≡ false → IsReady plan past r → occurs (ends r.number) past ≡ true
ready-ended plan readings past r st hr c rest n p = elim (ready-open_or_completed plan readings past r st hr c rest p) [
  | inl o ↦ absurd (both_ways _ n (open_set past r o))
  | inr d ↦
      let o : (o : Outcome) × (completion plan past r ≡ Some o) = completed-some plan past r d in
      by (way plan readings past r o.0 c o.1)
] where
  by : {o : Outcome} → Way plan past r o → occurs (ends r.number) past ≡ true
  by (way_end h) = h
  by (way_close h) = absurd (both_ways _ n (closed_set_item plan readings past r hr c h))
  by (way_cancel h w k) = absurd (both_ways _ p.waits_not w)

-- and a set that is ready was opened
pub ready-opened : (plan : Plan) (readings : List Reading) (past : List Event) (r : Req) → Steady plan readings → Has plan.requests r → Calm plan readings past → IsResting plan (state plan past)
    → is_set r.item ≡ true → IsReady plan past r → occurs (opens r.number) past ≡ true
ready-opened plan readings past r st hr c rest n p = elim (ready-open_or_completed plan readings past r st hr c rest p) [
  | inl o ↦ open_opened past r o
  | inr d ↦
      let o : (o : Outcome) × (completion plan past r ≡ Some o) = completed-some plan past r d in
      by (way plan readings past r o.0 c o.1)
] where
  by : {o : Outcome} → Way plan past r o → occurs (opens r.number) past ≡ true
  by (way_end h) = absurd (both_ways _ (ended_item plan readings past r hr c h) n)
  by (way_close h) = closed_opened plan readings past r hr c h
  by (way_cancel h w k) = absurd (both_ways _ p.waits_not w)
