-- What may come next: what is forced, the tick of the next reading at rest, and a start.
use Rattle.std.proofs.Common.{◌≡◌, ◌==◌, ◌&&◌, ◌||◌, ◌+◌, ◌<◌, ℕ, zero, suc, Bool, true, false, not, List, [], ◌∷◌, ◌++◌, reverse, Option, None, Some, is_some, refl, sym, ◌∙◌, ap, inl, inr, arith}
use Rattle.std.specs.List.{find, range_with_len}
use Rattle.std.specs.Option.{option_map, option_or}
use Rattle.std.specs.Prelude.{map}
use Rattle.std.proofs.lemmas.Bool.{and_from, and_parts, cond-false, not-true, not_from_false, or_right}
use Rattle.conc_types.specs.declared.event.Event.{Event}
use Rattle.conc_types.specs.declared.event.Event.TheVariants as event
use Rattle.conc_types.specs.declared.event.Moment.{Moment}
use Rattle.conc_types.specs.declared.event.PlaceId.{PlaceId}
use Rattle.conc_types.specs.declared.facts.Facts.{Facts}
use Rattle.conc_types.specs.declared.facts.State.{State}
use Rattle.conc_types.specs.declared.plan.Plan.{Plan}
use Rattle.conc_types.specs.declared.plan.Req.{Req}
use Rattle.conc_types.specs.declared.script.Reading.{Reading}
use Rattle.conc_types.specs.Words.{none_or, some_and}
use Rattle.conc_base_law.specs.Facts.{facts_of}
use Rattle.conc_base_law.specs.Kinds.{is_resume}
use Rattle.conc_base_law.specs.Law.{Lawful, is_lawful, may_follow}
use Rattle.conc_base_law.specs.Managers.{admits}
use Rattle.conc_base_law.specs.Next.{forced, forced_command, forced_interrupt, forced_let, forced_step, is_allowed, is_at_rest, is_left_running, is_vacant, may_come, may_start, may_take, may_tick, obeys}
use Rattle.conc_base_law.specs.Places.{Place, all_places, count_of_places, is_usable, place_of}
use Rattle.conc_base_law.specs.Readings.{next_reading}
use Rattle.conc_base_law.specs.State.{facts_at, is_running, state}
use Rattle.conc_base_law.specs.Words.{Has}
use Rattle.conc_base_law.proofs.EqualEvents.{eqb-refl, event_eq-refl}
use Rattle.conc_base_law.proofs.FactsAt.{facts_at-state}
use Rattle.conc_base_law.proofs.FirstBy.{find-found}
use Rattle.conc_base_law.proofs.ForcedKinds.{forced_kind, forced_no_resume, is_forced_kind}
use Rattle.conc_base_law.proofs.Numbering.{numbered_plan}
use Rattle.conc_base_law.proofs.Positions.{reverse-push}

-- ---- one event more

-- an event that may follow leaves the list lawful
pub lawful_push : (plan : Plan) (readings : List Reading) (list : List Event) (e : Event) → is_resume e ≡ false → Lawful plan readings list → may_follow plan (Some readings) (reverse list) e ≡ true
    → Lawful plan readings (list ++ e ∷ [])
unfolding is_lawful
lawful_push plan readings list e no_resume lawful may =
    ap (is_lawful plan readings) (reverse-push list e) ∙ and_from _ _ (cond-false (is_resume e) _ _ no_resume ∙ lawful) may

-- an event that is no resume may follow where it obeys what is forced
follows_by : (plan : Plan) (readings : List Reading) (past : List Event) (e : Event) (due : Option Event) → is_resume e ≡ false → forced plan (state plan past) ≡ due
    → obeys plan (state plan past) (Some (next_reading readings past)) e due ≡ true → may_follow plan (Some readings) past e ≡ true
unfolding may_follow may_come
follows_by plan readings past e due no_resume is h =
    cond-false (is_resume e) _ _ no_resume ∙ ap (obeys plan (state plan past) (Some (next_reading readings past)) e) is ∙ h

-- ---- what is forced

forced_calm : (plan : Plan) (past : List Event) (e : Event) → forced plan (state plan past) ≡ Some e → is_resume e ≡ false
forced_calm plan past e is = forced_no_resume e (ap (none_or is_forced_kind) (sym is) ∙ forced_kind plan (state plan past))

pub forced_lawful : (plan : Plan) (readings : List Reading) (list : List Event) (e : Event) → Lawful plan readings list → forced plan (state plan (reverse list)) ≡ Some e
    → (is_resume e ≡ false) × Lawful plan readings (list ++ e ∷ [])
forced_lawful plan readings list e lawful is =
    let calm = forced_calm plan (reverse list) e is in
    (calm, lawful_push plan readings list e calm lawful (follows_by plan readings (reverse list) e (Some e) calm is (event_eq-refl e)))

-- where nothing is forced no interrupt is
no_interrupt : (plan : Plan) (s : State) → forced plan s ≡ None → forced_interrupt plan s ≡ None
unfolding forced
no_interrupt plan s none = by (forced_interrupt plan s) none where
  by : (o : Option Event) → option_or o (option_or (forced_command plan s) (option_or (forced_step plan s) (forced_let plan s))) ≡ None → o ≡ None
  by None h = refl
  by (Some e) h = cc

-- where no interrupt is forced nothing is left running
none_left : (plan : Plan) (s : State) (r : Req) → forced_interrupt plan s ≡ None → Has plan.requests r → is_left_running s r ≡ true → ⊥
unfolding forced_interrupt
none_left plan s r none hr left =
    let f = find-found (is_left_running s) plan.requests r hr left in
    let some : option_map (λ (x : Req). event.Interrupt x.number) (find (is_left_running s) plan.requests) ≡ Some (event.Interrupt f.0.number) = ap (option_map (λ (x : Req). event.Interrupt x.number)) f.1 in
    cc

-- so what runs was started in this life
pub runs_since : (plan : Plan) (past : List Event) (r : Req) (p : PlaceId) → Has plan.requests r → forced plan (state plan past) ≡ None → (facts_of plan past r).place ≡ Some p → (facts_of plan past r).started ≡ true
unfolding is_left_running
runs_since plan past r p hr calm place = by (facts_of plan past r).started refl where
  same : facts_at (state plan past) r ≡ facts_of plan past r
  same = facts_at-state plan past r hr

  left : (facts_of plan past r).started ≡ false → is_left_running (state plan past) r ≡ true
  left h = and_from _ _ (ap (λ (f : Facts). is_running f) same ∙ ap (λ (o : Option PlaceId). is_some o) place) (ap (λ (f : Facts). not f.started) same ∙ not_from_false _ h)

  by : (b : Bool) → (facts_of plan past r).started ≡ b → (facts_of plan past r).started ≡ true
  by true h = h
  by false h = absurd (none_left plan (state plan past) r (no_interrupt plan (state plan past) calm) hr (left h))

-- ---- the tick of the next reading

pub tick_lawful : (plan : Plan) (readings : List Reading) (list : List Event) (q : Reading) → Lawful plan readings list → forced plan (state plan (reverse list)) ≡ None
    → is_at_rest plan (state plan (reverse list)) ≡ true → next_reading readings (reverse list) ≡ Some q → Lawful plan readings (list ++ event.Tick q.moment ∷ [])
unfolding is_allowed may_tick may_take
tick_lawful plan readings list q lawful calm rest next =
    let s = state plan (reverse list) in
    let take : (q.moment.seconds == q.moment.seconds && (q.early || is_at_rest plan s)) ≡ true = and_from _ _ (eqb-refl q.moment.seconds) (or_right q.early _ rest) in
    lawful_push plan readings list (event.Tick q.moment) refl lawful
    (follows_by plan readings (reverse list) (event.Tick q.moment) None refl calm
    (ap (some_and (λ x. q.moment.seconds == x.moment.seconds && (x.early || is_at_rest plan s))) next ∙ take))

-- ---- a start

-- all that a start asks for
pub record MayStartAt (plan : Plan) (s : State) (r : Req) (p : PlaceId) : Type 0 where
  pub let_out : (facts_at s r).let_out ≡ true
  pub idle : is_running (facts_at s r) ≡ false
  pub admitted : some_and (λ (x : Place). admits x.manager r) (place_of plan p) ≡ true
  pub usable : some_and (λ (t : Moment). is_usable plan t p) s.time ≡ true
  pub vacant : is_vacant plan s p ≡ true

pub start_parts : (plan : Plan) (s : State) (r : Req) (p : PlaceId) → may_start plan s r p ≡ true → MayStartAt plan s r p
unfolding may_start
start_parts plan s r p h =
    let admitted : Bool = some_and (λ (x : Place). admits x.manager r) (place_of plan p) in
    let usable : Bool = some_and (λ (t : Moment). is_usable plan t p) s.time in
    let a = and_parts (facts_at s r).let_out (not (is_running (facts_at s r)) && (admitted && (usable && is_vacant plan s p))) h in
    let b = and_parts (not (is_running (facts_at s r))) (admitted && (usable && is_vacant plan s p)) a.1 in
    let c = and_parts admitted (usable && is_vacant plan s p) b.1 in
    let d = and_parts usable (is_vacant plan s p) c.1 in
    record { let_out = a.0; idle = not-true _ b.0; admitted = c.0; usable = d.0; vacant = d.1 }

start_from : (plan : Plan) (s : State) (r : Req) (p : PlaceId) → MayStartAt plan s r p → may_start plan s r p ≡ true
unfolding may_start
start_from plan s r p h = and_from _ _ h.let_out (and_from _ _ (not_from_false _ h.idle) (and_from _ _ h.admitted (and_from _ _ h.usable h.vacant)))

pub start_lawful : (plan : Plan) (readings : List Reading) (list : List Event) (r : Req) (p : PlaceId) → Lawful plan readings list → forced plan (state plan (reverse list)) ≡ None
    → Has plan.requests r → MayStartAt plan (state plan (reverse list)) r p → Lawful plan readings (list ++ event.Started r.number p ∷ [])
unfolding is_allowed
start_lawful plan readings list r p lawful calm hr may =
    let s = state plan (reverse list) in
    lawful_push plan readings list (event.Started r.number p) refl lawful
    (follows_by plan readings (reverse list) (event.Started r.number p) None refl calm
    (ap (some_and (λ q. may_start plan s q p)) (numbered_plan plan r hr) ∙ start_from plan s r p may))

-- ---- a place of the plan

abbrev place_numbered : ℕ → PlaceId
place_numbered index = record { index = index }

in_range : (from count : ℕ) (p : PlaceId) → Has (map place_numbered (range_with_len from count)) p → p.index < from + count
in_range from zero p h = absurd h
in_range from (suc count) p (inl e) = let at : p.index ≡ from = ap (λ (q : PlaceId). q.index) e in omega (arith, at)
in_range from (suc count) p (inr later) = let k : p.index < from + 1 + count = in_range (from + 1) count p later in omega (arith, k)

pub place_within : (plan : Plan) (p : PlaceId) → Has (all_places plan) p → p.index < count_of_places plan
unfolding all_places
place_within plan p h = let k : p.index < 0 + count_of_places plan = in_range 0 (count_of_places plan) p h in omega (arith, k)
