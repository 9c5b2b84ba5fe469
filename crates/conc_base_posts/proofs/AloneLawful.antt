-- What comes next in a run without workers is lawful, where programs post.
use Rattle.std.proofs.Common.{◌≡◌, ◌==◌, ◌<◌, ◌^◌, ℕ, Bool, true, false, not, ◌&&◌, List, length, Option, None, Some, if◌then◌else◌, refl, sym, ◌∙◌, ap, subst, inl, inr, arith}
use Rattle.std.specs.Prelude.{nat_lt}
use Rattle.std.specs.Bool.{then_some}
use Rattle.std.specs.List.{find, list_any}
use Rattle.std.specs.Option.{option_and_then, option_map, option_or}
use Rattle.std.proofs.lemmas.Bool.{and_from, cond-false, lt-ltb}
use Rattle.conc_types.specs.declared.event.Event.{Event}
use Rattle.conc_types.specs.declared.event.Event.TheVariants as event
use Rattle.conc_types.specs.declared.event.Extent.{Extent}
use Rattle.conc_types.specs.declared.event.Outcome.TheVariants as outcome
use Rattle.conc_types.specs.declared.event.PlaceId.{PlaceId}
use Rattle.conc_types.specs.declared.facts.State.{State}
use Rattle.conc_types.specs.declared.plan.Plan.{Plan}
use Rattle.conc_types.specs.declared.plan.Req.{Req}
use Rattle.conc_types.specs.declared.script.Reading.{Reading}
use Rattle.conc_types.specs.Words.{none_or, some_and}
use Rattle.conc_base_law.specs.Alone.{end_with, first_start, next_tick, start_of}
use Rattle.conc_base_law.specs.Events.{event_eq}
use Rattle.conc_base_law.specs.Kinds.{is_resume}
use Rattle.conc_base_law.specs.Law.{may_follow}
use Rattle.conc_base_law.specs.Next.{forced, is_allowed, is_next_extent, may_come, may_end, may_start, may_start_somewhere, may_take, may_tick, obeys, runs_somewhere}
use Rattle.conc_base_law.specs.Places.{all_places}
use Rattle.conc_base_law.specs.Plans.{precedes}
use Rattle.conc_base_law.specs.Readings.{next_reading}
use Rattle.conc_base_law.specs.Report.{Report}
use Rattle.conc_base_law.specs.State.{facts_at, is_running, is_stopping, state}
use Rattle.conc_base_law.specs.Words.{first_by, Has}
use Rattle.conc_base_law.proofs.AloneLawful as law_proofs
use Rattle.conc_base_law.proofs.AloneLawful.{IsGood}
use Rattle.conc_base_law.proofs.EqualEvents.{eqb-refl, event_eq-refl}
use Rattle.conc_base_law.proofs.FirstBy.{find-some}
use Rattle.conc_base_law.proofs.ForcedKinds.{forced_kind, forced_no_resume, is_forced_kind}
use Rattle.conc_base_law.proofs.Numbering.{numbered_plan}
use Rattle.conc_base_law.proofs.Options.{and_then-some, map-some, or-some, then_some-some}
use Rattle.conc_base_posts.specs.Alone.{choice, end_of, first_end, next_alone}
use Rattle.conc_base_posts.specs.Positions.{last_report}
use Rattle.conc_base_posts.specs.Posts.{Booked}
use Rattle.conc_base_posts.proofs.Booked.{last_report-good}

-- ---- an end

-- a request that runs on may end with a good report at the end of the spool
may_end-report : (s : State) (r : Req) (made : Report) (offset : ℕ) → is_running (facts_at s r) ≡ true → is_stopping (facts_at s r) ≡ false
    → s.used ≡ Some offset → IsGood made → may_end s r made.outcome (Some (record { offset = offset; length = length made.text })) ≡ true
unfolding may_end is_next_extent
may_end-report s r made offset run going used good =
    let wide : length made.text < 2 ^ 32 = omega (arith, good.short) in
    let fits : (nat_lt 0 (length made.text) && nat_lt (length made.text) (2 ^ 32)) ≡ true = and_from _ _ (lt-ltb _ _ good.some) (lt-ltb _ _ wide) in
    and_from _ _ run (cond-false (is_stopping (facts_at s r)) _ _ going
    ∙ and_from _ _ good.outcome (and_from _ _ (ap (some_and (λ n. offset == n)) used ∙ eqb-refl offset) fits))

-- the end of a request that runs is allowed
end_allowed : (plan : Plan) (past : List Event) (s : State) (next : Option (Option Reading)) (r : Req) (e : Event) → Has plan.requests r
    → is_running (facts_at s r) ≡ true → (stop : Bool) → is_stopping (facts_at s r) ≡ stop
    → (if stop then Some (event.Ended r.number outcome.Terminated None) else option_and_then (λ made. option_map (end_with r made.report) s.used) (last_report plan past r.number)) ≡ Some e
    → is_allowed plan s next e ≡ true
unfolding is_allowed
end_allowed plan past s next r e hr run true is h = law_proofs.end_allowed plan s next r e hr run true is h
end_allowed plan past s next r e hr run false is h =
    let p : (made : Booked) × (last_report plan past r.number ≡ Some made) × (option_map (end_with r made.report) s.used ≡ Some e) =
    and_then-some (λ made. option_map (end_with r made.report) s.used) (last_report plan past r.number) e h in
    let q : (offset : ℕ) × (s.used ≡ Some offset) × (end_with r p.0.report offset ≡ e) = map-some (end_with r p.0.report) s.used e p.2 in
    let x : Option Extent = Some (record { offset = q.0; length = length p.0.report.text }) in
    let ok : is_allowed plan s next (end_with r p.0.report q.0) ≡ true =
    ap (some_and (λ y. may_end s y p.0.report.outcome x)) (numbered_plan plan r hr)
    ∙ may_end-report s r p.0.report q.0 run is q.1 (last_report-good plan past r.number p.0 p.1) in
    subst (λ d. is_allowed plan s next d ≡ true) q.2 ok

-- the end of the first request that runs is allowed
first_end-allowed : (plan : Plan) (past : List Event) (s : State) (next : Option (Option Reading)) (e : Event) → first_end plan past s ≡ Some e
    → is_allowed plan s next e ≡ true
unfolding first_end runs_somewhere
first_end-allowed plan past s next e h =
    let p : (r : Req) × (find (runs_somewhere s) plan.requests ≡ Some r) × (end_of plan past s r ≡ Some e) =
    and_then-some (end_of plan past s) (find (runs_somewhere s) plan.requests) e h in
    let q : (runs_somewhere s p.0 ≡ true) × Has plan.requests p.0 = find-some (runs_somewhere s) plan.requests p.0 p.1 in
    end_allowed plan past s next p.0 e q.1 q.0 (is_stopping (facts_at s p.0)) refl p.2

-- ---- a start

-- the start of the first request that may start is allowed
first_start-allowed : (plan : Plan) (s : State) (next : Option (Option Reading)) (e : Event) → first_start plan s ≡ Some e → is_allowed plan s next e ≡ true
unfolding first_start is_allowed
first_start-allowed plan s next e h =
    let p : (r : Req) × (first_by precedes (may_start_somewhere plan s) plan.requests ≡ Some r) × (start_of plan s r ≡ Some e) =
    and_then-some (start_of plan s) (first_by precedes (may_start_somewhere plan s) plan.requests) e h in
    let first : Req → Bool = λ x. may_start_somewhere plan s x && not (list_any (λ y. may_start_somewhere plan s y && precedes y x) plan.requests) in
    let q : (first p.0 ≡ true) × Has plan.requests p.0 = find-some first plan.requests p.0 p.1 in
    let t : (place : PlaceId) × (find (may_start plan s p.0) (all_places plan) ≡ Some place) × (event.Started p.0.number place ≡ e) =
    map-some (λ place. event.Started p.0.number place) (find (may_start plan s p.0) (all_places plan)) e p.2 in
    let u : may_start plan s p.0 t.0 ≡ true = (find-some (may_start plan s p.0) (all_places plan) t.0 t.1).0 in
    let ok : is_allowed plan s next (event.Started p.0.number t.0) ≡ true = ap (some_and (λ x. may_start plan s x t.0)) (numbered_plan plan p.0 q.1) ∙ u in
    subst (λ d. is_allowed plan s next d ≡ true) t.2 ok

-- ---- a tick

-- the tick of the next reading is allowed
next_tick-allowed : (plan : Plan) (s : State) (next : Option Reading) (e : Event) → next_tick plan s next ≡ Some e → is_allowed plan s (Some next) e ≡ true
unfolding next_tick is_allowed may_tick
next_tick-allowed plan s next e h =
    let p : (q : Reading) × (next ≡ Some q) × (then_some (may_take plan s q) (event.Tick q.moment) ≡ Some e) =
    and_then-some (λ q. then_some (may_take plan s q) (event.Tick q.moment)) next e h in
    let q : (may_take plan s p.0 ≡ true) × (event.Tick p.0.moment ≡ e) = then_some-some (may_take plan s p.0) (event.Tick p.0.moment) e p.2 in
    let ok : is_allowed plan s (Some next) (event.Tick p.0.moment) ≡ true =
    ap (some_and (λ r. p.0.moment.seconds == r.moment.seconds && may_take plan s r)) p.1 ∙ and_from _ _ (eqb-refl p.0.moment.seconds) q.0 in
    subst (λ d. is_allowed plan s (Some next) d ≡ true) q.1 ok

-- ---- one event

-- no resume is allowed as a free event
allowed_no_resume : (plan : Plan) (s : State) (next : Option (Option Reading)) (e : Event) → is_allowed plan s next e ≡ true → is_resume e ≡ false
unfolding is_allowed
allowed_no_resume plan s next event.Resume h = cc
allowed_no_resume plan s next _ h = refl

-- the choice is no resume, and is the forced event or one that is allowed
comes_by : (plan : Plan) (past : List Event) (s : State) (next : Option Reading) (e : Event) → (due : Option Event) → forced plan s ≡ due
    → none_or is_forced_kind due ≡ true
    → option_or due (option_or (first_end plan past s) (option_or (first_start plan s) (next_tick plan s next))) ≡ Some e
    → (is_resume e ≡ false) × (obeys plan s (Some next) e (forced plan s) ≡ true)
comes_by plan past s next e (Some d) is kind h =
    let same : d ≡ e = cc in (
      subst (λ x. is_resume x ≡ false) same (forced_no_resume d kind),
      ap (obeys plan s (Some next) e) is ∙ subst (λ x. event_eq e x ≡ true) (sym same) (event_eq-refl e),
    )
comes_by plan past s next e None is kind h =
    let ok : is_allowed plan s (Some next) e ≡ true = elim (or-some (first_end plan past s) _ e h) [
      | inl a ↦ first_end-allowed plan past s (Some next) e a
      | inr b ↦ elim (or-some (first_start plan s) _ e b) [
        | inl c ↦ first_start-allowed plan s (Some next) e c
        | inr d ↦ next_tick-allowed plan s next e d
      ]
    ] in
    (allowed_no_resume plan s (Some next) e ok, ap (obeys plan s (Some next) e) is ∙ ok)

-- what comes next is no resume, and may follow
pub next_alone-follows : (plan : Plan) (readings : List Reading) (past : List Event) (e : Event) → next_alone plan readings past ≡ Some e
    → (is_resume e ≡ false) × (may_follow plan (Some readings) past e ≡ true)
unfolding next_alone choice may_follow may_come
next_alone-follows plan readings past e h =
    let s : State = state plan past in
    let p : (is_resume e ≡ false) × (obeys plan s (Some (next_reading readings past)) e (forced plan s) ≡ true) =
    comes_by plan past s (next_reading readings past) e (forced plan s) refl (forced_kind plan s) h in
    (p.0, cond-false (is_resume e) _ _ p.0 ∙ p.1)
