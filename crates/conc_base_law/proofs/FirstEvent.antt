-- Before the first event nothing is forced, and only a tick is allowed.
use Rattle.std.proofs.Common.{◌≡◌, Bool, true, false, not, ◌&&◌, List, [], ◌∷◌, Option, None, Some, is_some, refl, reverse, sym, ◌∙◌, ap}
use Rattle.std.specs.Prelude.{unwrap_or}
use Rattle.std.specs.List.{enumerate_from, find, list_any}
use Rattle.std.specs.Option.{option_and_then, option_map, option_or}
use Rattle.std.proofs.lemmas.Bool.{and_left, and_parts, and_right, both_ways, cond-false}
use Rattle.conc_types.specs.declared.event.Event.{Event}
use Rattle.conc_types.specs.declared.event.Event.TheVariants as event
use Rattle.conc_types.specs.declared.event.Extent.{Extent}
use Rattle.conc_types.specs.declared.event.Outcome.{Outcome}
use Rattle.conc_types.specs.declared.event.PlaceId.{PlaceId}
use Rattle.conc_types.specs.declared.plan.Plan.{Plan}
use Rattle.conc_types.specs.declared.plan.Req.{Req}
use Rattle.conc_types.specs.Plans.{request}
use Rattle.conc_types.specs.Words.{numbered, some_and}
use Rattle.conc_base_law.specs.Facts.{completion, current_stage, facts_of, is_entered, is_held, is_let, is_open, running_place, stages_begun, was_started, was_terminated}
use Rattle.conc_base_law.specs.Kinds.{tick_of}
use Rattle.conc_base_law.specs.Law.{is_lawful_so_far, may_follow}
use Rattle.conc_base_law.specs.Next.{forced, forced_command, forced_interrupt, forced_let, forced_step, has_step, is_allowed, is_due, is_left_running, is_ready, let_event, may_come, may_end, may_let, may_start, obeys}
use Rattle.conc_base_law.specs.Before.{last_life}
use Rattle.conc_base_law.specs.Plans.{precedes}
use Rattle.conc_base_law.specs.Stages.{set_step}
use Rattle.conc_base_law.specs.State.{facts_at, has_come, is_running, no_facts, now, state}
use Rattle.conc_base_law.specs.Words.{is_set}
use Rattle.conc_base_law.proofs.FactsAt.{numbered-map}
use Rattle.conc_base_law.proofs.Options.{some_and-some}
use Rattle.conc_base_law.proofs.Prefixes.{is_lawful_so_far-prefix}

-- a search finds nothing where nothing passes
find-none : {T : Type 0} (test : T → Bool) (xs : List T) → ((x : T) → test x ≡ false) → find test xs ≡ None
find-none test [] h = refl
find-none test (x ∷ xs) h = cond-false (test x) (Some x) (find test xs) (h x) ∙ find-none test xs h

-- ---- no request has a fact

-- no event says anything of a request
pub facts_of-none : (plan : Plan) (r : Req) → facts_of plan [] r ≡ no_facts
unfolding facts_of is_entered is_held is_open current_stage stages_begun is_let running_place was_started was_terminated completion last_life
facts_of-none plan r = ap (λ b. record no_facts { opened = b }) (and_right (is_set r.item) false refl)

-- nothing stands of a request
pub facts_at-none : (plan : Plan) (r : Req) → facts_at (state plan []) r ≡ no_facts
unfolding facts_at state
facts_at-none plan r =
    ap (λ o. unwrap_or o no_facts) (numbered-map (facts_of plan []) plan.requests r.number.number)
    ∙ by (numbered plan.requests r.number.number) where
      by : (o : Option Req) → unwrap_or (option_map (facts_of plan []) o) no_facts ≡ no_facts
      by None = refl
      by (Some q) = facts_of-none plan q

-- ---- nothing is forced

-- no interrupt is forced
no_interrupt : (plan : Plan) → forced_interrupt plan (state plan []) ≡ None
unfolding forced_interrupt is_left_running
no_interrupt plan =
    let s = state plan [] in
    ap (option_map (λ r. event.Interrupt r.number))
    (find-none (is_left_running s) plan.requests (λ r. ap (λ f. is_running f && not f.started) (facts_at-none plan r)))

-- no command is forced
no_command : (plan : Plan) → forced_command plan (state plan []) ≡ None
unfolding forced_command is_due has_come state now
no_command plan =
    ap (option_map (λ order. event.Command order.0))
    (find-none (is_due (state plan [])) (enumerate_from 1 plan.script.commands) (λ order. and_right _ false refl))

-- no step of a set is forced
no_step : (plan : Plan) → forced_step plan (state plan []) ≡ None
unfolding forced_step has_step
no_step plan =
    let s = state plan [] in
    ap (option_and_then (set_step plan s))
    (find-none (has_step plan s) plan.requests (λ r. and_left _ _ (ap (λ f. f.opened) (facts_at-none plan r))))

-- no request can be let
none_lettable : (plan : Plan) (r : Req) → may_let plan (state plan []) r ≡ false
unfolding may_let is_ready
none_lettable plan r = and_left _ _ (and_left _ _ (ap (λ f. f.entered) (facts_at-none plan r)))

-- no let is forced
no_let : (plan : Plan) → forced_let plan (state plan []) ≡ None
unfolding forced_let
no_let plan =
    let s = state plan [] in
    ap (option_map let_event)
    (find-none (λ x. may_let plan s x && not (list_any (λ y. may_let plan s y && precedes y x) plan.requests)) plan.requests
    (λ x. and_left _ _ (none_lettable plan x)))

-- no event is forced
none_forced : (plan : Plan) → forced plan (state plan []) ≡ None
unfolding forced
none_forced plan =
    let s = state plan [] in
    ap (λ o. option_or o (option_or (forced_command plan s) (option_or (forced_step plan s) (forced_let plan s)))) (no_interrupt plan)
    ∙ ap (λ o. option_or o (option_or (forced_step plan s) (forced_let plan s))) (no_command plan)
    ∙ ap (λ o. option_or o (forced_let plan s)) (no_step plan)
    ∙ no_let plan

-- ---- only a tick is allowed

-- no request may start
none_starts : (plan : Plan) (r : Req) (place : PlaceId) → may_start plan (state plan []) r place ≡ false
unfolding may_start
none_starts plan r place = and_left _ _ (ap (λ f. f.let_out) (facts_at-none plan r))

-- no request may end
none_ends : (plan : Plan) (r : Req) (o : Outcome) (x : Option Extent) → may_end (state plan []) r o x ≡ false
unfolding may_end
none_ends plan r o x = and_left _ _ (ap (λ f. is_running f) (facts_at-none plan r))

-- an event that may come first is a tick
first_tick : (plan : Plan) (e : Event) → may_follow plan None [] e ≡ true → is_some (tick_of e) ≡ true
unfolding may_follow may_come is_allowed state
first_tick plan (event.Tick t) h = refl
first_tick plan event.Resume h = cc
first_tick plan (event.Started q place) h =
    let s = state plan [] in
    let allowed : some_and (λ r. may_start plan s r place) (request plan q) ≡ true =
    ap (obeys plan s None (event.Started q place)) (sym (none_forced plan)) ∙ h in
    let p : (r : Req) × (request plan q ≡ Some r) × (may_start plan s r place ≡ true) =
    some_and-some (λ r. may_start plan s r place) (request plan q) allowed in
    absurd (both_ways _ (none_starts plan p.0 place) p.2)
first_tick plan (event.Ended q o x) h =
    let s = state plan [] in
    let allowed : some_and (λ r. may_end s r o x) (request plan q) ≡ true =
    ap (obeys plan s None (event.Ended q o x)) (sym (none_forced plan)) ∙ h in
    let p : (r : Req) × (request plan q ≡ Some r) × (may_end s r o x ≡ true) = some_and-some (λ r. may_end s r o x) (request plan q) allowed in
    absurd (both_ways _ (none_ends plan p.0 o x) p.2)
first_tick plan e h =
    let never : false ≡ true = ap (obeys plan (state plan []) None e) (sym (none_forced plan)) ∙ h in
    cc

-- the first event of a lawful history is a tick
pub begins_with_tick : (plan : Plan) (e : Event) (history : List Event) → is_lawful_so_far plan (reverse (e ∷ history)) ≡ true → is_some (tick_of e) ≡ true
unfolding is_lawful_so_far
begins_with_tick plan e history h =
    let first : is_lawful_so_far plan (e ∷ []) ≡ true = is_lawful_so_far-prefix plan (e ∷ []) history h in
    first_tick plan e (and_parts (is_lawful_so_far plan []) _ first).1
