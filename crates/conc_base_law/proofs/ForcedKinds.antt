-- Which kinds of event are forced.
use Rattle.std.proofs.Common.{◌≡◌, ℕ, Bool, true, false, Option, None, Some, if◌then◌else◌, refl}
use Rattle.std.specs.Option.{option_or, option_map, option_and_then}
use Rattle.std.specs.Bool.{then_some}
use Rattle.std.specs.List.{enumerate_from, find}
use Rattle.conc_types.specs.declared.event.Event.{Event}
use Rattle.conc_types.specs.declared.event.Event.TheVariants as event
use Rattle.conc_types.specs.declared.facts.State.{State}
use Rattle.conc_types.specs.declared.plan.Plan.{Plan}
use Rattle.conc_types.specs.declared.plan.Req.{Req}
use Rattle.conc_types.specs.Words.{none_or}
use Rattle.conc_base_law.specs.Kinds.{is_resume}
use Rattle.conc_base_law.specs.Next.{forced, forced_command, forced_interrupt, forced_let, forced_step, has_step, is_due, is_left_running, let_event, may_let}
use Rattle.conc_base_law.specs.Plans.{precedes}
use Rattle.conc_base_law.specs.Stages.{after_stage, has_ended, next_stage, set_step, step_from}
use Rattle.conc_base_law.specs.State.{facts_at}
use Rattle.conc_base_law.specs.Words.{first_by, is_set}

-- a kind of event that may be forced
abbrev pub is_forced_kind : Event → Bool
is_forced_kind (event.Tick t) = false
is_forced_kind (event.Started r p) = false
is_forced_kind (event.Ended r o x) = false
is_forced_kind event.Resume = false
is_forced_kind _ = true

-- no resume is forced
pub forced_no_resume : (e : Event) → is_forced_kind e ≡ true → is_resume e ≡ false
forced_no_resume event.Resume h = cc
forced_no_resume _ h = refl

-- the test holds of what is there
abbrev Holds : Option Event → Type 0
Holds o = none_or is_forced_kind o ≡ true

-- the first of two holds what both hold
either : (a b : Option Event) → Holds a → Holds b → Holds (option_or a b)
either None b h k = k
either (Some e) b h k = h

-- what a map gives is of such a kind where each of its values is
mapped : {A : Type 0} (f : A → Event) (o : Option A) → ((x : A) → is_forced_kind (f x) ≡ true) → Holds (option_map f o)
mapped f None h = refl
mapped f (Some x) h = h x

-- what a second step gives is of such a kind where each of its answers is
chained : {A : Type 0} (f : A → Option Event) (o : Option A) → ((x : A) → Holds (f x)) → Holds (option_and_then f o)
chained f None h = refl
chained f (Some x) h = h x

-- what a test lets through is of such a kind where what it is given is
tested : (b : Bool) (e : Event) → is_forced_kind e ≡ true → Holds (then_some b e)
tested true e h = h
tested false e h = refl

-- a stage is followed by a stage or by a close
after : (plan : Plan) (s : State) (set : Req) (last : ℕ) (next : Option ℕ) → is_forced_kind (after_stage plan s set last next) ≡ true
after plan s set last None = refl
after plan s set last (Some n) = refl

-- the step of a set is a stage or a close
stepped : (plan : Plan) (s : State) (set : Req) (current : Option ℕ) → Holds (step_from plan s set current)
stepped plan s set None = refl
stepped plan s set (Some stage) = tested (has_ended plan s set stage) _ (after plan s set stage (next_stage plan s set stage))

-- what is let out is a set that opens, or a request
let_kind : (r : Req) (b : Bool) → is_forced_kind (if b then event.OpenSet r.number else event.LetOut r.number) ≡ true
let_kind r true = refl
let_kind r false = refl

-- a forced event is of one of these kinds
pub forced_kind : (plan : Plan) (s : State) → none_or is_forced_kind (forced plan s) ≡ true
unfolding forced forced_interrupt forced_command forced_step forced_let set_step
forced_kind plan s =
    either (forced_interrupt plan s) _ (mapped (λ r. event.Interrupt r.number) (find (is_left_running s) plan.requests) (λ r. refl))
    (either (forced_command plan s) _ (mapped (λ order. event.Command order.0) (find (is_due s) (enumerate_from 1 plan.script.commands)) (λ order. refl))
    (either (forced_step plan s) _ (chained (set_step plan s) (find (has_step plan s) plan.requests) (λ r. stepped plan s r (facts_at s r).stage))
    (mapped let_event (first_by precedes (may_let plan s) plan.requests) (λ r. let_kind r (is_set r.item)))))
