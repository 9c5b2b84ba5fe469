-- The parts of the choice.
use Rattle.std.proofs.Common.{◌≡◌, ℕ, Bool, true, List, Option, None, Some, Result, Ok, Err, if◌then◌else◌, refl, sym, ◌∙◌, ap, subst}
use Rattle.std.specs.Prelude.{IfOk, OnErr}
use Rattle.std.specs.Bool.{then_some}
use Rattle.std.specs.List.{find}
use Rattle.std.specs.Option.{option_and_then, option_map}
use Rattle.conc_types.specs.declared.event.Event.{Event}
use Rattle.conc_types.specs.declared.event.Event.TheVariants as event
use Rattle.conc_types.specs.declared.event.Outcome.TheVariants as outcome
use Rattle.conc_types.specs.declared.facts.State.{State}
use Rattle.conc_types.specs.declared.plan.Plan.{Plan}
use Rattle.conc_types.specs.declared.plan.Req.{Req}
use Rattle.conc_types.specs.declared.script.Reading.{Reading}
use Rattle.conc_types.specs.Plans.{request}
use Rattle.conc_types.specs.Words.{none_or, some_and}
use Rattle.conc_base_law.specs.Alone.{end_with, first_end, next_tick, report_of}
use Rattle.conc_base_law.specs.Next.{forced, may_take, runs_somewhere}
use Rattle.conc_base_law.specs.Readings.{next_reading}
use Rattle.conc_base_law.specs.Report.{Report}
use Rattle.conc_base_law.specs.State.{facts_at, is_stopping, state}
use Rattle.conc_base_law.specs.Words.{Has}
use Rattle.conc_base_law.proofs.ForcedKinds.{forced_kind, is_forced_kind}
use Rattle.conc_base_law.proofs.Numbering.{numbered_plan}
use Rattle.conc_machine.specs.StandsFor.{plan_of, readings_of}
use Rattle.conc_machine.specs.declared.machine.Machine.{Machine}
use Rattle.conc_reports.specs.declared.making.Made.{Made}
use Rattle.conc_run_choice.specs.Choices.{HasItsText}
use Rattle.conc_reports.specs.Reports.{as_report}
use Rattle.conc_run_choice.specs.declared.choosing.Next.{Next}

-- what an answer meets for each of some values it meets for all of them
pub for_each : {T E X : Type 0} (Q : X → Type 0) (P : X → T → Type 0) (r : Result T E) → ((x : X) → Q x → IfOk r (P x)) → IfOk r (λ t. (x : X) → Q x → P x t)
for_each Q P (Ok t) each = each
for_each Q P (Err e) each = tt

-- so it is with what lacks
pub on_err-each : {T E X : Type 0} (Q : X → Type 0) (P : X → Type 0) (r : Result T E) → ((x : X) → Q x → OnErr r (P x)) → OnErr r ((x : X) → Q x → P x)
on_err-each Q P (Ok t) each = tt
on_err-each Q P (Err e) each = each

-- ---- texts

-- the end with a report has the report's text
stored_end : (plan : Plan) (r : Req) (made : Report) (offset : ℕ) → request plan r.number ≡ Some r → report_of plan r ≡ Some made
    → HasItsText plan (end_with r made offset) (Some made.text)
stored_end plan r made offset found report =
    (record { ended = r; found = found; made = made; report = report; same_outcome = refl; same_length = refl }, refl)

-- so has what comes next, where it is that end
pub stored_next : (plan : Plan) (r : Req) (made : Made) (offset : ℕ) (next : Next) (o : Option Made) → request plan r.number ≡ Some r
    → option_map as_report o ≡ report_of plan r → o ≡ Some made → next.event ≡ end_with r (as_report made) offset → next.text ≡ Some made.text
    → HasItsText plan next.event next.text
stored_next plan r made offset next o found report is event text =
    let stored : HasItsText plan (end_with r (as_report made) offset) (Some made.text) =
    stored_end plan r (as_report made) offset found (sym report ∙ ap (option_map as_report) is) in
    subst (λ e. HasItsText plan e next.text) (sym event) (subst (HasItsText plan (end_with r (as_report made) offset)) (sym text) stored)

-- an event of a kind that is forced has none
forced_kind-no_text : (plan : Plan) (e : Event) → is_forced_kind e ≡ true → HasItsText plan e None
forced_kind-no_text plan (event.Ended id o x) kind = cc
forced_kind-no_text plan e kind = refl

-- so a forced event has none
pub forced-no_text : (plan : Plan) (s : State) (e : Event) → forced plan s ≡ Some e → HasItsText plan e None
forced-no_text plan s e is = forced_kind-no_text plan e (ap (none_or is_forced_kind) (sym is) ∙ forced_kind plan s)

-- ---- the request that runs, and its end

-- the request of the plan that a search finds is found by its number
pub found-again : (plan : Plan) (o : Option Req) → ((r : Req) → o ≡ Some r → Has plan.requests r)
    → option_and_then (request plan) (option_map (λ r. r.number) o) ≡ o
found-again plan None has = refl
found-again plan (Some r) has = numbered_plan plan r (has r refl)

-- the end of the request that runs, by the plan that was lent
pub first_end-is : (lent plan : Plan) (s : State) (r : Req) (stopping : Bool) (used : Option ℕ) → lent ≡ plan → find (runs_somewhere s) plan.requests ≡ Some r
    → stopping ≡ is_stopping (facts_at s r) → used ≡ s.used
    → (if stopping then Some (event.Ended r.number outcome.Terminated None) else option_and_then (λ made. option_map (end_with r made) used) (report_of lent r))
    ≡ first_end plan s
unfolding first_end
first_end-is lent plan s r stopping used same found stop all = rw (same, stop, all, found) refl

-- none where none runs
pub first_end-none : (plan : Plan) (s : State) → find (runs_somewhere s) plan.requests ≡ None → None ≡ first_end plan s
unfolding first_end
first_end-none plan s found = rw found refl

-- ---- the tick of the next reading

-- the tick of the reading that may be taken
pub next_tick-is : (plan : Plan) (s : State) (next : Option Reading) (q : Reading) (may : Bool) → next ≡ Some q → may ≡ some_and (may_take plan s) next
    → then_some may (event.Tick q.moment) ≡ next_tick plan s next
unfolding next_tick
next_tick-is plan s next q may is so = rw (so, is) refl

-- none where no reading is left
pub next_tick-none : (plan : Plan) (s : State) (next : Option Reading) → next ≡ None → None ≡ next_tick plan s next
unfolding next_tick
next_tick-none plan s next is = rw is refl

-- the next reading
pub reading-of : (machine : Machine) (readings : List Reading) (past : List Event) (o : Option Reading) → readings_of machine ≡ Some readings
    → o ≡ option_and_then (λ known. next_reading known past) (readings_of machine) → o ≡ next_reading readings past
reading-of machine readings past o known is = is ∙ ap (option_and_then (λ k. next_reading k past)) known

-- whether it may be taken
pub may-of : (machine : Machine) (readings : List Reading) (past : List Event) (may : Bool) → readings_of machine ≡ Some readings
    → may ≡ some_and (may_take (plan_of machine) (state (plan_of machine) past)) (option_and_then (λ known. next_reading known past) (readings_of machine))
    → may ≡ some_and (may_take (plan_of machine) (state (plan_of machine) past)) (next_reading readings past)
may-of machine readings past may known is =
    is ∙ ap (λ k. some_and (may_take (plan_of machine) (state (plan_of machine) past)) (option_and_then (λ l. next_reading l past) k)) known
