use Rattle.std.proofs.Common.{◌≡◌, Some, sym, ◌∙◌, ap, subst}
use Rattle.std.specs.Prelude.{IfOk, IsSomeAnd, OnErr}
use Rattle.std.specs.List.{find}
use Rattle.std.specs.Option.{ForSome, option_map}
use Rattle.conc_types.specs.declared.plan.Plan.{Plan}
use Rattle.conc_types.specs.Plans.{request}
use Rattle.conc_types.specs.Words.{some_and}
use Rattle.conc_base_law.specs.Alone.{first_end}
use Rattle.conc_base_law.specs.Next.{runs_somewhere}
use Rattle.conc_base_law.specs.State.{facts_at, is_stopping, state}
use Rattle.conc_base_law.proofs.FirstBy.{find-some}
use Rattle.conc_base_law.proofs.Numbering.{numbered_plan}
use Rattle.conc_machine.specs.StandsFor.{plan_of, StandsFor}
use Rattle.conc_run_choice.specs.Choices.{event_of, HasItsText, IsEndWithReport}
use Rattle.conc_run_choice.proofs.Parts.{first_end-is, first_end-none, for_each, on_err-each}
use Rattle.conc_run_choice.proofs.choosing.first_end.Goals as goal

pub returns-in-Some-clause-event : goal.returns-in-Some-clause-event
returns-in-Some-clause-event c =
    let plan = plan_of c.args.machine.now in
    let machine = c.args.machine.now in
    let r = c.in-Some.r.now in
    for_each (StandsFor machine) (λ past next. option_map event_of next ≡ first_end plan (state plan past)) c.end_by.result (λ past stands.
    let runs = runs_somewhere (state plan past) in
    let found : find runs plan.requests ≡ Some r = sym (c.in-Some.ensures past stands) in
    let stop : c.must_stop-stopping.result ≡ is_stopping (facts_at (state plan past) r) =
    c.must_stop-stopping.ensures past stands
    ∙ ap (some_and (λ q. is_stopping (facts_at (state plan past) q))) (numbered_plan plan r (find-some runs plan.requests r found).1) in
    subst (λ z. IfOk c.end_by.result (λ next. option_map event_of next ≡ z))
    (first_end-is c.plan-plan.result.now plan (state plan past) r c.must_stop-stopping.result c.used.result c.plan-plan.ensures found stop (c.used.ensures past stands)) c.end_by.ensures.event)

pub returns-in-Some-clause-text : goal.returns-in-Some-clause-text
returns-in-Some-clause-text c =
    let plan = plan_of c.args.machine.now in
    let r = c.in-Some.r.now in
    for_each (StandsFor c.args.machine.now) (λ past next. ForSome next (λ n. HasItsText plan n.event n.text)) c.end_by.result (λ past stands.
    let runs = runs_somewhere (state plan past) in
    let found : find runs plan.requests ≡ Some r = sym (c.in-Some.ensures past stands) in
    subst (λ (p : Plan). request p r.number ≡ Some r → IfOk c.end_by.result (λ next. ForSome next (λ n. HasItsText p n.event n.text))) c.plan-plan.ensures c.end_by.ensures.text
    (numbered_plan plan r (find-some runs plan.requests r found).1))

pub returns-in-None-clause-event : goal.returns-in-None-clause-event
returns-in-None-clause-event c = λ past stands. first_end-none (plan_of c.args.machine.now) _ (sym (c.in-None.ensures past stands))

pub returns-in-Some-clause-memory : goal.returns-in-Some-clause-memory
returns-in-Some-clause-memory c =
    let plan = plan_of c.args.machine.now in
    let machine = c.args.machine.now in
    let r = c.in-Some.r.now in
    on_err-each (StandsFor machine) (λ past. IsSomeAnd (first_end plan (state plan past)) IsEndWithReport) c.end_by.result (λ past stands.
    let runs = runs_somewhere (state plan past) in
    let found : find runs plan.requests ≡ Some r = sym (c.in-Some.ensures past stands) in
    let stop : c.must_stop-stopping.result ≡ is_stopping (facts_at (state plan past) r) =
    c.must_stop-stopping.ensures past stands
    ∙ ap (some_and (λ q. is_stopping (facts_at (state plan past) q))) (numbered_plan plan r (find-some runs plan.requests r found).1) in
    subst (λ z. OnErr c.end_by.result (IsSomeAnd z IsEndWithReport))
    (first_end-is c.plan-plan.result.now plan (state plan past) r c.must_stop-stopping.result c.used.result c.plan-plan.ensures found stop (c.used.ensures past stands)) c.end_by.ensures.memory)
