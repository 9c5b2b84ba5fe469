use Rattle.std.proofs.Common.{sym, ◌∙◌, ap}
use Rattle.std.specs.Bool.{then_some}
use Rattle.conc_types.specs.declared.event.Event.TheVariants as event
use Rattle.conc_machine.specs.StandsFor.{plan_of}
use Rattle.conc_run_choice.proofs.Parts.{may-of, next_tick-is, next_tick-none, reading-of}
use Rattle.conc_run_choice.proofs.choosing.next_tick.Goals as goal

pub returns-in-Some-clause-event : goal.returns-in-Some-clause-event
returns-in-Some-clause-event c = λ readings past known stands.
    let machine = c.args.machine.now in
    let next : _ = sym (reading-of machine readings past _ known (c.next_reading.ensures past stands)) ∙ c.in-Some.is in
    ap (λ may. then_some may (event.Tick c.in-Some.reading.moment)) (sym c.if-may_tick.true)
    ∙ next_tick-is (plan_of machine) _ _ c.in-Some.reading c.may_tick.result next
    (may-of machine readings past _ known (c.may_tick.ensures past stands))

pub returns-in_default-clause-event : goal.returns-in_default-clause-event
returns-in_default-clause-event c = λ readings past known stands.
    let machine = c.args.machine.now in
    let next : _ = sym (reading-of machine readings past _ known (c.next_reading.ensures past stands)) ∙ c.in-Some.is in
    ap (λ may. then_some may (event.Tick c.in-Some.reading.moment)) (sym c.if-may_tick.false)
    ∙ next_tick-is (plan_of machine) _ _ c.in-Some.reading c.may_tick.result next
    (may-of machine readings past _ known (c.may_tick.ensures past stands))

pub returns-in_default-2-clause-event : goal.returns-in_default-2-clause-event
returns-in_default-2-clause-event c = λ readings past known stands.
    next_tick-none (plan_of c.args.machine.now) _ _ (sym (reading-of c.args.machine.now readings past _ known (c.next_reading.ensures past stands)) ∙ c.in_default.is)
