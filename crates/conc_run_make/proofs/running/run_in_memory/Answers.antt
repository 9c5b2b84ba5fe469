use Rattle.std.proofs.Common.{◌∙◌, ◌<◌, [], List, None, Some, ap, reverse, subst, sym}
use Rattle.std.specs.Option.{option_map}
use Rattle.conc_types.specs.declared.event.Event.{Event}
use Rattle.conc_run_choice.specs.Choices.{event_of}
use Rattle.conc_run_make.proofs.Underway.{begins, comes, ends, goes-on, IsUnderway, left_in, less, no-life}
use Rattle.conc_run_make.proofs.running.run_in_memory.Goals as goal

pub loop-history-init : goal.loop-history-init
loop-history-init c =
    let plan = c.args.generated.now.plan in
    let readings = c.args.generated.now.readings in
    subst (IsUnderway plan readings c.take_readings.new.self) (sym c.new-history.ensures.items)
    (begins plan readings c.take_readings.new.self (c.take_readings.ensures.plan ∙ c.in_ok-machine.ensures.plan) c.in_ok-take_readings.ensures.readings
    (c.in_ok-take_readings.ensures.stands [] no-life c.in_ok-machine.ensures.stands))

pub loop-history-preserved-in_ok-push : goal.loop-history-preserved-in_ok-push
loop-history-preserved-in_ok-push c =
    let plan = c.args.generated.now.plan in
    let readings = c.args.generated.now.readings in
    let under = c.loop-history.invariant in
    let list = c.loop-history.history.items in
    let e = c.in-Some.next.event in
    let next = comes plan readings c.loop-history.machine list under (Some e)
    (sym (ap (option_map event_of) c.in-Some.is) ∙ c.in_ok-next.ensures.event readings.list (reverse list) under.readings_are under.stands) in
    subst (IsUnderway plan readings c.apply.new.self) (sym c.in_ok-push.ensures.items)
    (goes-on plan readings c.loop-history.machine list under e next c.apply.new.self c.apply.ensures.plan c.apply.ensures.readings (c.apply.ensures.stands (reverse list) under.stands))

pub loop-history-smaller-in_ok-push : goal.loop-history-smaller-in_ok-push
loop-history-smaller-in_ok-push c =
    let plan = c.args.generated.now.plan in
    let readings = c.args.generated.now.readings in
    let under = c.loop-history.invariant in
    let list = c.loop-history.history.items in
    let e = c.in-Some.next.event in
    let next = comes plan readings c.loop-history.machine list under (Some e)
    (sym (ap (option_map event_of) c.in-Some.is) ∙ c.in_ok-next.ensures.event readings.list (reverse list) under.readings_are under.stands) in
    subst (λ (l : List Event). left_in plan readings l < left_in plan readings list) (sym c.in_ok-push.ensures.items)
    (less plan readings c.loop-history.machine list under e next)

pub loop-history-preserved : goal.loop-history-preserved
loop-history-preserved c =
    let plan = c.args.generated.now.plan in
    let readings = c.args.generated.now.readings in
    let under = c.loop-history.invariant in
    let list = c.loop-history.history.items in
    let e = c.in-Some.next.event in
    let next = comes plan readings c.loop-history.machine list under (Some e)
    (sym (ap (option_map event_of) c.in-Some.is) ∙ c.in_ok-next.ensures.event readings.list (reverse list) under.readings_are under.stands) in
    subst (IsUnderway plan readings c.apply.new.self) (sym c.in_ok-push.ensures.items)
    (goes-on plan readings c.loop-history.machine list under e next c.apply.new.self c.apply.ensures.plan c.apply.ensures.readings (c.apply.ensures.stands (reverse list) under.stands))

pub loop-history-smaller : goal.loop-history-smaller
loop-history-smaller c =
    let plan = c.args.generated.now.plan in
    let readings = c.args.generated.now.readings in
    let under = c.loop-history.invariant in
    let list = c.loop-history.history.items in
    let e = c.in-Some.next.event in
    let next = comes plan readings c.loop-history.machine list under (Some e)
    (sym (ap (option_map event_of) c.in-Some.is) ∙ c.in_ok-next.ensures.event readings.list (reverse list) under.readings_are under.stands) in
    subst (λ (l : List Event). left_in plan readings l < left_in plan readings list) (sym c.in_ok-push.ensures.items)
    (less plan readings c.loop-history.machine list under e next)

pub returns : goal.returns
returns c =
    let plan = c.args.generated.now.plan in
    let readings = c.args.generated.now.readings in
    let under = c.loop-history.invariant in
    let list = c.loop-history.history.items in
    ends plan readings c.loop-history.machine list under
    (comes plan readings c.loop-history.machine list under None
    (sym (ap (option_map event_of) c.in_default.is) ∙ c.in_ok-next.ensures.event readings.list (reverse list) under.readings_are under.stands))
