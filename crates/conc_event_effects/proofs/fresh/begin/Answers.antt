use Rattle.std.proofs.Common.{◌∙◌, ap, map, false}
use Rattle.conc_types.specs.declared.plan.Req.{Req}
use Rattle.conc_types.specs.declared.script.Order.{Order}
use Rattle.conc_base_law.specs.State.{no_facts}
use Rattle.conc_event_effects.proofs.NoEvents.{state-none}
use Rattle.conc_event_effects.proofs.fresh.begin.Goals as goal

pub returns : goal.returns
returns c =
    state-none c.args.plan.now _ _
    (c.in_ok-done.ensures ∙ ap (map (λ (order : Order). false)) c.as_slice-2.ensures)
    (c.in_ok-facts.ensures ∙ ap (map (λ (r : Req). no_facts)) c.as_slice.ensures)
