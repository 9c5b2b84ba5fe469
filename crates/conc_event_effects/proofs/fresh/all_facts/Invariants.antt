use Rattle.std.proofs.Common.{◌≡◌, take, map}
use Rattle.conc_types.specs.declared.plan.Req.{Req}
use Rattle.conc_base_law.specs.State.{no_facts}
use Rattle.conc_event_effects.proofs.fresh.all_facts.Given as goal

abbrev pub invariant-loop-r : goal.invariant-loop-r
invariant-loop-r l = l.all.items ≡ map (λ (r : Req). no_facts) (take l.r-index l.requests)
