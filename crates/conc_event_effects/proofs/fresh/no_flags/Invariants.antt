use Rattle.std.proofs.Common.{◌≡◌, take, map, false}
use Rattle.conc_types.specs.declared.script.Order.{Order}
use Rattle.conc_event_effects.proofs.fresh.no_flags.Given as goal

abbrev pub invariant-loop-order : goal.invariant-loop-order
invariant-loop-order l = l.flags.items
    ≡ map (λ (order : Order). false) (take l.order-index l.orders)
