use Rattle.std.proofs.Common.{false, arith}
use Rattle.conc_machine_starts.specs.Starts.{is_usable_now}
use Rattle.conc_machine_starts.proofs.Ranges.{places-are}
use Rattle.conc_machine_starts.proofs.updates.renew.Goals as goal

pub returns : goal.returns
returns c =
    places-are c.args.plan.now (is_usable_now c.args.plan.now c.args.state.now) false c.loop-index.usable c.loop-index.invariant.same_length
    (λ k low. c.loop-index.invariant.renewed k (omega (arith, c.loop-index.invariant.same_length, c.place_count-index-end.ensures.count)))
