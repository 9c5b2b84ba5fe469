use Rattle.std.proofs.Common.{◌≡◌, take}
use Rattle.conc_machine_release.proofs.Choice.{turn_among}
use Rattle.conc_machine_release.proofs.lets.Lets.least_turn.Given as goal

abbrev pub invariant-loop-class : goal.invariant-loop-class
invariant-loop-class l = l.best ≡ turn_among l.position.plan.now l.position.classes.now l.position.state.now (take l.class-index l.self.kin)
