use Rattle.conc_event_effects.proofs.NextState.{state-next}
use Rattle.conc_machine.specs.StandsFor.{readings_of}
use Rattle.conc_machine.proofs.States.{time-of}
use Rattle.conc_machine.proofs.machine.Machine.apply.Goals as goal

pub returns-clause-readings : goal.returns-clause-readings
unfolding readings_of
returns-clause-readings c = c.live_on.ensures.readings

pub returns-clause-stands : goal.returns-clause-stands
returns-clause-stands c = λ past stands. record {
  state = state-next _ _ _ _ past c.take_in.ensures.after stands.state;
  life = c.live_on.ensures.lives past (time-of c.args.self.now past stands) stands.life;
}
