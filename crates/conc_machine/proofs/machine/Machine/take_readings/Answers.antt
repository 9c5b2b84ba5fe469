use Rattle.std.proofs.Common.{ap, Some}
use Rattle.conc_machine.specs.StandsFor.{readings_of}
use Rattle.conc_machine.proofs.States.{begun-life, time-of}
use Rattle.conc_machine.proofs.machine.Machine.take_readings.Goals as goal

pub returns-clause-readings : goal.returns-clause-readings
unfolding readings_of
returns-clause-readings c = ap (λ readings. Some readings.list) c.in_ok-life.ensures.readings

pub returns-clause-stands : goal.returns-clause-stands
returns-clause-stands c = λ past none stands. record {
  state = stands.state;
  life = λ life is. begun-life past c.in_ok-life.life life (c.in_ok-life.ensures.begins past (time-of c.args.self.now past stands) none) is;
}
