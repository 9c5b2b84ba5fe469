use Rattle.std.proofs.Common.{sym, ◌∙◌, ap}
use Rattle.std.specs.Option.{option_and_then, option_map}
use Rattle.conc_base_law.specs.Readings.{next_reading}
use Rattle.conc_machine.specs.declared.life.LifeReadings.{LifeReadings}
use Rattle.conc_machine.specs.StandsFor.{readings_of}
use Rattle.conc_machine.proofs.machine.Machine.next_reading.Goals as goal

pub returns-in-Some : goal.returns-in-Some
unfolding readings_of
returns-in-Some c = λ past stands.
    c.next_reading.ensures past (stands.life _ c.in-Some.is)
    ∙ sym (ap (λ o. option_and_then (λ readings. next_reading readings past) (option_map (λ (life : LifeReadings). life.readings.list) o)) c.in-Some.is)

pub returns-in-None : goal.returns-in-None
unfolding readings_of
returns-in-None c = λ past stands.
    sym (ap (λ o. option_and_then (λ readings. next_reading readings past) (option_map (λ (life : LifeReadings). life.readings.list) o)) c.in-None.is)
