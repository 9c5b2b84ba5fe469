use Rattle.std.proofs.Common.{◌∙◌}
use Rattle.conc_machine.proofs.Lives.{life_next, copied_at}
use Rattle.conc_machine.proofs.life.LifeReadings.next_reading.Goals as goal

pub returns : goal.returns
returns c = λ past is.
    c.copied.ensures
    ∙ copied_at c.args.self.now.readings.list c.args.self.now.next c.get.result (rw c.as_slice.ensures at c.get.ensures.lookup)
    ∙ life_next c.args.self.now past is
