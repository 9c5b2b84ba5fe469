use Rattle.std.proofs.Common.{rules}
use Rattle.conc_machine.proofs.Lives.{life_resumed}
use Rattle.conc_machine.proofs.life.LifeReadings.take_in.Goals as goal

pub returns-in-Resume-clause-life : goal.returns-in-Resume-clause-life
returns-in-Resume-clause-life c = λ past same is.
    rw c.in-Resume.is (life_resumed _ past c.args.time same (search rules) (search rules))
