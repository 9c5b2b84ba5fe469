use Rattle.std.proofs.Common.{◌≡◌, rules, sym}
use Rattle.conc_machine.proofs.Lives.{life_begins}
use Rattle.conc_machine.proofs.life.LifeReadings.new.Goals as goal

pub returns-clause-begins : goal.returns-clause-begins
returns-clause-begins c = λ past same none.
    let copied : c.from_vec-list.result ≡ c.args.readings.now.list = search rules in
    let few = rw (sym copied) at c.count_earlier.ensures.few in
    let rest = rw (sym copied) at c.count_earlier.ensures.rest in
    life_begins _ past c.args.time same none few rest
