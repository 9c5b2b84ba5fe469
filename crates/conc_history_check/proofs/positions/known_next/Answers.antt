use Rattle.std.proofs.Common.{◌+◌, Some, sym, ◌∙◌, ap, arith}
use Rattle.std.specs.Option.{option_map}
use Rattle.conc_base_law.specs.Readings.{next_reading}
use Rattle.conc_history_check.proofs.LastLives.{known-all, known-not}
use Rattle.conc_history_check.proofs.positions.known_next.Goals as goal

pub returns-then-i-life : goal.returns-then-i-life
returns-then-i-life c = λ past taken.
    sym (ap (option_map (λ known. next_reading known past)) (known-not c.args.life.readings.now.list c.args._events.now c.args.life.before (c.args.i + 1) c.requires.life (omega (arith, c.if-i-life.true))))

pub returns : goal.returns
returns c = λ past taken.
    ap Some (c.next_reading.ensures past taken)
    ∙ sym (ap (option_map (λ known. next_reading known past)) (known-all c.args.life.readings.now.list c.args._events.now c.args.life.before (c.args.i + 1) c.requires.life (omega (arith, c.if-i-life.false))))
