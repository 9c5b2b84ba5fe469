use Rattle.conc_history_check.proofs.Reading.{taken-next}
use Rattle.conc_history_check.proofs.findings.Findings.take_in.Goals as goal

pub take_in-requires-clause-started : goal.take_in-requires-clause-started
take_in-requires-clause-started c = rw (c.note_life.ensures.state, c.note_life.ensures.started) c.requires.started

pub returns-clause-read : goal.returns-clause-read
returns-clause-read c = λ past are.
    taken-next _ c.args.self.now _ _ past (rw c.note_life.ensures.state at c.take_in.ensures.after) c.note_life.ensures.earlier c.note_life.ensures.ticks are

pub returns-clause-after : goal.returns-clause-after
returns-clause-after c = rw c.note_life.ensures.state at c.take_in.ensures.after
