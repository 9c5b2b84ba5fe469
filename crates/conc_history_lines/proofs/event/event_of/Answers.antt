use Rattle.conc_history_lines.proofs.Dots.{many_words}
use Rattle.conc_history_lines.proofs.event.event_of.Goals as goal

pub returns-in-Some-rest-3 : goal.returns-in-Some-rest-3
returns-in-Some-rest-3 c =
    many_words c.args.starts.now c.args.line.now
    c.in-Some.rest.now c.in-Some-rest.rest.now c.in-Some-rest-2.rest.now c.in_ok-rest.field-0.now c.in-Some-rest-3.field-0.now
    c.split_word.result.0.now c.split_word-2.result.0.now c.split_word-3.result.0.now c.split_word-4.result.0.now c.split_word-5.result.0.now
    (rw c.in-Some.is at c.split_word.ensures) (rw c.in-Some-rest.is at c.split_word-2.ensures) (rw c.in-Some-rest-2.is at c.split_word-3.ensures)
    (rw c.in_ok-rest.was at c.split_word-4.ensures) (rw c.in-Some-rest-3.is at c.split_word-5.ensures)
