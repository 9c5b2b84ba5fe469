use Rattle.conc_show_model.specs.Rows.{first_word}
use Rattle.conc_show_model.proofs.FirstWord.{word_none, word_some}
use Rattle.conc_show_model.proofs.rows.first_word.Goals as goal

pub returns-in-Some : goal.returns-in-Some
unfolding first_word
returns-in-Some c = word_some _ c.args.line.now _ c.in-Some.ensures

pub returns-in-None : goal.returns-in-None
unfolding first_word
returns-in-None c = word_none _ c.args.line.now c.in-None.ensures
