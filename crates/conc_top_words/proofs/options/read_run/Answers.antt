use Rattle.std.proofs.Common.{sym}
use Rattle.std.specs.String.{string_bytes}
use Rattle.conc_top_words.proofs.SaidWords.{run-many}
use Rattle.conc_top_words.proofs.options.read_run.Goals as goal

pub returns-then-words-gt-MOST_WORDS : goal.returns-then-words-gt-MOST_WORDS
returns-then-words-gt-MOST_WORDS c = sym (run-many string_bytes c.args.words.now c.if-words-gt-MOST_WORDS.true)
