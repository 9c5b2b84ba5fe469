use Rattle.std.proofs.Common.{arith}
use Rattle.std.specs.String.{string_bytes}
use Rattle.conc_top_words.proofs.Counts.{make-none}
use Rattle.conc_top_words.proofs.command.read_make.Goals as goal

pub returns-in_default : goal.returns-in_default
returns-in_default c = make-none string_bytes c.args.words.now (λ same. grind arith)
