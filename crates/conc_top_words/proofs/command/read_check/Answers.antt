use Rattle.std.proofs.Common.{arith}
use Rattle.std.specs.String.{string_bytes}
use Rattle.conc_top_words.proofs.Counts.{check-none}
use Rattle.conc_top_words.proofs.command.read_check.Goals as goal

pub returns-in_default : goal.returns-in_default
returns-in_default c = check-none string_bytes c.args.words.now (λ same. grind arith)
