use Rattle.std.proofs.Common.{arith}
use Rattle.std.specs.String.{string_bytes}
use Rattle.conc_top_words.proofs.Counts.{output-none}
use Rattle.conc_top_words.proofs.command.read_output.Goals as goal

pub returns-in_default : goal.returns-in_default
returns-in_default c = output-none string_bytes c.args.words.now (λ same. grind arith)
