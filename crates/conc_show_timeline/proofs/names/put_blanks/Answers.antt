use Rattle.std.proofs.Common.{ℕ, arith}
use Rattle.std.proofs.lemmas.Grind.{common_steps}
use Rattle.std.proofs.lemmas.List.{take-replicate}
use Rattle.conc_show_timeline.proofs.names.put_blanks.Goals as goal

pub returns : goal.returns
returns c = grind (arith, common_steps, take-replicate {X = ℕ} c.args.count 32 32 c.requires)
