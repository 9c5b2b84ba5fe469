use Rattle.std.proofs.Common.{◌∙◌, ◌-◌, arith, drop, length}
use Rattle.std.proofs.lemmas.List.{take-take}
use Rattle.conc_journal_image.proofs.header.base_in.Goals as goal

pub returns : goal.returns
returns c = c.in-Some.ensures.cases.0 ∙ take-take 15 (length c.args.image.now - 48) (drop 48 c.args.image.now) (omega arith)
