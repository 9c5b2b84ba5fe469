use Rattle.std.proofs.Common.{arith, drop}
use Rattle.std.proofs.lemmas.List.{length-drop, take_all}
use Rattle.conc_journal_image.proofs.found.behind_record.Goals as goal

pub returns : goal.returns
returns c = take_all _ (drop 32 c.args.bytes.now) (omega (arith, length-drop 32 c.args.bytes.now))
