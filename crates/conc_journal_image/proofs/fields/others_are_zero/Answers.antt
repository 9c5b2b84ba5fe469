use Rattle.std.proofs.Common.{◌≡◌, drop, take, arith}
use Rattle.std.proofs.lemmas.Grind.{common_steps}
use Rattle.std.proofs.lemmas.List.{length-drop, take_all}
use Rattle.conc_journal_image.proofs.fields.others_are_zero.Goals as goal

pub returns-then-are_zero : goal.returns-then-are_zero
returns-then-are_zero c =
    let rest : take 8 (drop 23 c.args.bytes.now) ≡ drop 23 c.args.bytes.now = take_all 8 (drop 23 c.args.bytes.now) (omega (arith, length-drop 23 c.args.bytes.now)) in
    grind (arith, common_steps, rest)
