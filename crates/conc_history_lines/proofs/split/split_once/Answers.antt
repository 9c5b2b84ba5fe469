use Rattle.std.proofs.Common.{sym}
use Rattle.conc_history_lines.proofs.Splits.{first_at, lacks_at, parts_at}
use Rattle.conc_history_lines.proofs.split.split_once.Goals as goal

pub returns-in_err-place-clause-lacks : goal.returns-in_err-place-clause-lacks
returns-in_err-place-clause-lacks c = rw c.from_residual.ensures (lacks_at c.args.byte c.args.bytes.now (sym c.in_err-place.ensures))

pub returns-clause-parts : goal.returns-clause-parts
returns-clause-parts c =
    parts_at c.args.byte c.args.bytes.now _ _ c.in_ok-place.place (sym c.in_ok-place.ensures) c.split_at.ensures.front c.split_at.ensures.back

pub returns-clause-first : goal.returns-clause-first
returns-clause-first c = first_at c.args.byte c.args.bytes.now _ c.in_ok-place.place (sym c.in_ok-place.ensures) c.split_at.ensures.front
