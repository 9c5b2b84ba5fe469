use Rattle.std.proofs.Common.{sym, ◌∙◌}
use Rattle.conc_history_check.proofs.FreeOnes.{free-blocked, numbered-there}
use Rattle.conc_history_check.proofs.free.blocks_by_number.Goals as goal

pub returns-in-Some : goal.returns-in-Some
returns-in-Some c = λ t.
    free-blocked _ _ c.args.r.now c.in-Some.q.now (numbered-there _ c.args.number c.in-Some.q.now (sym c.in-Some.ensures)) (sym c.blocks-in-Some.ensures ∙ t)
