use Rattle.std.proofs.Common.{sym, ap, subst}
use Rattle.std.specs.Slots.{slots_items}
use Rattle.conc_board.specs.Ends.{Ends}
use Rattle.conc_board.proofs.Ended.{ends}
use Rattle.conc_board.proofs.board.Board.close.Goals as goal

pub returns : goal.returns
returns c = subst (Ends c.args.self c.args.lead) (sym (ap slots_items c.loop-i.invariant.words)) (ends c.args.self c.args.lead _ _ c.requires.all c.close_with-closed.ensures.values.2)
