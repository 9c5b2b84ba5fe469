use Rattle.std.proofs.Common.{sym, arith}
use Rattle.conc_show_tables.proofs.Done.{done_found, done_later, done_none}
use Rattle.conc_show_tables.proofs.facts.first_done.Goals as goal

pub returns-then-is_command : goal.returns-then-is_command
returns-then-is_command c =
    sym (done_found c.args.number c.loop-i.i c.args.events.now _ (omega arith) c.index-events-i.is c.loop-i.invariant (sym c.if-is_command.ensures))

pub loop-i-preserved : goal.loop-i-preserved
loop-i-preserved c =
    done_later c.args.number c.loop-i.i c.args.events.now _ (omega arith) c.index-events-i.is c.loop-i.invariant (sym c.if-is_command.ensures)

pub returns : goal.returns
returns c = sym (done_none c.args.number c.loop-i.i c.args.events.now (omega arith) c.loop-i.invariant)
