use Rattle.std.proofs.Common.{sym, arith}
use Rattle.conc_show_model.proofs.Ends.{end_found, end_later, end_none}
use Rattle.conc_show_model.proofs.runs.end_of.Goals as goal

pub returns-then-ends_run : goal.returns-then-ends_run
returns-then-ends_run c =
    sym (end_found c.args.request c.args.from c.loop-i.i c.args.events.now _ (omega arith) c.index-events-i.is c.loop-i.invariant (sym c.if-ends_run.ensures))

pub loop-i-preserved : goal.loop-i-preserved
loop-i-preserved c =
    end_later c.args.request c.args.from c.loop-i.i c.args.events.now _ (omega arith) c.index-events-i.is c.loop-i.invariant (sym c.if-ends_run.ensures)

pub returns : goal.returns
returns c = sym (end_none c.args.request c.args.from c.loop-i.i c.args.events.now (omega arith) c.loop-i.invariant)
