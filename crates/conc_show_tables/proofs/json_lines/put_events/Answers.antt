use Rattle.std.proofs.Common.{arith}
use Rattle.conc_show_tables.proofs.Joined.{events_all, events_more}
use Rattle.conc_show_tables.proofs.json_lines.put_events.Goals as goal

pub loop-i-preserved : goal.loop-i-preserved
loop-i-preserved c =
    events_more c.args.out.now.items c.loop-i.out.items c.put_event.new.out.items c.args.events.now c.loop-i.i _ (omega arith) c.index-events-i.is c.loop-i.invariant c.in_ok-put_event.ensures

pub returns : goal.returns
returns c = events_all c.args.out.now.items c.loop-i.out.items c.args.events.now c.loop-i.i (omega arith) c.loop-i.invariant
