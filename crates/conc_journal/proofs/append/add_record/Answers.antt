use Rattle.std.proofs.Common.{◌+◌, [], ◌∷◌, length, arith}
use Rattle.conc_disk.specs.Left.{HasWritten}
use Rattle.conc_journal.proofs.Steps.{on-ok, reaches-gate}
use Rattle.conc_journal.proofs.Written.{follows-once, has-both, there-more, there-once}
use Rattle.conc_journal.proofs.append.add_record.Goals as goal

pub write_durable-requires-2 : goal.write_durable-requires-2
write_durable-requires-2 g c =
    reaches-gate c.args.at c.args.spelled.now (g.D.Disk.state c.args.disk.now) (g.D.Disk.state c.write_durable.new.disk) (g.met.D.Disk.seen_is_left c.write_durable.new.disk) (c.in_ok-write_durable.ensures.durable)

pub returns-in_err-write_durable-clause-writes_there : goal.returns-in_err-write_durable-clause-writes_there
returns-in_err-write_durable-clause-writes_there g c =
    there-once c.args.at 33 (g.D.Disk.state c.args.disk.now) (c.args.at + 1) (length c.args.spelled.now) (g.D.Disk.state c.write_durable.new.disk) (omega arith) (omega arith) c.write_durable.ensures.survives

pub returns-clause-writes_there : goal.returns-clause-writes_there
returns-clause-writes_there g c =
    let old = g.D.Disk.state c.args.disk.now in
    let mid = g.D.Disk.state c.write_durable.new.disk in
    let n = length c.args.spelled.now in
    there-more c.args.at 33 old c.args.at 1 mid (g.D.Disk.state c.write_durable-2.new.disk) (omega arith) (omega arith)
    (there-once c.args.at 33 old (c.args.at + 1) n mid (omega arith) (omega arith) c.write_durable.ensures.survives)
    (follows-once c.args.at 33 old (c.args.at + 1) n mid (omega arith) (omega arith) c.write_durable.ensures.images)
    c.write_durable-2.ensures.survives

pub returns-clause-written : goal.returns-clause-written
returns-clause-written g c =
    let old = g.D.Disk.state c.args.disk.now in
    let mid = g.D.Disk.state c.write_durable.new.disk in
    let new = g.D.Disk.state c.write_durable-2.new.disk in
    on-ok c.write_durable-2.result (HasWritten c.args.at (1 ∷ []) mid new) (HasWritten c.args.at (1 ∷ c.args.spelled.now) old new) c.write_durable-2.ensures.written (λ done.
    has-both c.args.at 1 c.args.spelled.now old mid new c.requires.behind c.in_ok-write_durable.ensures.written done)
