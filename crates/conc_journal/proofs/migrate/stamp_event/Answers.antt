use Rattle.std.proofs.Common.{arith, get_or, refl}
use Rattle.conc_journal.proofs.Stamping.{on-err, stamping-passed, stamping-stays, stamping-written}
use Rattle.conc_journal.specs.Migrating.{StaysOfOne}
use Rattle.conc_journal.proofs.migrate.stamp_event.Goals as goal

pub returns-in_err-write_stamp-in-Command-clause-stays : goal.returns-in_err-write_stamp-in-Command-clause-stays
returns-in_err-write_stamp-in-Command-clause-stays g c = λ before so_far.
    let old = g.D.Disk.state before in
    let mid = g.D.Disk.state c.args.disk.now in
    let new = g.D.Disk.state c.write_stamp.new.disk in
    on-err c.from_residual.result (StaysOfOne c.args.events.now old new)
    (stamping-stays
    c.args.events.now c.args.stamps.now c.args.index c.args.number c.in-Command.number old mid new _ c.requires.index c.in-Command.is so_far
    c.write_stamp.ensures.later c.write_stamp.ensures.exposes c.write_stamp.ensures.images)

pub returns-in_ok-write_stamp-in-Command-clause-stamped : goal.returns-in_ok-write_stamp-in-Command-clause-stamped
returns-in_ok-write_stamp-in-Command-clause-stamped g c = λ before so_far.
    let old = g.D.Disk.state before in
    let mid = g.D.Disk.state c.args.disk.now in
    let new = g.D.Disk.state c.write_stamp.new.disk in
    stamping-written
    c.args.events.now c.args.stamps.now c.args.index c.args.number c.in-Command.number old mid new _ c.requires.index c.in-Command.is so_far
    c.write_stamp.ensures.later c.write_stamp.ensures.exposes c.write_stamp.ensures.images
    (get_or c.args.stamps.now c.args.number 0) (omega (arith, c.type_inv.stamps c.args.number)) c.requires.counted refl
    c.in_ok-write_stamp-in-Command.ensures.written

pub returns-in_default : goal.returns-in_default
returns-in_default g c = record {
  stamped = λ before so_far.
      stamping-passed
      c.args.events.now c.args.stamps.now c.args.index c.args.number _ (g.D.Disk.state before) (g.D.Disk.state c.args.disk.now) c.requires.index
      c.in_default.not-Command so_far;
  stays = λ before so_far. tt;
  failed = tt;
}
