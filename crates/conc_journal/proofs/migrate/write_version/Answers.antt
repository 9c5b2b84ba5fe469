use Rattle.std.proofs.Common.{◌+◌, ◌*◌, [], ◌∷◌, length, arith}
use Rattle.conc_disk.specs.Left.{EachImage, HasWritten}
use Rattle.conc_journal.specs.Left.{LeavesWritten}
use Rattle.conc_journal.specs.Migrating.{HasMigrated, IsOfTwo}
use Rattle.conc_journal.proofs.Stamping.{bytes-written}
use Rattle.conc_journal.proofs.Steps.{on-ok, written-seen}
use Rattle.conc_journal.proofs.Versions.{all-turned, based-images, based-left, reaches-less, reaches-written, turned-images, turned-left}
use Rattle.conc_journal.proofs.migrate.write_version.Goals as goal

-- the base digest met a fault

pub returns-in_err-write_durable-clause-images : goal.returns-in_err-write_durable-clause-images
returns-in_err-write_durable-clause-images g c = λ label one each.
    let d = c.write_durable.ensures in
    based-images
    label c.args.base.now c.args.stamps.now c.args.events.now one
    (g.D.Disk.state c.args.disk.now) (g.D.Disk.state c.write_stamps.new.disk) c.told-base c.write_stamps.ensures.stays each
    (g.D.Disk.state c.write_durable.new.disk) d.survives.exposes d.images d.survives

pub returns-in_err-write_durable-clause-survives : goal.returns-in_err-write_durable-clause-survives
returns-in_err-write_durable-clause-survives g c = λ label one each.
    let d = c.write_durable.ensures in
    based-left
    label c.args.base.now c.args.stamps.now c.args.events.now one
    (g.D.Disk.state c.args.disk.now) (g.D.Disk.state c.write_stamps.new.disk) c.told-base c.write_stamps.ensures.stays each
    (g.D.Disk.state c.write_durable.new.disk) d.survives.exposes d.images d.survives

-- the base digest stands

pub write_durable-requires-2 : goal.write_durable-requires-2
write_durable-requires-2 g c =
    let n = length c.args.events.now in
    reaches-less
    63 65 (g.D.Disk.state c.write_durable.new.disk) (omega arith)
    (reaches-written
    48 65 c.args.base.now (g.D.Disk.state c.write_stamps.new.disk) (g.D.Disk.state c.write_durable.new.disk) (omega (arith, c.told-base))
    c.write_durable.ensures.survives.exposes
    (reaches-less 65 (64 + 32 * n + 1) (g.D.Disk.state c.write_stamps.new.disk) (omega arith) c.in_ok-write_stamps.ensures.reaches)
    c.in_ok-write_durable.ensures.written)

pub returns-clause-images : goal.returns-clause-images
returns-clause-images g c = λ label one each.
    let d = c.write_durable.ensures in
    let v = c.write_durable-2.ensures in
    turned-images
    label c.args.base.now c.args.stamps.now c.args.events.now one
    (g.D.Disk.state c.args.disk.now) (g.D.Disk.state c.write_stamps.new.disk) c.told-base c.write_stamps.ensures.stays each
    (g.D.Disk.state c.write_durable.new.disk) d.survives.exposes d.images d.survives
    (g.met.D.Disk.seen_is_left c.write_stamps.new.disk) c.in_ok-write_stamps.ensures.stamped c.in_ok-write_durable.ensures.written
    (g.D.Disk.state c.write_durable-2.new.disk) v.survives.exposes v.images v.survives

pub returns-clause-survives : goal.returns-clause-survives
returns-clause-survives g c = λ label one each.
    let d = c.write_durable.ensures in
    let v = c.write_durable-2.ensures in
    turned-left
    label c.args.base.now c.args.stamps.now c.args.events.now one
    (g.D.Disk.state c.args.disk.now) (g.D.Disk.state c.write_stamps.new.disk) c.told-base c.write_stamps.ensures.stays each
    (g.D.Disk.state c.write_durable.new.disk) d.survives.exposes d.images d.survives
    (g.met.D.Disk.seen_is_left c.write_stamps.new.disk) c.in_ok-write_stamps.ensures.stamped c.in_ok-write_durable.ensures.written
    (g.D.Disk.state c.write_durable-2.new.disk) v.survives.exposes v.images v.survives

pub returns-clause-turned : goal.returns-clause-turned
returns-clause-turned g c = λ label one each.
    let d = c.write_durable.ensures in
    let v = c.write_durable-2.ensures in
    let headed = g.D.Disk.state c.write_durable.new.disk in
    let new = g.D.Disk.state c.write_durable-2.new.disk in
    on-ok
    c.write_durable-2.result (LeavesWritten 63 (1 ∷ []) headed new) (EachImage (IsOfTwo label c.args.base.now c.args.stamps.now c.args.events.now) new) v.durable
    (all-turned
    label c.args.base.now c.args.stamps.now c.args.events.now one
    (g.D.Disk.state c.args.disk.now) (g.D.Disk.state c.write_stamps.new.disk) c.told-base c.write_stamps.ensures.stays each
    headed d.survives.exposes d.images d.survives
    (g.met.D.Disk.seen_is_left c.write_stamps.new.disk) c.in_ok-write_stamps.ensures.stamped c.in_ok-write_durable.ensures.written
    new v.survives.exposes v.images v.survives)

-- the bytes

pub returns-clause-bytes : goal.returns-clause-bytes
returns-clause-bytes g c =
    let old = g.D.Disk.state c.args.disk.now in
    let stamped = g.D.Disk.state c.write_stamps.new.disk in
    let headed = g.D.Disk.state c.write_durable.new.disk in
    let new = g.D.Disk.state c.write_durable-2.new.disk in
    let base = c.args.base.now in
    on-ok
    c.write_durable-2.result (HasWritten 63 (1 ∷ []) headed new) (HasMigrated c.args.events.now base c.args.stamps.now old new) c.write_durable-2.ensures.written
    (λ wrote. bytes-written c.args.events.now base c.args.stamps.now old stamped headed new c.in_ok-write_stamps.ensures.bytes
    (written-seen 48 base stamped headed c.write_durable.ensures.survives.exposes c.in_ok-write_durable.ensures.written)
    (written-seen 63 (1 ∷ []) headed new c.write_durable-2.ensures.survives.exposes wrote))
