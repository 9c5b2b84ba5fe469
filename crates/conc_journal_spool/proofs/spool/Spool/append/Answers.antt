use Rattle.std.proofs.Common.{◌∙◌, length}
use Rattle.conc_journal_spool.proofs.Appended.{on-synced, on-torn, reaches, text-stands}
use Rattle.conc_journal_spool.proofs.spool.Spool.append.Goals as goal

pub returns-clause-text : goal.returns-clause-text
returns-clause-text g c =
    let old = g.E.Disk.state c.args.disk.now in
    let used = c.args.self.now.used in
    let reach = reaches used old.seen old.may_leave c.requires.on (g.met.E.Disk.seen_is_left c.args.disk.now) in
    text-stands used c.args.bytes.now old.seen (g.E.Disk.state c.sync.new.self).seen reach (c.sync.ensures.stays.seen ∙ c.in_ok-write_at.ensures.written)

pub returns-clause-on : goal.returns-clause-on
returns-clause-on g c =
    let old = g.E.Disk.state c.args.disk.now in
    let mid = g.E.Disk.state c.write_at.new.self in
    let new = g.E.Disk.state c.sync.new.self in
    let used = c.args.self.now.used in
    let reach = reaches used old.seen old.may_leave c.requires.on (g.met.E.Disk.seen_is_left c.args.disk.now) in
    on-synced used c.args.bytes.now old.seen mid.seen new.seen new.may_leave reach c.in_ok-write_at.ensures.written c.sync.ensures.stays.seen c.in_ok-sync.ensures.durable

pub returns-in_err-write_at-clause-on : goal.returns-in_err-write_at-clause-on
returns-in_err-write_at-clause-on g c =
    let old = g.E.Disk.state c.args.disk.now in
    let new = g.E.Disk.state c.write_at.new.self in
    on-torn c.args.self.now.used (length c.args.bytes.now) old.seen new.seen old.may_leave new.may_leave c.requires.on (g.met.E.Disk.seen_is_left c.args.disk.now) c.in_err-write_at.ensures.torn c.write_at.ensures.images
