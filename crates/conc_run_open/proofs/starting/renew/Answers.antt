use Rattle.std.proofs.Common.{arith, take, sym, ◌∙◌}
use Rattle.conc_disk.proofs.Leaving.{leaves-none}
use Rattle.conc_run_state.specs.Survival.{Survives}
use Rattle.conc_run_open.proofs.Renewing.{begun-now, begun-two, migrated-for, migrated-now, migrated-two, migrating-left, one-named}
use Rattle.conc_run_open.proofs.Resuming.{is-begun, is-one, stamps-counted}
use Rattle.conc_run_open.proofs.Written.{migrated-renewed, still-renewed}
use Rattle.conc_run_open.proofs.starting.renew.Goals as goal

pub migrate-requires-clause-begun : goal.migrate-requires-clause-begun
migrate-requires-clause-begun g c = is-one c.args.journal.now.state (sym c.is_of_version_one.ensures ∙ c.if-is_of_version_one.true)

pub migrate-requires-clause-stamps : goal.migrate-requires-clause-stamps
migrate-requires-clause-stamps g c =
    let may = c.requires.may in
    let journal = c.args.journal.now in
    omega (arith, stamps-counted may.0 journal.events.items c.args.due.now may.1.due_are, journal.stamped, journal.stamps.ok.0)

pub returns-then-is_of_version_one-clause-begun_for : goal.returns-then-is_of_version_one-clause-begun_for
returns-then-is_of_version_one-clause-begun_for g c = λ plan may.
    let one = is-one c.args.journal.now.state (sym c.is_of_version_one.ensures ∙ c.if-is_of_version_one.true) in
    migrated-for c.migrate.result plan c.args.digests.now one.0 c.args.due.now c.args.journal.now.events.items c.migrate.new.self may.due_are (rw c.base.ensures at (c.migrate.ensures.migrated one.0 one.1)) c.migrate.ensures.list c.migrate.ensures.stamps

pub returns-then-is_of_version_one-clause-survives : goal.returns-then-is_of_version_one-clause-survives
returns-then-is_of_version_one-clause-survives g c = λ plan may.
    let journal = c.args.journal.now in
    let one = is-one journal.state (sym c.is_of_version_one.ensures ∙ c.if-is_of_version_one.true) in
    let begun = is-begun plan c.args.digests.now journal may.may_start c.requires.begun in
    let named = one-named plan c.args.digests.now journal one.0 begun one.1 one.2 in
    record {
      survives = migrating-left plan c.args.digests.now one.0 c.args.due.now journal.events.items (g.D.Disk.state c.args.disk.now) (g.D.Disk.state c.migrate.new.disk) one.2 named may.due_are (rw c.base.ensures at (c.migrate.ensures.survives one.0 one.1));
      now = migrated-now c.migrate.result plan c.args.digests.now one.0 c.args.due.now journal.events.items c.migrate.new.self (g.D.Disk.state c.migrate.new.disk) one.2
          named may.due_are (rw c.base.ensures at (c.migrate.ensures.migrated one.0 one.1)) (rw c.base.ensures at (c.migrate.ensures.failed one.0 one.1)) c.migrate.ensures.list c.migrate.ensures.stamps c.migrate.ensures.on;
    }

pub returns-else-is_of_version_one-clause-begun_for : goal.returns-else-is_of_version_one-clause-begun_for
returns-else-is_of_version_one-clause-begun_for g c = λ plan may. is-begun plan c.args.digests.now c.args.journal.now may.may_start c.requires.begun

pub returns-else-is_of_version_one-clause-survives : goal.returns-else-is_of_version_one-clause-survives
returns-else-is_of_version_one-clause-survives g c = λ plan may. record {
  survives = leaves-none (Survives plan c.args.digests.now c.args.journal.now.events.items c.args.journal.now.events.items) (g.D.Disk.state c.args.disk.now);
  now = begun-now plan c.args.digests.now c.args.journal.now (g.D.Disk.state c.args.disk.now) (is-begun plan c.args.digests.now c.args.journal.now may.may_start c.requires.begun) c.requires.on;
}

pub returns-then-is_of_version_one-clause-version : goal.returns-then-is_of_version_one-clause-version
returns-then-is_of_version_one-clause-version g c =
    let one = is-one c.args.journal.now.state (sym c.is_of_version_one.ensures ∙ c.if-is_of_version_one.true) in
    migrated-two c.migrate.result one.0 (take 15 c.args.digests.now.base) c.migrate.new.self (rw c.base.ensures at (c.migrate.ensures.migrated one.0 one.1))

pub returns-else-is_of_version_one-clause-version : goal.returns-else-is_of_version_one-clause-version
returns-else-is_of_version_one-clause-version g c =
    let may = c.requires.may in
    begun-two may.0 c.args.digests.now c.args.journal.now (is-begun may.0 c.args.digests.now c.args.journal.now may.1.may_start c.requires.begun) (sym c.is_of_version_one.ensures ∙ c.if-is_of_version_one.false)

pub returns-then-is_of_version_one-clause-written : goal.returns-then-is_of_version_one-clause-written
returns-then-is_of_version_one-clause-written g c = λ plan may.
    migrated-renewed c.migrate.result plan c.args.digests.now c.args.journal.now.events.items c.args.due.now (g.D.Disk.state c.args.disk.now) (g.D.Disk.state c.migrate.new.disk) may.due_are (rw c.base.ensures at c.migrate.ensures.written)

pub returns-else-is_of_version_one-clause-written : goal.returns-else-is_of_version_one-clause-written
returns-else-is_of_version_one-clause-written g c = λ plan may. still-renewed plan c.args.digests.now c.args.journal.now.events.items (g.D.Disk.state c.args.disk.now)
