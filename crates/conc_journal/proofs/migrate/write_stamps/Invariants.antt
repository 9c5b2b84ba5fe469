use Rattle.conc_journal.specs.Migrating.{IsStamping}
use Rattle.conc_journal.proofs.migrate.write_stamps.Given as goal

abbrev pub invariant-loop-index : goal.invariant-loop-index
invariant-loop-index g l = IsStamping l.events l.stamps l.index l.number (g.D.Disk.state l.initial.disk) (g.D.Disk.state l.disk)
