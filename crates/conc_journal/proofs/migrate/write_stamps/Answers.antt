use Rattle.conc_journal.proofs.Stamping.{stamping-none}
use Rattle.conc_journal.proofs.migrate.write_stamps.Goals as goal

pub loop-index-init : goal.loop-index-init
loop-index-init g c = stamping-none c.args.events.now c.args.stamps.now (g.D.Disk.state c.args.disk.now) c.requires.reaches
