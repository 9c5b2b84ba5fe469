use Rattle.conc_run_open.proofs.Scripting.{AreSame}
use Rattle.conc_run_open.proofs.scripts.first_other.Given as goal

-- the stamps of the commands so far are the plan's
abbrev pub invariant-loop-event : goal.invariant-loop-event
invariant-loop-event l = AreSame l.plan l.events l.stamps l.event-index l.number
