use Rattle.conc_run_open.proofs.Ends.{NoneBefore}
use Rattle.conc_run_open.proofs.text.find_report.Given as goal

-- no end of the request with a report so far
abbrev pub invariant-loop-event : goal.invariant-loop-event
invariant-loop-event l = NoneBefore l.event-index l.events l.id
