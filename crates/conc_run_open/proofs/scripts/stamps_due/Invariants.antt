use Rattle.std.proofs.Common.{take}
use Rattle.conc_run_state.specs.Inputs.{AreStampsOf}
use Rattle.conc_run_open.proofs.scripts.stamps_due.Given as goal

-- the stamps of the commands so far
abbrev pub invariant-loop-event : goal.invariant-loop-event
invariant-loop-event l = AreStampsOf l.plan (take l.event-index l.events) l.stamps.items
