-- The end that a desk keeps for a request that has the go, or why it keeps none.
use Rattle.std.proofs.Common.{◌≡◌, true, Option, Err, reverse, subst}
use Rattle.conc_types.specs.declared.event.Event.{Event}
use Rattle.conc_types.specs.declared.event.RequestId.{RequestId}
use Rattle.conc_disk.specs.Disk.{DiskState}
use Rattle.conc_board.specs.declared.board.Board.{Board}
use Rattle.conc_board.specs.Seats.{places_of_lead, plan_of as board_plan}
use Rattle.conc_pool_seats.specs.Words.{IsRequest}
use Rattle.conc_journal_spool.specs.Spools.{used_of}
use Rattle.conc_journal_spool.specs.Spools.{IsOn as SpoolIsOn}
use Rattle.conc_run_steps.specs.Steps.{any_disk, IsTied, StoresOn}
use Rattle.conc_run_desk.specs.Desks.{IsAt, list_at, plan_at}
use Rattle.conc_run_desk.specs.Keeping.{IsTaken, Keeps, LeavesDisk, run_fail, SameList}
use Rattle.conc_run_desk.specs.State.{DeskState}
use Rattle.conc_run_desk.specs.declared.keeping.KeepFail.{KeepFail}
use Rattle.conc_run_desk.specs.declared.keeping.KeepFail.TheVariants as fails
use Rattle.conc_run_desk.specs.Ties.{LeadStatesGoWith}
use Rattle.conc_run_workers.specs.Resolving.{Halts, IsAtWork, Situation}
use Rattle.conc_run_workers.proofs.Awaiting.{lacks}
use Rattle.conc_run_workers.proofs.Logged.{halts-memory, halts-spool, with_spool}

-- none is kept after a failure
pub halts-unkept : (board : Board) (before : Situation) (mid : DeskState) (spool' : DiskState) (r : RequestId) (fail : KeepFail) → IsAtWork board before → IsRequest (board_plan board) r
    → LeadStatesGoWith (plan_at before.desk) (reverse (list_at before.desk)) before.desk.lead → SameList before.desk mid → IsTied mid.kept mid.work any_disk any_disk → SpoolIsOn mid.work.spool spool' → IsAt board mid
    → places_of_lead mid.lead ≡ places_of_lead before.desk.lead → Keeps r (Err fail) before.desk mid before.spool spool' → IsTaken board r (Err fail) before.desk mid
    → (LeavesDisk (Err fail) → StoresOn (plan_at before.desk) (used_of before.desk.work.spool) (list_at before.desk) (list_at before.desk) before.spool spool')
    → mid.failed ≡ true → Halts board (run_fail fail) before (with_spool before mid spool')
halts-unkept board before mid spool' r fails.SpoolFault at_work named tied list parts on at places keeps taken stores stops =
    halts-spool board before mid spool' at_work list (subst (λ (k : Option Event). IsTied k mid.work any_disk any_disk) keeps.kept parts) on at places keeps.stores keeps.fault stops
halts-unkept board before mid spool' r fails.NoMemory at_work named tied list parts on at places keeps taken stores stops =
    halts-memory board before mid spool' at_work list (subst (λ (k : Option Event). IsTied k mid.work any_disk any_disk) keeps parts) on at places (stores tt)
    (lacks board before.desk mid r at_work.at.plan named tied list taken)
