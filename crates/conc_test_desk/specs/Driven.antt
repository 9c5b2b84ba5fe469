-- A desk that is driven by a trial, and the disks that it is lent.
use Rattle.std.specs.Prelude.{◌≡◌, ◌≤◌, ℕ, None, IsFalse, ⊤}
use Rattle.conc_types.specs.declared.event.Event.{Event}
use Rattle.conc_types.specs.declared.event.Event.TheVariants as event
use Rattle.conc_types.specs.declared.event.RequestId.{RequestId}
use Rattle.conc_board.specs.declared.board.Board.{Board}
use Rattle.conc_board.specs.Seats.{plan_of}
use Rattle.conc_pool_seats.specs.Words.{IsRequest}
use Rattle.conc_run_desk.specs.Desks.{IsAt}
use Rattle.conc_run_desk.specs.State.{DeskState}
use Rattle.conc_edge_devices.specs.Calls.{state_of}
use Rattle.conc_journal.specs.Journals.{IsOn as JournalIsOn, room_of}
use Rattle.conc_journal_spool.specs.Spools.{IsOn as SpoolIsOn}
use Rattle.conc_test_desk.specs.declared.disks.Disks.{Disks}

-- The desk is at the board, no end is kept and none was lost, and both disks are on. The request is one of the plan.
pub record IsDriven (r : RequestId) (board : Board) (desk : DeskState) (disks : Disks) : Type 0 where
  pub at : IsAt board desk
  pub request : IsRequest (plan_of board) r
  pub nothing_kept : desk.kept ≡ None
  pub sound : IsFalse desk.failed
  pub journal_on : JournalIsOn desk.work.journal (state_of disks.journal)
  pub spool_on : SpoolIsOn desk.work.spool (state_of disks.spool)

-- how many events the journal has room for
abbrev pub room_at : DeskState → ℕ
room_at desk = room_of desk.work.journal

-- the event is no start, no end and no resume
abbrev pub IsPlain : Event → Type 0
IsPlain (event.Started r p) = ⊥
IsPlain (event.Ended r o x) = ⊥
IsPlain event.Resume = ⊥
IsPlain e = ⊤
