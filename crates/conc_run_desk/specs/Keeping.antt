-- What comes of a request whose end is to be kept.
use Rattle.std.specs.Prelude.{◌≡◌, ◌⊎◌, ◌∷◌, ◌++◌, [], Bool, true, false, List, Option, None, Some, Result, Ok, Err, IsSome, IsSomeAnd, reverse, ⊤}
use Rattle.std.specs.Option.{option_and_then}
use Rattle.conc_types.specs.declared.event.Event.{Event}
use Rattle.conc_types.specs.declared.event.PlaceId.{PlaceId}
use Rattle.conc_types.specs.declared.event.RequestId.{RequestId}
use Rattle.conc_types.specs.declared.plan.Plan.{Plan}
use Rattle.conc_types.specs.declared.plan.Req.{Req}
use Rattle.conc_types.specs.Plans.{request}
use Rattle.conc_types.specs.Words.{some_and}
use Rattle.conc_base_law.specs.Alone.{end_of}
use Rattle.conc_base_law.specs.Facts.{facts_of}
use Rattle.conc_base_law.specs.Law.{Lawful}
use Rattle.conc_base_law.specs.Next.{forced}
use Rattle.conc_base_law.specs.State.{facts_at, is_stopping, state}
use Rattle.conc_base_law.specs.Words.{Has}
use Rattle.conc_outside.specs.Counts.{Rose}
use Rattle.conc_disk.specs.Disk.{DiskState}
use Rattle.conc_board.specs.declared.board.Board.{Board}
use Rattle.conc_board.specs.Seats.{IsLeftFor}
use Rattle.conc_board.specs.Stops.{Collects, FindsRunning, TakesPost}
use Rattle.conc_pool_seats.specs.Reports.{MayLeave}
use Rattle.conc_pool_seats.specs.declared.posted.Posted.{Posted}
use Rattle.conc_pool_seats.specs.declared.posted.Posted.TheVariants.{Text, Stopped, NoMemory}
use Rattle.conc_run_choice.specs.declared.choosing.Next.{Next}
use Rattle.conc_run_state.specs.declared.error.RunFail.{RunFail}
use Rattle.conc_run_state.specs.declared.error.RunFail.TheVariants as run_fails
use Rattle.conc_run_state.specs.Works.{HasPendingText}
use Rattle.conc_run_steps.specs.Steps.{readings_in, StoresOn}
use Rattle.conc_journal_spool.specs.Spools.{used_of}
use Rattle.conc_run_desk.specs.declared.keeping.KeepFail.{KeepFail}
use Rattle.conc_run_desk.specs.declared.keeping.KeepFail.TheVariants as fails
use Rattle.conc_run_desk.specs.declared.keeping.Kept.{Kept}
use Rattle.conc_run_desk.specs.declared.keeping.Kept.TheVariants as keeps
use Rattle.conc_run_desk.specs.Desks.{list_at, plan_at}
use Rattle.conc_run_desk.specs.State.{DeskState as Desk}
use Rattle.conc_run_desk.specs.Ties.{RunsAt}

-- ---- what the list says of a request, by the events with the latest first

-- it has to stop
abbrev pub must_stop : Plan → List Event → RequestId → Bool
must_stop plan past r = some_and (λ q. is_stopping (facts_at (state plan past) q)) (request plan r)

-- the end of the request, if it runs: as terminated where it has to stop, else with its report
abbrev pub end_in : Plan → List Event → RequestId → Option Event
end_in plan past r = option_and_then (end_of plan (state plan past)) (request plan r)

abbrev pub must_stop_at : Desk → RequestId → Bool
must_stop_at desk r = must_stop (plan_at desk) (reverse (list_at desk)) r

abbrev pub end_at : Desk → RequestId → Option Event
end_at desk r = end_in (plan_at desk) (reverse (list_at desk)) r

-- the event that is forced
abbrev pub forced_at : Desk → Option Event
forced_at desk = forced (plan_at desk) (state (plan_at desk) (reverse (list_at desk)))

-- ---- what was left for it

-- a request of the plan runs, and this may have been left for it
pub record IsLeftIn (plan : Plan) (past : List Event) (r : RequestId) (posted : Posted) : Type 0 where
  pub req : Req
  pub there : Has plan.requests req
  pub number : req.number ≡ r
  pub place : PlaceId
  pub marked : Bool
  pub runs : RunsAt place marked (facts_of plan past req)
  pub may_leave : MayLeave plan r marked posted

-- What is made of it, by whether the request has to stop: an end without a text, or one with the report, or none where the
-- report found no memory.
abbrev pub MakesOf : Bool → Posted → Option Next → Type 0
MakesOf true posted next = IsSomeAnd next (λ n. n.text ≡ None)
MakesOf false (Text made) next = IsSome next
MakesOf false NoMemory next = next ≡ None
MakesOf false Stopped next = ⊥

-- ---- what is answered

-- the same failure, as a run reports it
abbrev pub run_fail : KeepFail → RunFail
run_fail fails.SpoolFault = run_fails.SpoolFault
run_fail fails.NoMemory = run_fails.NoMemory

abbrev pub IsReadyAnswer : Result Kept KeepFail → Type 0
IsReadyAnswer answer = (e : Event) × (answer ≡ Ok (keeps.Ready e))

-- What is answered, by whether the request has to stop and what was left for it. One that has to stop needs neither memory nor the disk.
abbrev pub AnswersTo : Bool → Posted → Result Kept KeepFail → Type 0
AnswersTo true posted answer = IsReadyAnswer answer
AnswersTo false (Text made) answer = IsReadyAnswer answer ⊎ (answer ≡ Err fails.SpoolFault)
AnswersTo false NoMemory answer = answer ≡ Err fails.NoMemory
AnswersTo false Stopped answer = ⊥

-- What was left for the request was taken, as the lead's own note of it says, which is done on the board then; and the
-- answer goes by it.
pub record IsTaken (board : Board) (r : RequestId) (answer : Result Kept KeepFail) (old new : Desk) : Type 0 where
  pub posted : Posted
  pub left : IsLeftFor board old.lead r posted
  pub collects : Collects r old.lead new.lead
  pub taken : TakesPost r posted old.lead new.lead
  pub answers : AnswersTo (must_stop_at old r) posted answer

-- it was taken, or nothing is left yet
abbrev pub Takes : Board → RequestId → Result Kept KeepFail → Desk → Desk → Type 0
Takes board r (Ok keeps.NotYet) old new = FindsRunning r old.lead new.lead
Takes board r answer old new = IsTaken board r answer old new

-- the end of the request is kept. It may come next, and the spool's disk has its text
pub record IsReady (e : Event) (r : RequestId) (old new : Desk) (before after : DiskState) : Type 0 where
  pub kept : new.kept ≡ Some e
  pub is_end : end_at old r ≡ Some e
  pub lawful : Lawful (plan_at old) (readings_in old.work) (list_at old ++ e ∷ [])
  pub text : HasPendingText (plan_at old) (list_at old) after (Some e)
  pub stores : StoresOn (plan_at old) (used_of old.work.spool) (list_at old) (list_at old ++ e ∷ []) before after

-- none is kept: the spool's disk failed, and has the texts of the list as before
pub record IsFault (old new : Desk) (before after : DiskState) : Type 0 where
  pub kept : new.kept ≡ None
  pub stores : StoresOn (plan_at old) (used_of old.work.spool) (list_at old) (list_at old) before after
  pub fault : Rose before.faults after.faults

-- what is kept then, and what the spool's disk has
abbrev pub Keeps : RequestId → Result Kept KeepFail → Desk → Desk → DiskState → DiskState → Type 0
Keeps r (Ok (keeps.Ready e)) old new before after = IsReady e r old new before after
Keeps r (Ok keeps.NotYet) old new before after = new.kept ≡ None
Keeps r (Err fails.NoMemory) old new before after = new.kept ≡ None
Keeps r (Err fails.SpoolFault) old new before after = IsFault old new before after

-- such an answer asks nothing of the spool's disk
abbrev pub LeavesDisk : Result Kept KeepFail → Type 0
LeavesDisk (Ok keeps.NotYet) = ⊤
LeavesDisk (Err fails.NoMemory) = ⊤
LeavesDisk answer = ⊥

-- the list, the machine and the number of events at the beginning are as they were
pub record SameList (old new : Desk) : Type 0 where
  pub journal : new.work.journal ≡ old.work.journal
  pub machine : new.work.machine ≡ old.work.machine
  pub begun_with : new.begun_with ≡ old.begun_with
