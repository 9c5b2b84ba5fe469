-- What a desk is handed to be logged, and what it makes of it.
use Rattle.std.specs.Prelude.{◌≡◌, ◌+◌, ◌∷◌, ◌++◌, [], Option, None, Some, ⊤}
use Rattle.conc_types.specs.declared.event.Event.{Event}
use Rattle.conc_types.specs.declared.event.Event.TheVariants as event
use Rattle.conc_pool_seats.specs.declared.views.LeadState.TheVariants.{Seen}
use Rattle.conc_journal.specs.Journals.{room_of, state_of}
use Rattle.conc_journal.specs.JournalStates.{after_fault}
use Rattle.conc_run_state.specs.Adding.{stamp_for}
use Rattle.conc_run_steps.specs.Steps.{readings_in, StaysBegun, StaysHeld}
use Rattle.conc_run_desk.specs.Following.{Follows}
use Rattle.conc_run_desk.specs.Desks.{lead_state_at, list_at, plan_at}
use Rattle.conc_run_desk.specs.State.{DeskState}

-- a start is of a request that the lead saw claimed by that place
abbrev pub WasSeen : Event → DeskState → Type 0
WasSeen (event.Started r p) desk = lead_state_at desk r ≡ Seen p
WasSeen e desk = ⊤

-- an end is the one that is kept, and while one is kept it is the event
abbrev pub IsItsTurn : Option Event → Event → Type 0
IsItsTurn None (event.Ended r o x) = ⊥
IsItsTurn None e = ⊤
IsItsTurn (Some kept) e = e ≡ kept

-- the event stands in the list, nothing is kept, and what it means for the board was done
pub record IsLogged (e : Event) (old new : DeskState) : Type 0 where
  pub list : list_at new ≡ list_at old ++ e ∷ []
  pub kept : new.kept ≡ None
  pub follows : Follows (plan_at old) e old.lead new.lead
  pub plan : plan_at new ≡ plan_at old
  pub readings : readings_in new.work ≡ readings_in old.work
  pub state : state_of new.work.journal ≡ state_of old.work.journal
  pub begun_for : StaysBegun (plan_at old) old.work.journal new.work.journal
  pub room : room_of new.work.journal + 1 ≡ room_of old.work.journal
  pub spool : new.work.spool ≡ old.work.spool
  pub begun_with : new.begun_with ≡ old.begun_with
  pub failed : new.failed ≡ old.failed

-- list, machine, spool and board are as they were, and what was kept is kept. The journal's disk has the event or not
pub record IsUnlogged (e : Event) (old new : DeskState) : Type 0 where
  pub list : list_at new ≡ list_at old
  pub state : state_of new.work.journal ≡ after_fault e (stamp_for (plan_at old) e) (state_of old.work.journal)
  pub held_for : StaysHeld (plan_at old) old.work.journal new.work.journal
  pub machine : new.work.machine ≡ old.work.machine
  pub spool : new.work.spool ≡ old.work.spool
  pub lead : new.lead ≡ old.lead
  pub kept : new.kept ≡ old.kept
  pub begun_with : new.begun_with ≡ old.begun_with
  pub failed : new.failed ≡ old.failed
