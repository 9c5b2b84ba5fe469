-- A resolver between two events, and what a step of it comes to.
use Rattle.std.specs.Prelude.{◌≡◌, ◌<◌, ⊤, ℕ, Result, Ok, OnOk}
use Rattle.conc_types.specs.declared.event.Event.{Event}
use Rattle.conc_types.specs.declared.event.RequestId.{RequestId}
use Rattle.conc_pool_seats.specs.LeadStates.{IsGone, IsLet}
use Rattle.conc_pool_seats.specs.Words.{IsRequest}
use Rattle.conc_board.specs.Seats.{SameSwitches, plan_of}
use Rattle.conc_disk.specs.declared.disk.Disk.{Ghosts as DiskGhosts}
use Rattle.conc_journal.specs.declared.teller.Teller.{Ghosts as TellerGhosts}
use Rattle.conc_run_desk.specs.Desks.{OpensWhatIsUsable, lead_state_at}
use Rattle.conc_run_desk.specs.State.{DeskState}
use Rattle.conc_run_state.specs.declared.error.RunFail.{RunFail}
use Rattle.conc_run_workers.specs.declared.crew.Shared.{Shared}
use Rattle.conc_run_workers.specs.declared.resolving.Resolver.{Resolver}
use Rattle.conc_run_workers.specs.declared.running.Directed.{Directed}
use Rattle.conc_run_workers.specs.declared.running.Directed.TheVariants as directed
use Rattle.conc_run_workers.specs.Filling.{AddsEvent, AreFilled, Fills}
use Rattle.conc_run_workers.specs.Resolving.{Concludes, Dismisses, IsAtWork, Resolves, Situation}

-- what stands with this desk, these disks and this teller
abbrev pub standing : {D E T : Type 0} → DiskGhosts D → DiskGhosts E → TellerGhosts T → DeskState → D → E → T → Situation
standing d e t desk journal spool teller = record {
  desk = desk;
  journal = d.state journal;
  spool = e.state spool;
  told = t.list teller;
  takes = t.takes teller;
  may_lack = t.may_lack teller;
}

-- what stands where a resolver works
abbrev pub situation : {D E T : Type 0} → DiskGhosts D → DiskGhosts E → TellerGhosts T → Resolver D E T → Situation
situation d e t r = standing d e t r.desk.now r.journal.now r.spool.now r.teller.now

-- It is at work at its board, and all that has to be in its lanes is there.
pub record MayBegin {D E T : Type 0} (d : DiskGhosts D) (e : DiskGhosts E) (t : TellerGhosts T) (r : Resolver D E T) : Type 0 where
  pub at_work : IsAtWork r.shared.now.board (situation d e t r)
  pub filled : AreFilled r.shared.now.lanes r.desk.now r.hints.now.pass

-- So it is, and the places are open that may be used.
pub record MayStep {D E T : Type 0} (d : DiskGhosts D) (e : DiskGhosts E) (t : TellerGhosts T) (r : Resolver D E T) : Type 0 where
  pub at_work : IsAtWork r.shared.now.board (situation d e t r)
  pub filled : AreFilled r.shared.now.lanes r.desk.now r.hints.now.pass
  pub opens : OpensWhatIsUsable r.shared.now.board r.desk.now

-- the request is one of the plan of its board
abbrev pub IsOfPlan : {D E T : Type 0} → Resolver D E T → RequestId → Type 0
IsOfPlan r request = IsRequest (plan_of r.shared.now.board) request

-- its lead has let the request out, or given it the go
abbrev pub HasLetOut : {D E T : Type 0} → Resolver D E T → RequestId → Type 0
HasLetOut r request = IsLet (lead_state_at r.desk.now request)

abbrev pub HasGivenGo : {D E T : Type 0} → Resolver D E T → RequestId → Type 0
HasGivenGo r request = IsGone (lead_state_at r.desk.now request)

-- It has the same board and lanes, and works on the same desk, disks, teller and hints.
pub record SameLoans {D E T : Type 0} (old new : Resolver D E T) : Type 0 where
  pub shared : new.shared.now ≡ old.shared.now
  pub desk : new.desk.ghost_name ≡ old.desk.ghost_name
  pub journal : new.journal.ghost_name ≡ old.journal.ghost_name
  pub spool : new.spool.ghost_name ≡ old.spool.ghost_name
  pub teller : new.teller.ghost_name ≡ old.teller.ghost_name
  pub hints : new.hints.ghost_name ≡ old.hints.ghost_name

-- What a step comes to, by its answer. Where it succeeds the places are open that may be used.
pub record Steps {A D E T : Type 0} (d : DiskGhosts D) (e : DiskGhosts E) (t : TellerGhosts T) (answer : Result A RunFail) (old new : Resolver D E T) : Type 0 where
  pub loans : SameLoans old new
  pub resolves : Resolves old.shared.now.board answer (situation d e t old) (situation d e t new)
  pub fills : Fills old.shared.now.lanes answer old.desk.now new.desk.now new.hints.now.pass
  pub opens : OnOk answer (OpensWhatIsUsable old.shared.now.board new.desk.now)

-- some steps that succeeded
abbrev pub Went : {D E T : Type 0} → DiskGhosts D → DiskGhosts E → TellerGhosts T → Resolver D E T → Resolver D E T → Type 0
Went d e t old new = Steps {A = Unit {0}} d e t (Ok tt) old new

-- What a step comes to that logs this event. Nothing is put into the lanes, and no place is opened or closed.
pub record Logs {D E T : Type 0} (d : DiskGhosts D) (e : DiskGhosts E) (t : TellerGhosts T) (event : Event) (answer : Result Unit RunFail) (old new : Resolver D E T) : Type 0 where
  pub loans : SameLoans old new
  pub hints : new.hints.now ≡ old.hints.now
  pub resolves : Resolves old.shared.now.board answer (situation d e t old) (situation d e t new)
  pub adds : AddsEvent event answer old.desk.now new.desk.now
  pub switches : SameSwitches old.desk.now.lead new.desk.now.lead

-- What a whole run comes to that began, by its answer.
pub record HasDirected {D E T : Type 0} (d : DiskGhosts D) (e : DiskGhosts E) (t : TellerGhosts T) (answer : Result Unit RunFail) (old new : Resolver D E T) : Type 0 where
  pub loans : SameLoans old new
  pub concludes : Concludes old.shared.now.board answer (situation d e t old) (situation d e t new)
  pub fills : Fills old.shared.now.lanes answer old.desk.now new.desk.now new.hints.now.pass

-- What is left of a desk where not all workers came: it stays as it was, and those that did are told to leave. They are fewer than expected.
pub record HasWaited (shared : Shared) (here : ℕ) (old new : DeskState) : Type 0 where
  pub dismisses : Dismisses shared.board old new
  pub fewer : here < shared.arrivals.expected

-- So it is, and the disks and the teller are as they were.
pub record HasNotBegun {D E T : Type 0} (here : ℕ) (old new : Resolver D E T) : Type 0 where
  pub loans : SameLoans old new
  pub waited : HasWaited old.shared.now here old.desk.now new.desk.now
  pub journal : new.journal.now ≡ old.journal.now
  pub spool : new.spool.now ≡ old.spool.now
  pub teller : new.teller.now ≡ old.teller.now

-- What comes of a whole run, which began or did not.
abbrev pub Directs : {D E T : Type 0} → DiskGhosts D → DiskGhosts E → TellerGhosts T → Directed → Resolver D E T → Resolver D E T → Type 0
Directs d e t (directed.Ended answer) old new = HasDirected d e t answer old new
Directs d e t (directed.TooFew here) old new = HasNotBegun here old new

-- so it is of the answer of a run that began
abbrev pub IfEnded : Directed → (Result Unit RunFail → Type 0) → Type 0
IfEnded (directed.Ended answer) IsSo = IsSo answer
IfEnded (directed.TooFew here) IsSo = ⊤

-- so it is of the number of workers that came to one that did not
abbrev pub IfTooFew : Directed → (ℕ → Type 0) → Type 0
IfTooFew (directed.Ended answer) IsSo = ⊤
IfTooFew (directed.TooFew here) IsSo = IsSo here
