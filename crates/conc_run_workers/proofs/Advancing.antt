-- Steps of the resolver, one after another.
use Rattle.std.proofs.Common.{◌≡◌, ◌⊎◌, ℕ, ◌≤◌, true, Result, Ok, Err, IfSome, refl, sym, ◌∙◌, ap, subst, arith, inl, inr}
use Rattle.conc_types.specs.declared.event.RequestId.{RequestId}
use Rattle.std.specs.Prelude.{OnOk}
use Rattle.conc_base_law.specs.Law.{Finished}
use Rattle.conc_outside.specs.Counts.{Rose}
use Rattle.conc_journal.specs.Journals.{state_of}
use Rattle.conc_board.specs.Looks.{LooksOn}
use Rattle.conc_board.specs.Seats.{TakesMore}
use Rattle.conc_board.specs.declared.board.Board.{Board}
use Rattle.conc_pool_seats.specs.LeadStates.{IsGone, IsLet}
use Rattle.conc_pool_seats.specs.declared.views.LeadState.{LeadState}
use Rattle.conc_pool_seats.specs.declared.views.LeadState.TheVariants as lead_state
use Rattle.conc_run_state.specs.Works.{list_in}
use Rattle.conc_run_state.specs.declared.error.RunFail.{RunFail}
use Rattle.conc_run_state.specs.declared.error.RunFail.TheVariants as run_fail
use Rattle.conc_run_state.specs.declared.work.Work.{Work}
use Rattle.conc_run_steps.specs.Going.{IsUnderway, WentOn}
use Rattle.conc_run_steps.specs.Steps.{IsFinished, plan_in, readings_in}
use Rattle.conc_run_steps.specs.Told.{IsTold, IsUntold}
use Rattle.conc_run_steps.proofs.Underway.{by-first, underway-more, underway-still, went-further}
use Rattle.conc_run_desk.specs.Desks.{MovesOne, OpensWhatIsUsable, list_at, plan_at}
use Rattle.conc_run_desk.specs.State.{DeskState}
use Rattle.conc_run_workers.specs.Resolving.{Advances, Concludes, disks_between, IsAtWork, IsDismissed, IsShortOfMemory, MovesAt, Resolves, Situation, StaysAt}
use Rattle.conc_run_workers.specs.Runs.{LacksReport}
use Rattle.conc_run_workers.proofs.Awaiting.{lacks-still}

-- the same, but for the desk
abbrev pub with_desk : Situation → DeskState → Situation
with_desk s desk = record { desk = desk; journal = s.journal; spool = s.spool; told = s.told; takes = s.takes; may_lack = s.may_lack }

-- ---- a step that adds no event

-- one that opens and closes no place moves
pub moves-at : {board : Board} {old new : DeskState} → StaysAt board old new → MovesAt board old new
moves-at stays = record { at = stays.at; same = stays.same; places = stays.places }

pub still : {board : Board} {before : Situation} {new : DeskState} → IsAtWork board before → IfSome before.spool.seen before.spool.may_leave → MovesAt board before.desk new → Advances board before (with_desk before new)
still {board} {before} {new} at_work left stays = record {
  at = stays.at;
  places = stays.places;
  under = subst (λ (w : Work). IsUnderway before.desk.work w (disks_between before before)) (sym stays.same.work) (underway-still before.desk.work before.journal before.spool at_work.ready left);
  nothing_kept = stays.same.kept ∙ at_work.nothing_kept;
  sound = stays.same.failed ∙ at_work.sound;
  is_told = subst (λ (w : Work). IsTold before.told before.takes (plan_in w) (list_in w)) (sym stays.same.work) at_work.is_told;
}

-- no step
pub begins : {board : Board} {s : Situation} → IsAtWork board s → IfSome s.spool.seen s.spool.may_leave → Advances board s s
begins at_work left = still at_work left (record { at = at_work.at; same = record { work = refl; kept = refl; begun_with = refl; failed = refl }; places = refl })

-- ---- what holds between two steps

pub at-work : {board : Board} {before after : Situation} → Advances board before after → IsAtWork board after
at-work first = record {
  at = first.at;
  ready = first.under.ready;
  nothing_kept = first.nothing_kept;
  sound = first.sound;
  is_told = first.is_told;
}

-- ---- one step after another

rose-since : (before mid after : ℕ) → before ≤ mid → Rose mid after → Rose before after
rose-since before mid after le (inl less) = inl (omega arith)
rose-since before mid after le (inr most) = inr most

pub after : {T : Type 0} (board : Board) (old mid new : Situation) (answer : Result T RunFail) → Advances board old mid → Resolves board answer mid new → Resolves board answer old new
after board old mid new (Ok x) first second = record {
  at = second.at;
  places = second.places ∙ first.places;
  under = underway-more old.desk.work mid.desk.work new.desk.work old.journal mid.journal new.journal old.spool mid.spool new.spool first.under second.under.went second.under.ready second.under.state;
  nothing_kept = second.nothing_kept;
  sound = second.sound;
  is_told = second.is_told;
}
after board old mid new (Err fail) first second = record {
  at = second.at;
  places = second.places ∙ first.places;
  went = went-further old.desk.work mid.desk.work new.desk.work old.journal mid.journal new.journal old.spool mid.spool new.spool first.under second.went;
  journal_fault = λ is. rose-since old.journal.faults mid.journal.faults new.journal.faults first.under.faults (second.journal_fault is);
  spool_fault = λ is. rose-since old.spool.faults mid.spool.faults new.spool.faults first.under.went.spool.faults (second.spool_fault is);
  stops = second.stops;
  memory = second.memory;
  sound = λ none. second.sound none ∙ first.under.state;
}

-- one step that succeeded, and another on the board alone
pub ok-still : {board : Board} {old mid : Situation} {new : DeskState} → Advances board old mid → MovesAt board mid.desk new → Advances board old (with_desk mid new)
ok-still {board} {old} {mid} {new} first stays = record {
  at = stays.at;
  places = stays.places ∙ first.places;
  under = subst (λ (w : Work). IsUnderway old.desk.work w (disks_between old mid)) (sym stays.same.work) first.under;
  nothing_kept = stays.same.kept ∙ first.nothing_kept;
  sound = stays.same.failed ∙ first.sound;
  is_told = subst (λ (w : Work). IsTold mid.told mid.takes (plan_in w) (list_in w)) (sym stays.same.work) first.is_told;
}

-- a want of memory stays one
short-still : (mid : Situation) (new : DeskState) → new.work ≡ mid.desk.work → TakesMore mid.desk.lead new.lead → IsShortOfMemory mid → IsShortOfMemory (with_desk mid new)
short-still mid new same posts (inl lacks) = inl (lacks-still mid.desk new same posts lacks)
short-still mid new same posts (inr untold) = inr (untold.0, subst (λ (w : Work). IsUntold mid.told (list_in w)) (sym same) untold.1)

-- one step, and another on the board alone
pub then-still : {T : Type 0} (board : Board) (old mid : Situation) (new : DeskState) (answer : Result T RunFail) → Resolves board answer old mid → MovesAt board mid.desk new → TakesMore mid.desk.lead new.lead → Resolves board answer old (with_desk mid new)
then-still board old mid new (Ok x) first stays posts = ok-still first stays
then-still board old mid new (Err fail) first stays posts = record {
  at = stays.at;
  places = stays.places ∙ first.places;
  went = subst (λ (w : Work). WentOn (plan_in old.desk.work) (readings_in old.desk.work) (disks_between old mid) old.desk.work w) (sym stays.same.work) first.went;
  journal_fault = first.journal_fault;
  spool_fault = first.spool_fault;
  stops = λ is. stays.same.failed ∙ first.stops is;
  memory = λ is. short-still mid new stays.same.work posts (first.memory is);
  sound = λ none. ap (λ (w : Work). state_of w.journal) stays.same.work ∙ first.sound none;
}

-- two steps on the board alone
pub stays-twice : {board : Board} {old mid new : DeskState} → StaysAt board old mid → StaysAt board mid new → StaysAt board old new
stays-twice first second = record {
  at = second.at;
  same = record {
    work = second.same.work ∙ first.same.work;
    kept = second.same.kept ∙ first.same.kept;
    begun_with = second.same.begun_with ∙ first.same.begun_with;
    failed = second.same.failed ∙ first.same.failed;
  };
  places = second.places ∙ first.places;
  switches = record { each = λ word. second.switches.each word ∙ first.switches.each word };
}

pub moves-twice : {board : Board} {old mid new : DeskState} → MovesAt board old mid → MovesAt board mid new → MovesAt board old new
moves-twice first second = record {
  at = second.at;
  same = record {
    work = second.same.work ∙ first.same.work;
    kept = second.same.kept ∙ first.same.kept;
    begun_with = second.same.begun_with ∙ first.same.begun_with;
    failed = second.same.failed ∙ first.same.failed;
  };
  places = second.places ∙ first.places;
}

pub stays-moves : {board : Board} {r : RequestId} {old new : DeskState} → MovesOne board r old new → StaysAt board old new
stays-moves moves = record { at = moves.at; same = moves.same; places = moves.others.places; switches = moves.others.switches }

-- ---- what a whole run comes to

-- one that goes on, by what its steps came to
pub concludes-begun : (board : Board) (old new : Situation) (answer : Result Unit RunFail) → Resolves board answer old new → OnOk answer (IsFinished new.desk.work) → OnOk answer (OpensWhatIsUsable board new.desk) → IsDismissed board new.desk.lead → Concludes board answer old new
concludes-begun board old new (Ok x) h is_finished opens dismissed =
    let went = h.under.went in record {
      at = h.at;
      places = h.places;
      went = went;
      finished = by-first old.desk.work new.desk.work (disks_between old new) went (λ plan readings. Finished plan readings (list_in new.desk.work)) is_finished;
      is_told = by-first old.desk.work new.desk.work (disks_between old new) went (λ plan readings. IsTold new.told new.takes plan (list_in new.desk.work)) h.is_told;
      journal_fault = λ is. cc;
      spool_fault = λ is. cc;
      stops = λ is. cc;
      memory = λ is. cc;
      sound = λ none. h.under.state;
      opens = opens;
      dismissed = dismissed;
    }
concludes-begun board old new (Err fail) h is_finished opens dismissed = record {
  at = h.at;
  places = h.places;
  went = h.went;
  finished = tt;
  is_told = tt;
  journal_fault = λ is. h.journal_fault (let e : fail ≡ run_fail.JournalFault = cc in e);
  spool_fault = λ is. h.spool_fault (let e : fail ≡ run_fail.SpoolFault = cc in e);
  stops = λ is. h.stops (let e : fail ≡ run_fail.SpoolFault = cc in e);
  memory = λ is. h.memory (let e : fail ≡ run_fail.NoMemory = cc in e);
  sound = λ none. h.sound (λ is. none (ap (λ e. Err e) is));
  opens = opens;
  dismissed = dismissed;
}

-- where a whole run found no memory, by its plan at the beginning
pub short-first : (old new : Situation) → WentOn (plan_at old.desk) (readings_in old.desk.work) (disks_between old new) old.desk.work new.desk.work → IsShortOfMemory new
    → LacksReport (plan_at old.desk) (list_at new.desk) new.desk.lead ⊎ ((new.may_lack ≡ true) × IsUntold new.told (list_at new.desk))
short-first old new went (inr untold) = inr untold
short-first old new went (inl lacks) = inl (by-first old.desk.work new.desk.work (disks_between old new) went (λ plan readings. LacksReport plan (list_in new.desk.work) new.desk.lead) lacks)

-- a history that is finished is so after a step on the board alone
pub finished-still : {T : Type 0} {board : Board} {mid new : DeskState} (answer : Result T RunFail) → OnOk answer (IsFinished mid.work) → MovesAt board mid new → OnOk answer (IsFinished new.work)
finished-still (Ok x) is stays = subst (λ (w : Work). IsFinished w) (sym stays.same.work) is
finished-still (Err fail) is stays = tt

-- ---- a look at a request

pub still-let : (old new : LeadState) → IsLet old → LooksOn old new → IsLet new
still-let lead_state.Let new is (inl same) = subst (λ (s : LeadState). IsLet s) (sym same) tt
still-let lead_state.Let new is (inr seen) = subst (λ (s : LeadState). IsLet s) (sym seen.1) tt
still-let (lead_state.Seen p) new is same = subst (λ (s : LeadState). IsLet s) (sym same) tt
still-let lead_state.NotLet new is same = absurd is
still-let (lead_state.Gone p marked) new is same = absurd is
still-let (lead_state.Got p marked) new is same = absurd is
still-let (lead_state.Done marked) new is same = absurd is

pub still-gone : (old new : LeadState) → IsGone old → LooksOn old new → IsGone new
still-gone (lead_state.Gone p marked) new is same = subst (λ (s : LeadState). IsGone s) (sym same) tt
still-gone lead_state.Let new is same = absurd is
still-gone (lead_state.Seen p) new is same = absurd is
still-gone lead_state.NotLet new is same = absurd is
still-gone (lead_state.Got p marked) new is same = absurd is
still-gone (lead_state.Done marked) new is same = absurd is
