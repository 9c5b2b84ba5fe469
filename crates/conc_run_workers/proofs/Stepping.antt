-- Steps of a resolver, one after another.
use Rattle.std.proofs.Common.{◌≡◌, ℕ, ◌<◌, [], ◌∷◌, Result, Ok, Err, IfSome, OnOk, None, false, refl, sym, ◌∙◌, ap, subst}
use Rattle.std.specs.Prelude.{IsErrAnd}
use base.Fml.{GName}
use Rattle.conc_types.specs.declared.event.Event.{Event}
use Rattle.conc_base_law.specs.Kinds.{is_resume, tick_of}
use Rattle.conc_pool_lanes.specs.Lanes.{IsLeadPassOf, plan_of, puts_of}
use Rattle.conc_pool_lanes.specs.Puts.{lets_of}
use Rattle.conc_pool_lanes.specs.declared.lanes.LeadPass.{LeadPass}
use Rattle.conc_disk.specs.declared.disk.Disk.{Ghosts as DiskGhosts}
use Rattle.conc_journal.specs.declared.teller.Teller.{Ghosts as TellerGhosts}
use Rattle.conc_run_state.specs.declared.error.RunFail.{RunFail}
use Rattle.conc_run_steps.specs.Steps.{IsFinished}
use Rattle.conc_run_desk.specs.Desks.{OpensWhatIsUsable}
use Rattle.conc_run_desk.specs.State.{DeskState}
use Rattle.conc_run_workers.specs.declared.crew.Shared.{Shared}
use Rattle.conc_run_workers.specs.declared.resolving.Hints.{Hints}
use Rattle.conc_run_workers.specs.declared.resolving.Resolver.{Resolver}
use Rattle.conc_run_workers.specs.Filling.{AddsEvent, AddsNoLet, AreFilled, Fills, joined_after}
use Rattle.conc_run_workers.specs.Resolving.{Advances, Concludes, Dismisses, IsAtWork, MovesAt, Resolves, SetsPlaces, StaysAt}
use Rattle.conc_run_workers.specs.Resolvers.{HasDirected, HasNotBegun, Logs, MayBegin, SameLoans, situation, MayStep, Steps, Went}
use Rattle.conc_run_workers.proofs.Advancing.{after, at-work, begins, concludes-begun, finished-still, moves-at, ok-still, still, then-still}
use Rattle.conc_run_workers.proofs.Filled.{filled-let, filled-still, fills-after, fills-none, fills-quiet, fills-still, partly-event}
use Rattle.conc_run_workers.proofs.Opening.{opens-added, opens-stays, opens-still}
use Rattle.conc_run_workers.proofs.Quiet.{quiet-event, quiet-one}

-- what a resolver borrows: what the threads share, and by name what it may change
abbrev pub lent : {D E T : Type 0} → Resolver D E T → Shared × GName × GName × GName × GName × GName
lent r = (r.shared.now, r.desk.ghost_name, r.journal.ghost_name, r.spool.ghost_name, r.teller.ghost_name, r.hints.ghost_name)

-- what the disks, the teller and the hints are
abbrev pub beside-desk : {D E T : Type 0} → Resolver D E T → D × E × T × Hints
beside-desk r = (r.journal.now, r.spool.now, r.teller.now, r.hints.now)

abbrev pub disks-and-teller : {D E T : Type 0} → Resolver D E T → D × E × T
disks-and-teller r = (r.journal.now, r.spool.now, r.teller.now)

-- all that counts of it, but for what it keeps in mind
abbrev pub at-work-with : {D E T : Type 0} → Resolver D E T → DeskState × (D × E × T) × LeadPass
at-work-with r = (r.desk.now, disks-and-teller r, r.hints.now.pass)

pub loans-same : {D E T : Type 0} {old new : Resolver D E T} → lent new ≡ lent old → SameLoans old new
loans-same same = record {
  shared = λ i. (same i).0;
  desk = λ i. (same i).1;
  journal = λ i. (same i).2;
  spool = λ i. (same i).3;
  teller = λ i. (same i).4;
  hints = λ i. (same i).5;
}

loans-after : {D E T : Type 0} {old mid new : Resolver D E T} → SameLoans old mid → SameLoans mid new → SameLoans old new
loans-after first second = record {
  shared = second.shared ∙ first.shared;
  desk = second.desk ∙ first.desk;
  journal = second.journal ∙ first.journal;
  spool = second.spool ∙ first.spool;
  teller = second.teller ∙ first.teller;
  hints = second.hints ∙ first.hints;
}

-- it dismissed them, and did not begin
pub not-begun : {D E T : Type 0} {here : ℕ} {old new : Resolver D E T} → SameLoans old new → beside-desk new ≡ beside-desk old → Dismisses old.shared.now.board old.desk.now new.desk.now
    → here < old.shared.now.arrivals.expected → HasNotBegun here old new
not-begun loans same dismisses fewer = record {
  loans = loans;
  waited = record { dismisses = dismisses; fewer = fewer };
  journal = λ i. (same i).0;
  spool = λ i. (same i).1;
  teller = λ i. (same i).2;
}

module _ {D E T : Type 0} {d : DiskGhosts D} {e : DiskGhosts E} {t : TellerGhosts T} where
  -- no step
  pub none : {A : Type 0} {x : A} {r : Resolver D E T} → MayStep d e t r → IfSome (e.state r.spool.now).seen (e.state r.spool.now).may_leave → Steps d e t (Ok x) r r
  none s left = record { loans = loans-same refl; resolves = begins s.at_work left; fills = fills-none s.filled; opens = s.opens }

  -- after a step that succeeds the next one may come
  pub may-step : {A : Type 0} {x : A} {old new : Resolver D E T} → Steps d e t (Ok x) old new → MayStep d e t new
  may-step {A} {x} {old} {new} s = record {
    at_work = subst (λ (h : Shared). IsAtWork h.board (situation d e t new)) (sym s.loans.shared) (at-work s.resolves);
    filled = subst (λ (h : Shared). AreFilled h.lanes new.desk.now new.hints.now.pass) (sym s.loans.shared) s.fills.filled;
    opens = subst (λ (h : Shared). OpensWhatIsUsable h.board new.desk.now) (sym s.loans.shared) s.opens;
  }

  -- one after another
  pub both : {A B : Type 0} {x : B} {answer : Result A RunFail} {old mid new : Resolver D E T} → Steps d e t (Ok x) old mid → Steps d e t answer mid new → Steps d e t answer old new
  both {A} {B} {x} {answer} {old} {mid} {new} first second = record {
    loans = loans-after first.loans second.loans;
    resolves = after old.shared.now.board (situation d e t old) (situation d e t mid) (situation d e t new) answer first.resolves
        (subst (λ (h : Shared). Resolves h.board answer (situation d e t mid) (situation d e t new)) first.loans.shared second.resolves);
    fills = fills-after first.fills.begun_with (subst (λ (h : Shared). Fills h.lanes answer mid.desk.now new.desk.now new.hints.now.pass) first.loans.shared second.fills);
    opens = subst (λ (h : Shared). OnOk answer (OpensWhatIsUsable h.board new.desk.now)) first.loans.shared second.opens;
  }

  -- a failure that is handed on
  pub handed : {A B : Type 0} {fail : RunFail} {old new : Resolver D E T} (other : Result A RunFail) → IsErrAnd other (λ p. p ≡ fail) → Steps {A = B} d e t (Err fail) old new → Steps d e t other old new
  handed (Ok x) is s = absurd is
  handed {A} {B} {fail} {old} {new} (Err p) is s =
      subst (λ (f : RunFail). Steps {A = A} d e t (Err f) old new) (sym is) (record { loans = s.loans; resolves = s.resolves; fills = record { begun_with = s.fills.begun_with; filled = s.fills.filled }; opens = tt })

  -- one that lets no request
  pub quiet : {A : Type 0} {old new : Resolver D E T} (answer : Result A RunFail) → MayStep d e t old → SameLoans old new → new.hints.now ≡ old.hints.now
      → Resolves old.shared.now.board answer (situation d e t old) (situation d e t new) → AddsNoLet old.desk.now new.desk.now
      → OnOk answer (OpensWhatIsUsable old.shared.now.board new.desk.now) → Steps d e t answer old new
  quiet {A} {old} {new} answer before loans hints resolves adds opens = record {
    loans = loans;
    resolves = resolves;
    fills = subst (λ (h : Hints). Fills old.shared.now.lanes answer old.desk.now new.desk.now h.pass) (sym hints) (fills-quiet old.shared.now.lanes old.desk.now new.desk.now old.hints.now.pass answer before.filled adds);
    opens = opens;
  }

  -- the same of one that logs an event
  pub logs-handed : {event : Event} {fail : RunFail} {old new : Resolver D E T} (other : Result Unit RunFail) → IsErrAnd other (λ p. p ≡ fail) → Logs d e t event (Err fail) old new → Logs d e t event other old new
  logs-handed (Ok x) is l = absurd is
  logs-handed {event} {fail} {old} {new} (Err p) is l = subst (λ (f : RunFail). Logs d e t event (Err f) old new) (sym is) l

  -- an event that lets no request, and is no tick
  pub logged : {old new : Resolver D E T} (event : Event) (answer : Result Unit RunFail) → MayStep d e t old → is_resume event ≡ false → lets_of (event ∷ []) ≡ [] → tick_of event ≡ None → Logs d e t event answer old new
      → Steps d e t answer old new
  logged {old} {new} event answer before none calm still log = quiet answer before log.loans log.hints log.resolves (by answer log.adds) (opens answer log.adds) where
    opens : (answer : Result Unit RunFail) → AddsEvent event answer old.desk.now new.desk.now → OnOk answer (OpensWhatIsUsable old.shared.now.board new.desk.now)
    opens (Ok x) adds = opens-added event still adds log.switches before.opens
    opens (Err fail) adds = tt

    by : (answer : Result Unit RunFail) → AddsEvent event answer old.desk.now new.desk.now → AddsNoLet old.desk.now new.desk.now
    by (Ok x) adds = quiet-one event old.desk.now new.desk.now none calm adds
    by (Err fail) adds = quiet-event event old.desk.now new.desk.now fail none calm adds

  -- an event that was not logged, or not told
  pub unlogged : {old new : Resolver D E T} {fail : RunFail} (event : Event) → MayStep d e t old → is_resume event ≡ false → Logs d e t event (Err fail) old new → Steps {A = Unit {0}} d e t (Err fail) old new
  unlogged {old} {new} {fail} event before none log =
      let left = partly-event old.shared.now.lanes old.desk.now new.desk.now old.hints.now.pass event fail before.filled none log.adds in record {
        loans = log.loans;
        resolves = log.resolves;
        fills = subst (λ (h : Hints). Fills {T = Unit {0}} old.shared.now.lanes (Err fail) old.desk.now new.desk.now h.pass) (sym log.hints) (record { begun_with = left.1; filled = left.0 });
        opens = tt;
      }

  -- an event that was logged, and what it lets was put into the lanes
  pub let-out : {A : Type 0} {x : A} {old mid new : Resolver D E T} (event : Event) → MayStep d e t old → is_resume event ≡ false → tick_of event ≡ None → Logs d e t event (Ok tt) old mid → SameLoans mid new
      → disks-and-teller new ≡ disks-and-teller mid → StaysAt mid.shared.now.board mid.desk.now new.desk.now → IsLeadPassOf mid.shared.now.lanes new.hints.now.pass
      → puts_of new.hints.now.pass ≡ joined_after (plan_of mid.shared.now.lanes) event (puts_of mid.hints.now.pass) → Steps d e t (Ok x) old new
  let-out {A} {x} {old} {mid} {new} event before none tickless log loans same stays of put = record {
    loans = loans-after log.loans loans;
    resolves = subst (λ (z : D × E × T). Advances old.shared.now.board (situation d e t old)
        (record { desk = new.desk.now; journal = d.state z.0; spool = e.state z.1; told = t.list z.2; takes = t.takes z.2; may_lack = t.may_lack z.2 })) (sym same)
        (ok-still log.resolves (moves-at (subst (λ (h : Shared). StaysAt h.board mid.desk.now new.desk.now) log.loans.shared stays)));
    fills = record {
      begun_with = stays.same.begun_with ∙ log.adds.begun_with;
      filled = filled-let old.shared.now.lanes old.desk.now mid.desk.now new.desk.now old.hints.now.pass new.hints.now.pass event before.filled log.adds none stays.same
          (subst (λ (h : Shared). IsLeadPassOf h.lanes new.hints.now.pass) log.loans.shared of)
          (subst (λ (z : Shared × Hints). puts_of new.hints.now.pass ≡ joined_after (plan_of z.0.lanes) event (puts_of z.1.pass)) (λ i. (log.loans.shared i, log.hints i)) put);
    };
    opens = opens-stays stays (opens-added event tickless log.adds log.switches before.opens);
  }

  -- a tick that was logged, and then the places were opened and closed
  pub read : {A : Type 0} {x : A} {old mid new : Resolver D E T} (event : Event) → MayStep d e t old → is_resume event ≡ false → lets_of (event ∷ []) ≡ [] → Logs d e t event (Ok tt) old mid → SameLoans mid new
      → beside-desk new ≡ beside-desk mid → SetsPlaces mid.shared.now.board mid.desk.now new.desk.now → Steps d e t (Ok x) old new
  read {A} {x} {old} {mid} {new} event before none calm log loans same sets =
      let lanes = old.shared.now.lanes in
      let fills = subst (λ (h : Hints). Fills {T = Unit {0}} lanes (Ok tt) old.desk.now mid.desk.now h.pass) (sym log.hints)
      (fills-quiet lanes old.desk.now mid.desk.now old.hints.now.pass (Ok tt) before.filled (quiet-one event old.desk.now mid.desk.now none calm log.adds)) in record {
        loans = loans-after log.loans loans;
        resolves = subst (λ (z : D × E × T × Hints). Advances old.shared.now.board (situation d e t old)
            (record { desk = new.desk.now; journal = d.state z.0; spool = e.state z.1; told = t.list z.2; takes = t.takes z.2; may_lack = t.may_lack z.2 })) (sym same)
            (ok-still log.resolves (subst (λ (h : Shared). MovesAt h.board mid.desk.now new.desk.now) log.loans.shared sets.moves));
        fills = record {
          begun_with = sets.moves.same.begun_with ∙ fills.begun_with;
          filled = subst (λ (z : D × E × T × Hints). AreFilled lanes new.desk.now z.3.pass) (sym same) (filled-still lanes mid.desk.now new.desk.now mid.hints.now.pass sets.moves.same fills.filled);
        };
        opens = subst (λ (h : Shared). OpensWhatIsUsable h.board new.desk.now) log.loans.shared sets.opens;
      }

  -- after a step it kept something in mind
  pub noted : {A B : Type 0} {x : A} {y : B} {old mid new : Resolver D E T} → Steps d e t (Ok x) old mid → SameLoans mid new
      → at-work-with new ≡ at-work-with mid → Steps d e t (Ok y) old new
  noted {A} {B} {x} {y} {old} {mid} {new} s loans same = record {
    loans = loans-after s.loans loans;
    resolves = subst (λ (z : DeskState × (D × E × T) × LeadPass). Advances old.shared.now.board (situation d e t old)
        (record { desk = z.0; journal = d.state z.1.0; spool = e.state z.1.1; told = t.list z.1.2; takes = t.takes z.1.2; may_lack = t.may_lack z.1.2 })) (sym same) s.resolves;
    fills = record {
      begun_with = ap (λ (z : DeskState × (D × E × T) × LeadPass). z.0.begun_with) same ∙ s.fills.begun_with;
      filled = subst (λ (z : DeskState × (D × E × T) × LeadPass). AreFilled old.shared.now.lanes z.0 z.2) (sym same) s.fills.filled;
    };
    opens = subst (λ (z : DeskState × (D × E × T) × LeadPass). OpensWhatIsUsable old.shared.now.board z.0) (sym same) s.opens;
  }

  -- what was answered is not told on
  pub ok : {A B : Type 0} {x : A} {y : B} {old new : Resolver D E T} → Steps d e t (Ok x) old new → Steps d e t (Ok y) old new
  ok s = record { loans = s.loans; resolves = s.resolves; fills = record { begun_with = s.fills.begun_with; filled = s.fills.filled }; opens = s.opens }

  pub twice : {A B C : Type 0} {x : A} {y : B} {z : C} {old mid new : Resolver D E T} → Steps d e t (Ok x) old mid → Steps d e t (Ok y) mid new → Steps d e t (Ok z) old new
  twice first second = ok (both first second)

  -- a step on the board alone
  pub on-board : {old new : Resolver D E T} → MayStep d e t old → IfSome (e.state old.spool.now).seen (e.state old.spool.now).may_leave → SameLoans old new
      → beside-desk new ≡ beside-desk old
      → StaysAt old.shared.now.board old.desk.now new.desk.now → Went d e t old new
  on-board {old} {new} before left loans same stays = record {
    loans = loans;
    resolves = subst (λ (z : D × E × T × Hints). Advances old.shared.now.board (situation d e t old)
        (record { desk = new.desk.now; journal = d.state z.0; spool = e.state z.1; told = t.list z.2; takes = t.takes z.2; may_lack = t.may_lack z.2 })) (sym same) (still before.at_work left (moves-at stays));
    fills = record {
      begun_with = stays.same.begun_with;
      filled = subst (λ (z : D × E × T × Hints). AreFilled old.shared.now.lanes new.desk.now z.3.pass) (sym same) (filled-still old.shared.now.lanes old.desk.now new.desk.now old.hints.now.pass stays.same before.filled);
    };
    opens = opens-stays stays before.opens;
  }

  -- the places are opened and closed, before the first step
  pub sets-places : {old new : Resolver D E T} → MayBegin d e t old → IfSome (e.state old.spool.now).seen (e.state old.spool.now).may_leave → SameLoans old new
      → beside-desk new ≡ beside-desk old
      → SetsPlaces old.shared.now.board old.desk.now new.desk.now → Went d e t old new
  sets-places {old} {new} before left loans same sets = record {
    loans = loans;
    resolves = subst (λ (z : D × E × T × Hints). Advances old.shared.now.board (situation d e t old)
        (record { desk = new.desk.now; journal = d.state z.0; spool = e.state z.1; told = t.list z.2; takes = t.takes z.2; may_lack = t.may_lack z.2 })) (sym same) (still before.at_work left sets.moves);
    fills = record {
      begun_with = sets.moves.same.begun_with;
      filled = subst (λ (z : D × E × T × Hints). AreFilled old.shared.now.lanes new.desk.now z.3.pass) (sym same) (filled-still old.shared.now.lanes old.desk.now new.desk.now old.hints.now.pass sets.moves.same before.filled);
    };
    opens = sets.opens;
  }

  -- ---- a whole run

  -- it went on, and then dismissed the workers
  pub directs : {old mid new : Resolver D E T} (answer : Result Unit RunFail) → Steps d e t answer old mid → OnOk answer (IsFinished mid.desk.now.work) → SameLoans mid new → beside-desk new ≡ beside-desk mid
      → Dismisses mid.shared.now.board mid.desk.now new.desk.now → HasDirected d e t answer old new
  directs {old} {mid} {new} answer steps is_finished loans same dismisses =
      let ends = subst (λ (h : Shared). Dismisses h.board mid.desk.now new.desk.now) steps.loans.shared dismisses in let stays = ends.moves in record {
        loans = loans-after steps.loans loans;
        concludes = subst (λ (z : D × E × T × Hints). Concludes old.shared.now.board answer (situation d e t old)
            (record { desk = new.desk.now; journal = d.state z.0; spool = e.state z.1; told = t.list z.2; takes = t.takes z.2; may_lack = t.may_lack z.2 })) (sym same)
            (concludes-begun old.shared.now.board (situation d e t old) _ answer (then-still old.shared.now.board (situation d e t old) (situation d e t mid) new.desk.now answer steps.resolves stays ends.posts) (finished-still answer is_finished stays) (opens-still answer stays ends.same_open steps.opens) ends.dismissed);
        fills = subst (λ (z : D × E × T × Hints). Fills old.shared.now.lanes answer old.desk.now new.desk.now z.3.pass) (sym same)
            (fills-still old.shared.now.lanes old.desk.now mid.desk.now new.desk.now mid.hints.now.pass answer steps.fills stays.same);
      }
