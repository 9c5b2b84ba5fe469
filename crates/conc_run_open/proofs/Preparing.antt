-- What a run has in hand, or why no life begins.
use Rattle.std.proofs.Common.{◌≡◌, inl, inr, ℕ, ◌≤◌, List, [], Option, None, Result, Ok, Err, IfErr, IfOk, OnOk, sym, ◌∙◌, ap, subst}
use Rattle.std.specs.Prelude.{unwrap_or}
use Rattle.conc_types.specs.declared.digests.Digests.{Digests}
use Rattle.conc_types.specs.declared.event.Event.{Event}
use Rattle.conc_types.specs.declared.plan.Plan.{Plan}
use Rattle.conc_types.specs.declared.script.Reading.{Reading}
use Rattle.conc_base_law.specs.Law.{LawfulSoFar}
use Rattle.conc_disk.specs.Disk.{DiskState, Reaches}
use Rattle.conc_disk.specs.declared.disk.Disk.{Ghosts as DiskGhosts}
use Rattle.conc_disk.specs.Left.{EachImage}
use Rattle.conc_journal.specs.Journals.{FitsState, list_of, stamps_held, state_of}
use Rattle.conc_journal.specs.Journals.{IsOn as JournalIsOn}
use Rattle.conc_journal.specs.declared.journal.Journal.{Journal}
use Rattle.conc_journal.specs.declared.journal.JournalState.{JournalState}
use Rattle.conc_journal.specs.declared.opened.Opened.{Opened}
use Rattle.conc_journal_spool.specs.Spools.{IsOn as SpoolIsOn}
use Rattle.conc_journal_spool.specs.declared.spool.Spool.{Spool}
use Rattle.conc_run_state.specs.Causes.{HasCause}
use Rattle.conc_run_state.specs.Handed.{Handed, IsFound}
use Rattle.conc_run_state.specs.Inputs.{IsBegunFor, IsOfInput}
use Rattle.conc_run_state.specs.Stores.{handed_with}
use Rattle.conc_run_state.specs.declared.error.HistoryFail.{HistoryFail}
use Rattle.conc_run_state.specs.declared.input.Input.{Input}
use Rattle.conc_run_open.specs.declared.examining.Examined.{Examined}
use Rattle.conc_run_open.specs.Examined.{digests_held, IsExamined, IsInHand, IsReady, MayBegin, MayStart, readings_held}
use Rattle.conc_run_open.specs.Extents.{counted}
use Rattle.conc_run_open.specs.Refusals.{LacksRoom, CannotBegin, IsRefused}
use Rattle.conc_run_open.proofs.Finding.{found-good, found-cannot_begin, HasFound}

-- a record is bad, of the same events
pub cannot_begin-bad : (plan : Plan) (readings : List Reading) (events read : List Event) (broken : Option ℕ) (e : HistoryFail) → read ≡ events → ((len : ℕ) → counted read ≤ len → IsRefused plan len read broken e)
    → CannotBegin plan readings events broken e
cannot_begin-bad plan readings events read broken e same refused =
    subst (λ (l : List Event). CannotBegin plan readings l broken e) same (inl refused)

-- there is no room behind the same events
pub cannot_begin-full : (plan : Plan) (readings : List Reading) (events read : List Event) (broken : Option ℕ) (e : HistoryFail) → read ≡ events → LawfulSoFar plan read → broken ≡ None → LacksRoom plan readings events e
    → CannotBegin plan readings events broken e
cannot_begin-full plan readings events read broken e same so_far whole lacks_room = inr (record {
  so_far = subst (LawfulSoFar plan) same so_far;
  whole = whole;
  lacks_room = lacks_room;
})

-- why nothing is in hand
pub prepared-cause : (h : Handed) (opened : Opened) (r : Result Examined HistoryFail) → HasFound h opened → Reaches h.disks.spool_before (counted opened.journal.events.items)
    → IfErr r (CannotBegin h.plan h.readings opened.journal.events.items opened.broken) → IfErr r (HasCause h)
prepared-cause h opened (Ok examined) has long cannot_begin = tt
prepared-cause h opened (Err e) has long cannot_begin = found-cannot_begin h opened e has long cannot_begin

-- a journal with the same state, list and stamps is of the same input
pub begun-same : (plan : Plan) (digests : Digests) (one other : Journal) → state_of other ≡ state_of one → list_of other ≡ list_of one → stamps_held other ≡ stamps_held one → IsBegunFor plan digests one → IsBegunFor plan digests other
begun-same plan digests one other state list stamps is = record {
  label = is.label;
  state = state ∙ is.state;
  of_input = subst (λ (l : List Event). IsOfInput plan digests is.label l (stamps_held other)) (sym list) (subst (λ (s : List ℕ). IsOfInput plan digests is.label (list_of one) s) (sym stamps) is.of_input);
}

start-same : (plan : Plan) (digests : Digests) (one other : Journal) → state_of other ≡ state_of one → list_of other ≡ list_of one → stamps_held other ≡ stamps_held one → MayStart plan digests one → MayStart plan digests other
start-same plan digests one other state list stamps (inl none) = inl (state ∙ none)
start-same plan digests one other state list stamps (inr begun) = inr (begun-same plan digests one other state list stamps begun)

-- and on the same disk
on-same : (one other : Journal) (disk : DiskState) → state_of other ≡ state_of one → list_of other ≡ list_of one → stamps_held other ≡ stamps_held one → JournalIsOn one disk → JournalIsOn other disk
on-same one other disk state list stamps on =
    subst (λ (s : JournalState). EachImage (FitsState s (stamps_held other) (list_of other)) disk) (sym state)
    (subst (λ (l : List Event). EachImage (FitsState (state_of one) (stamps_held other) l) disk) (sym list) (subst (λ (s : List ℕ). EachImage (FitsState (state_of one) s (list_of one)) disk) (sym stamps) on))

-- what is in hand is what was found
pub prepared : (h : Handed) (opened : Opened) (spool : Spool) (r : Result Examined HistoryFail) → HasFound h opened → Reaches h.disks.spool_before (counted opened.journal.events.items)
    → (opened.broken ≡ None → JournalIsOn opened.journal h.disks.journal_after) → (opened.broken ≡ None → MayStart h.plan h.digests opened.journal) → SpoolIsOn spool h.disks.spool_after
    → IfOk r (IsReady h.plan h.readings) → IfOk r (λ examined. list_of examined.journal ≡ list_of opened.journal) → IfOk r (λ examined. stamps_held examined.journal ≡ stamps_held opened.journal)
    → IfOk r (λ examined. state_of examined.journal ≡ state_of opened.journal) → IfOk r (λ examined. examined.spool ≡ spool) → OnOk r (opened.broken ≡ None) → IfOk r (IsExamined h)
prepared h opened spool (Err e) has long on state spool_on ready list_is stamps_are state_is spool_is whole = tt
prepared h opened spool (Ok examined) has long on state spool_on ready list_is stamps_are state_is spool_is whole =
    let so_far : LawfulSoFar h.plan opened.journal.events.items = subst (LawfulSoFar h.plan) list_is ready.so_far in
    record {
      found = subst (IsFound h) (sym list_is) (found-good h opened has so_far whole long);
      may_begin = record {
        ready = ready;
        state = start-same h.plan h.digests opened.journal examined.journal state_is list_is stamps_are (state whole);
        journal_on = on-same opened.journal examined.journal h.disks.journal_after state_is list_is stamps_are (on whole);
        spool_on = subst (λ (s : Spool). SpoolIsOn s h.disks.spool_after) (sym spool_is) spool_on;
      };
    }

-- what may begin may do so by the plan and the readings that the machine has
in-hand : (plan : Plan) (readings : List Reading) (digests : Digests) (examined : Examined) (journal spool : DiskState) → digests_held examined ≡ digests → MayBegin plan readings digests examined journal spool → IsInHand examined journal spool
in-hand plan readings digests examined journal spool same may =
    let known : readings_held examined ≡ readings = ap (λ (o : Option (List Reading)). unwrap_or o []) may.ready.readings_are in
    subst (λ (p : Plan). MayBegin p (readings_held examined) (digests_held examined) examined journal spool) (sym may.ready.plan_is)
    (subst (λ (l : List Reading). MayBegin plan l (digests_held examined) examined journal spool) (sym known)
    (subst (λ (d : Digests). MayBegin plan readings d examined journal spool) (sym same) may))

pub prepared-in_hand : {D E : Type 0} (d : DiskGhosts D) (e : DiskGhosts E) (input : Input) (journal journal' : D) (spool spool' : E) (r : Result Examined HistoryFail) → IfOk r (λ examined. examined.input ≡ input)
    → IfOk r (IsExamined (handed_with d e input journal journal' spool spool')) → IfOk r (λ examined. IsInHand examined (d.state journal') (e.state spool'))
prepared-in_hand d e input journal journal' spool spool' (Err fail) same found = tt
prepared-in_hand d e input journal journal' spool spool' (Ok examined) same found =
    in-hand input.plan.now input.readings.now.list input.digests.now examined (d.state journal') (e.state spool') (ap (λ (i : Input). i.digests.now) same) found.may_begin
