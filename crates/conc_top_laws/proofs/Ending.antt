-- Commands whose journal, spool or history fits, by the exit.
use Rattle.std.proofs.Common.{◌≡◌, inl, inr, ℕ, zero, suc, ◌<◌, Bool, List, [], ◌∷◌, length, take, Option, None, Some, IsFalse, refl, sym, ◌∙◌, ap, subst, arith}
use Rattle.std.specs.Prelude.{slice_get}
use Rattle.std.proofs.lemmas.Bool.{both_ways}
use Rattle.conc_types.specs.declared.digests.Digests.{Digests}
use Rattle.conc_types.specs.declared.event.Event.{Event}
use Rattle.conc_types.specs.declared.event.Extent.{Extent}
use Rattle.conc_types.specs.declared.event.RequestId.{RequestId}
use Rattle.conc_types.specs.declared.plan.Plan.{Plan}
use Rattle.conc_types.specs.declared.script.Reading.{Reading}
use Rattle.conc_disk.specs.Disk.{DiskState}
use Rattle.conc_history_check.proofs.EachPosition.{lawful_positions}
use Rattle.conc_history_check.specs.Verdicts.{BeginsWith, events_in, IsFirstOther, IsLawful, IsNotLawful, lines_behind, table_lines}
use Rattle.conc_journal.specs.Opens.{broken_of, events_of, may_open}
use Rattle.conc_base_law.proofs.Numbering.{numbered-at}
use Rattle.conc_outside.specs.Files.{Files, Gives}
use Rattle.conc_restart.proofs.ReadSoFar.{bad-not_past}
use Rattle.conc_run_laws.proofs.Crashed.{at-some, not-bad, not-closed, not-other, not-other_script, refuses-for_room}
use Rattle.conc_run_open.specs.Listing.{HasListCause, IsBadEvent}
use Rattle.conc_run_open.specs.Texts.{HasEnd, HasNoEnd}
use Rattle.conc_run_state.specs.Causes.{IsOther, IsOtherScript}
use Rattle.conc_run_state.specs.Disks.{Disks}
use Rattle.conc_run_state.specs.Handed.{Handed}
use Rattle.conc_run_state.specs.Judging.{IsBadFor, IsBadRecord}
use Rattle.conc_run_state.specs.declared.error.DiskName.TheVariants as disk_name
use Rattle.conc_run_state.specs.declared.error.HistoryFail.TheVariants as history_fail
use Rattle.conc_top.specs.declared.exit.Exit.{Exit}
use Rattle.conc_top.specs.declared.exit.Exit.TheVariants as exit
use Rattle.conc_top.specs.Checks.{CheckEnds, Judging}
use Rattle.conc_repeat.specs.Refusing.{repeats_fault}
use Rattle.conc_top.specs.Printing.{Sunk}
use Rattle.conc_top.specs.Repeats.{RepeatEnds, Repeating}
use Rattle.conc_top.specs.Runs.{RunEnds}
use Rattle.conc_top.specs.Shows.{OutputEnds, StatusEnds}
use Rattle.conc_top_laws.specs.Completes.{IsDone}
use Rattle.conc_top_laws.specs.Fitting.{FitsOutput, FitsRun, FitsStatus, HasLawfulHistory}
use Rattle.conc_top_laws.specs.Quiet.{AreQuietDisks, IsQuiet}
use Rattle.conc_top_laws.proofs.Accepting.{gives-one}

-- ---- a run

module _ (threads watchers : ℕ) (h : Handed) (sink : Sunk) (fits : FitsRun h) (journal_quiet : IsQuiet h.disks.journal_before.faults h.disks.journal_after.faults) (spool_quiet : IsQuiet h.disks.spool_before.faults h.disks.spool_after.faults)
    (sink_quiet : IsQuiet sink.before.faults sink.after.faults) where
  pub run-done : (end : Exit) → RunEnds threads watchers h sink end → IsDone end
  run-done exit.Done is = inl refl
  run-done exit.NoMemory is = inr refl
  run-done exit.WriteFault is = absurd (sink_quiet is.3)
  run-done (exit.DiskFault disk_name.Journal) is = absurd (journal_quiet is.0.cause)
  run-done (exit.DiskFault disk_name.Spool) is = absurd (spool_quiet is.0.cause.1)
  run-done exit.NotJournal is = absurd (refuses-for_room h fits.image fits.texts fits.fit fits.journal fits.spool history_fail.NotJournal is.0.cause)
  run-done (exit.OtherInput found given) is = absurd (refuses-for_room h fits.image fits.texts fits.fit fits.journal fits.spool (history_fail.OtherInput found given) is.0.cause)
  run-done (exit.OtherScript command found given) is = absurd (refuses-for_room h fits.image fits.texts fits.fit fits.journal fits.spool (history_fail.OtherScript command found given) is.0.cause)
  run-done (exit.Unlawful number) is = absurd (refuses-for_room h fits.image fits.texts fits.fit fits.journal fits.spool (history_fail.Unlawful number) is.0.cause)
  run-done (exit.JournalFull len needed) is =
      let full = refuses-for_room h fits.image fits.texts fits.fit fits.journal fits.spool (history_fail.JournalFull len needed) is.0.cause in
      absurd (omega (arith, fits.room, full.0, full.1, full.2))
  run-done exit.Usage is = absurd is
  run-done exit.ClockFault is = absurd is
  run-done (exit.Refused refusal name) is = absurd is
  run-done (exit.Absent name) is = absurd is
  run-done (exit.ReadFault name) is = absurd is
  run-done (exit.NotLawful line) is = absurd is
  run-done (exit.NotEnded number) is = absurd is

-- ---- how the requests stand

module _ (plan : Plan) (digests : Digests) (old new : DiskState) (sink : Sunk) (fits : FitsStatus plan digests old) (quiet : IsQuiet old.faults new.faults)
    (sink_quiet : IsQuiet sink.before.faults sink.after.faults) where
  listed : (number : ℕ) → HasListCause plan digests old new (history_fail.Unlawful number) → ⊥
  listed number cause =
      let bad = at-some (λ (i : List ℕ). IsBadEvent plan (events_of i) (broken_of i) number) old.seen fits.image fits.seen cause.bad in
      elim bad.bad [
        | inl broke ↦ let two : None ≡ Some number = sym fits.whole ∙ broke in cc two
        | inr first ↦ bad-not_past plan (events_of fits.image) number first fits.so_far
      ]

  pub status-done : (end : Exit) → StatusEnds plan digests old new sink end → IsDone end
  status-done exit.NotJournal is = absurd (not-closed plan digests fits.image fits.own (at-some (λ (i : List ℕ). IsFalse (may_open i)) old.seen fits.image fits.seen is.0))
  status-done (exit.OtherInput found given) is = absurd (not-other plan digests found given fits.image fits.own.own (at-some (λ (i : List ℕ). IsOther digests found given i) old.seen fits.image fits.seen is.0))
  status-done (exit.OtherScript command found given) is =
      absurd (not-other_script plan digests command found given fits.image fits.own.own (at-some (λ (i : List ℕ). IsOtherScript plan digests command found given i) old.seen fits.image fits.seen is.0))
  status-done (exit.Unlawful number) is = absurd (listed number is.0)
  status-done (exit.DiskFault disk_name.Journal) is = absurd (quiet is.0)
  status-done (exit.DiskFault disk_name.Spool) is = absurd is.0
  status-done exit.Done is = inl refl
  status-done exit.NoMemory is = inr refl
  status-done exit.WriteFault is = absurd (sink_quiet is.3)
  status-done exit.Usage is = absurd is
  status-done exit.ClockFault is = absurd is
  status-done (exit.Refused refusal name) is = absurd is
  status-done (exit.Absent name) is = absurd is
  status-done (exit.ReadFault name) is = absurd is
  status-done (exit.JournalFull len needed) is = absurd is
  status-done (exit.NotLawful line) is = absurd is
  status-done (exit.NotEnded number) is = absurd is

-- ---- a report

has-end : (list events : List Event) (id : RequestId) (x : Extent) → list ≡ events → HasEnd events id x → HasNoEnd list id → ⊥
has-end list events id x same has none = none has.position has.outcome x (ap (λ (l : List Event). slice_get l has.position) same ∙ has.there)

module _ (plan : Plan) (digests : Digests) (id : RequestId) (d : Disks) (sink : Sunk) (fits : FitsOutput plan digests id d.journal_before d.spool_before) (quiet : AreQuietDisks d)
    (sink_quiet : IsQuiet sink.before.faults sink.after.faults) where
  pub output-done : (end : Exit) → OutputEnds plan digests id d sink end → IsDone end
  output-done exit.NotJournal is = absurd (not-closed plan digests fits.image fits.fit.own (at-some (λ (i : List ℕ). IsFalse (may_open i)) d.journal_before.seen fits.image fits.journal_seen is.0))
  output-done (exit.OtherInput found given) is = absurd (not-other plan digests found given fits.image fits.fit.own.own (at-some (λ (i : List ℕ). IsOther digests found given i) d.journal_before.seen fits.image fits.journal_seen is.0))
  output-done (exit.OtherScript command found given) is =
      absurd (not-other_script plan digests command found given fits.image fits.fit.own.own (at-some (λ (i : List ℕ). IsOtherScript plan digests command found given i) d.journal_before.seen fits.image fits.journal_seen is.0))
  output-done (exit.Unlawful number) is =
      let bad = at-some (λ (i : List ℕ). IsBadFor plan d.spool_before (events_of i) (broken_of i) number) d.journal_before.seen fits.image fits.journal_seen is.0.bad in
      let long : bad.0 ≡ length fits.texts = at-some (λ (t : List ℕ). bad.0 ≡ length t) d.spool_before.seen fits.texts fits.spool_seen bad.1 in
      absurd (not-bad plan (length fits.texts) (events_of fits.image) (broken_of fits.image) number fits.fit.good
      (subst (λ (len : ℕ). IsBadRecord plan len (events_of fits.image) (broken_of fits.image) number) long bad.2))
  output-done (exit.DiskFault disk_name.Journal) is = absurd (quiet.journal is.0)
  output-done (exit.DiskFault disk_name.Spool) is = absurd (quiet.spool is.0.1)
  output-done (exit.NotEnded number) is =
      absurd (has-end is.0.events (events_of fits.image) id fits.extent (at-some (λ (i : List ℕ). is.0.events ≡ events_of i) d.journal_before.seen fits.image fits.journal_seen is.0.whole.listed.events_are) fits.ended is.0.none)
  output-done exit.Done is = inl refl
  output-done exit.NoMemory is = inr refl
  output-done exit.WriteFault is = absurd (sink_quiet is.3)
  output-done exit.Usage is = absurd is
  output-done exit.ClockFault is = absurd is
  output-done (exit.Refused refusal name) is = absurd is
  output-done (exit.Absent name) is = absurd is
  output-done (exit.ReadFault name) is = absurd is
  output-done (exit.JournalFull len needed) is = absurd is
  output-done (exit.NotLawful line) is = absurd is

-- ---- a verdict

-- an element of a beginning
take-get : {X : Type 0} (n : ℕ) (xs : List X) (i : ℕ) → i < n → slice_get (take n xs) i ≡ slice_get xs i
take-get zero xs i below = absurd (omega (arith, below))
take-get (suc n) [] i below = refl
take-get (suc n) (x ∷ xs) zero below = refl
take-get (suc n) (x ∷ xs) (suc i) below = take-get n xs i (omega (arith, below))

-- lines that begin with the table have no other one in its place
no-other : (table lines : List (List ℕ)) (number : ℕ) → BeginsWith table lines → IsFirstOther table lines number → ⊥
no-other table lines zero begins is = absurd (omega (arith, is.first))
no-other table lines (suc n) begins is =
    let there : slice_get table n ≡ slice_get lines n = ap (λ (l : List (List ℕ)). slice_get l n) (sym begins) ∙ take-get (length table) lines n (omega (arith, is.within)) in
    is.other (numbered-at lines (suc n) n (omega arith) ∙ sym there ∙ sym (numbered-at table (suc n) n (omega arith)))

not-unlawful : (plan : Plan) (readings : List Reading) (bytes : List ℕ) (events : ℕ) (finished : Bool) (line : ℕ) → IsLawful plan readings bytes events finished → IsNotLawful plan readings bytes line → ⊥
not-unlawful plan readings bytes events finished line is (inl bad) =
    both_ways _ bad.bad (lawful_positions plan readings (events_in plan bytes) is.lawful line bad.first bad.within)
not-unlawful plan readings bytes events finished line is (inr (lawful, inl bad)) = let two : None ≡ Some line = sym is.whole.whole ∙ bad in cc two
not-unlawful plan readings bytes events finished line is (inr (lawful, inr bad)) = no-other (table_lines plan bytes) (lines_behind plan bytes) bad.number is.whole.table bad.other

module _ (j : Judging) (files : Files) (exposed : j.before.files ≡ Some files) (sink : Sunk) (has : HasLawfulHistory j) (absences : IsQuiet j.before.absences j.after.absences)
    (quiet : IsQuiet j.before.faults j.after.faults) (sink_quiet : IsQuiet sink.before.faults sink.after.faults) where
  pub check-done : (end : Exit) → CheckEnds j sink end → IsDone end
  check-done (exit.NotLawful line) is =
      let good = has.2 in
      let one = subst (λ (o : Option Files). Gives o j.name good.bytes) exposed good.given in
      let other = subst (λ (o : Option Files). Gives o j.name is.0.bytes) exposed is.0.given in
      let same = gives-one files j.name is.0.bytes good.bytes other one in
      absurd (not-unlawful j.plan j.readings good.bytes has.0 has.1 line good.found_is (subst (λ (b : List ℕ). IsNotLawful j.plan j.readings b line) same is.0.found_is))
  check-done (exit.Absent name) is = absurd (absences is.0.2)
  check-done (exit.ReadFault name) is = absurd (quiet is.0.2)
  check-done exit.Done is = inl refl
  check-done exit.NoMemory is = inr refl
  check-done exit.WriteFault is = absurd (sink_quiet is.3)
  check-done exit.Usage is = absurd is
  check-done exit.ClockFault is = absurd is
  check-done (exit.Refused refusal name) is = absurd is
  check-done (exit.DiskFault disk) is = absurd is
  check-done exit.NotJournal is = absurd is
  check-done (exit.OtherInput found given) is = absurd is
  check-done (exit.OtherScript command found given) is = absurd is
  check-done (exit.JournalFull len needed) is = absurd is
  check-done (exit.Unlawful number) is = absurd is
  check-done (exit.NotEnded number) is = absurd is

-- ---- a script of repeats

module _ (r : Repeating) (files : Files) (exposed : r.before.files ≡ Some files) (bytes : List ℕ) (given : Gives (Some files) r.name bytes) (faultless : repeats_fault bytes ≡ None) (sink : Sunk)
    (absences : IsQuiet r.before.absences r.after.absences) (quiet : IsQuiet r.before.faults r.after.faults) (sink_quiet : IsQuiet sink.before.faults sink.after.faults) where
  pub repeat-done : (end : Exit) → RepeatEnds r sink end → IsDone end
  repeat-done (exit.Refused refusal name) is =
      let other = subst (λ (o : Option Files). Gives o r.name is.0.bytes) exposed is.0.given in
      let same = gives-one files r.name is.0.bytes bytes other given in
      let two : None ≡ Some (refusal.line, refusal.kind) = sym faultless ∙ (ap repeats_fault (sym same) ∙ is.0.fault.1) in cc two
  repeat-done (exit.Absent name) is = absurd (absences is.0.2)
  repeat-done (exit.ReadFault name) is = absurd (quiet is.0.2)
  repeat-done exit.Done is = inl refl
  repeat-done exit.NoMemory is = inr refl
  repeat-done exit.WriteFault is = absurd (sink_quiet is.3)
  repeat-done exit.Usage is = absurd is
  repeat-done exit.ClockFault is = absurd is
  repeat-done (exit.DiskFault disk) is = absurd is
  repeat-done exit.NotJournal is = absurd is
  repeat-done (exit.OtherInput found given) is = absurd is
  repeat-done (exit.OtherScript command found given) is = absurd is
  repeat-done (exit.JournalFull len needed) is = absurd is
  repeat-done (exit.Unlawful number) is = absurd is
  repeat-done (exit.NotLawful line) is = absurd is
  repeat-done (exit.NotEnded number) is = absurd is
