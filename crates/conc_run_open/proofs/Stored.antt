-- What is read of a report's text, or why none is.
use Rattle.std.proofs.Common.{◌≡◌, inl, inr, ℕ, ◌+◌, ◌≤◌, List, length, take, drop, Option, None, IfSome, ◌∙◌, subst, arith, le_refl}
use Rattle.std.proofs.lemmas.Option.{IfSome_then}
use Rattle.conc_types.specs.declared.digests.Digests.{Digests}
use Rattle.conc_types.specs.declared.event.Event.{Event}
use Rattle.conc_types.specs.declared.event.Extent.{Extent}
use Rattle.conc_types.specs.declared.event.RequestId.{RequestId}
use Rattle.conc_types.specs.declared.plan.Plan.{Plan}
use Rattle.conc_outside.specs.Counts.{Rose}
use Rattle.conc_disk.specs.Disk.{DiskState, HasAt, Reaches, Stays}
use Rattle.conc_disk.specs.Left.{LeavesOnly}
use Rattle.conc_disk.proofs.Leaving.{leaves-twice}
use Rattle.conc_base_law.specs.Law.{LawfulSoFar}
use Rattle.conc_journal.specs.Opens.{IsFoundIn}
use Rattle.conc_journal.specs.declared.opened.Opened.{Opened}
use Rattle.conc_run_state.specs.Disks.{AreUntouched, Disks, disks}
use Rattle.conc_run_state.specs.Handed.{IsOwnJournal}
use Rattle.conc_run_state.specs.Judging.{IsBadFor}
use Rattle.conc_run_state.specs.declared.error.HistoryFail.{HistoryFail}
use Rattle.conc_run_state.specs.declared.error.HistoryFail.TheVariants as history_fail
use Rattle.conc_run_state.specs.declared.error.DiskName.TheVariants as disk_name
use Rattle.conc_run_open.specs.Extents.{counted}
use Rattle.conc_run_open.specs.Refusals.{IsRefused, IsUnopened, IsUnreadable}
use Rattle.conc_run_open.specs.Texts.{AreWhole, HasEnd, HasReadCause}
use Rattle.conc_run_open.proofs.Counting.{counted-is, end-within}
use Rattle.conc_run_open.proofs.Finding.{bad-in, long-enough}
use Rattle.conc_run_open.proofs.Listed.{listed}
use Rattle.conc_run_open.proofs.Surviving.{left-wider}

-- ---- why none is read

-- the journal was not opened
pub unopened-read : (plan : Plan) (digests : Digests) (d : Disks) (e : HistoryFail) → IsUnopened plan digests d.journal_before d.journal_after e → HasReadCause plan digests d e
unopened-read plan digests d history_fail.NotJournal is = is
unopened-read plan digests d (history_fail.OtherInput found given) is = is
unopened-read plan digests d (history_fail.OtherScript command found given) is = is
unopened-read plan digests d (history_fail.DiskFault disk_name.Journal) is = is
unopened-read plan digests d history_fail.NoMemory is = tt
unopened-read plan digests d (history_fail.Unlawful number) is = absurd is
unopened-read plan digests d (history_fail.JournalFull len needed) is = absurd is
unopened-read plan digests d (history_fail.DiskFault disk_name.Spool) is = absurd is

-- a record is bad, or the spool could not be read
pub unreadable-read : (plan : Plan) (digests : Digests) (d : Disks) (opened : Opened) (events : List Event) (e : HistoryFail) → IfSome d.journal_before.seen (IsOwnJournal plan digests)
    → IfSome d.journal_before.seen (λ image. IsFoundIn image opened) → events ≡ opened.journal.events.items → IsUnreadable plan events opened.broken d.spool_before d.spool_after e → HasReadCause plan digests d e
unreadable-read plan digests d opened events (history_fail.Unlawful number) own found same bad = record {
  own = own;
  bad = IfSome_then d.journal_before.seen found (λ image is.
      bad-in plan d.spool_before opened image number is (subst (λ (l : List Event). IsBadFor plan d.spool_before l opened.broken number) same bad));
}
unreadable-read plan digests d opened events (history_fail.DiskFault disk_name.Spool) own found same bad = (own, bad)
unreadable-read plan digests d opened events history_fail.NoMemory own found same bad = tt
unreadable-read plan digests d opened events history_fail.NotJournal own found same bad = absurd bad
unreadable-read plan digests d opened events (history_fail.OtherInput other given) own found same bad = absurd bad
unreadable-read plan digests d opened events (history_fail.OtherScript command other given) own found same bad = absurd bad
unreadable-read plan digests d opened events (history_fail.JournalFull len needed) own found same bad = absurd bad
unreadable-read plan digests d opened events (history_fail.DiskFault disk_name.Journal) own found same bad = absurd bad

-- a record is bad, where the spool has all extents
pub refused-unreadable : (plan : Plan) (events : List Event) (broken : Option ℕ) (old new : DiskState) (e : HistoryFail) → Reaches old (counted events) → ((len : ℕ) → counted events ≤ len → IsRefused plan len events broken e)
    → IsUnreadable plan events broken old new e
refused-unreadable plan events broken old new (history_fail.Unlawful number) long refused = let far = long-enough old (counted events) long in (far.0, far.1, refused far.0 far.2)
refused-unreadable plan events broken old new history_fail.NoMemory long refused = tt
refused-unreadable plan events broken old new history_fail.NotJournal long refused = absurd (refused (counted events) (le_refl (counted events)))
refused-unreadable plan events broken old new (history_fail.OtherInput other given) long refused = absurd (refused (counted events) (le_refl (counted events)))
refused-unreadable plan events broken old new (history_fail.OtherScript command other given) long refused = absurd (refused (counted events) (le_refl (counted events)))
refused-unreadable plan events broken old new (history_fail.JournalFull len needed) long refused = absurd (refused (counted events) (le_refl (counted events)))
refused-unreadable plan events broken old new (history_fail.DiskFault disk) long refused = absurd (refused (counted events) (le_refl (counted events)))

-- ---- what is found

-- the events are good, and the spool has their extents
pub whole-read : (plan : Plan) (digests : Digests) (journal spool : DiskState) (opened : Opened) → IfSome journal.seen (IsOwnJournal plan digests) → IfSome journal.seen (λ image. IsFoundIn image opened)
    → Reaches spool (counted opened.journal.events.items) → LawfulSoFar plan opened.journal.events.items → opened.broken ≡ None → AreWhole plan digests journal spool opened.journal.events.items
whole-read plan digests journal spool opened own found long so_far whole = record {
  listed = listed plan digests journal opened own found so_far whole;
  within = IfSome_then spool.seen long (λ texts far. end-within plan (length texts) opened.journal.events.items so_far (omega (arith, far, counted-is plan opened.journal.events.items so_far)));
}

-- an end's extent lies within the texts
pub read-within : (plan : Plan) (events : List Event) (id : RequestId) (x : Extent) (used : ℕ) → LawfulSoFar plan events → used ≡ counted events → HasEnd events id x → x.offset + x.length ≤ used
read-within plan events id x used so_far is ended =
    let all = counted-is plan events so_far in
    let ends = end-within plan (counted events) events so_far (omega (arith, all)) ended.position id ended.outcome x ended.there in
    omega (arith, ends, is)

-- ---- the spool's disk, where it is opened and then read

stays-twice : (old mid new : DiskState) → Stays old mid → Stays mid new → Stays old new
stays-twice old mid new first second = record {
  seen = second.seen ∙ first.seen;
  images = λ c is. first.images c (second.images c is);
}

survives-twice : (old mid new : DiskState) → Stays old mid → LeavesOnly old.may_leave old mid → LeavesOnly mid.may_leave mid new → LeavesOnly old.may_leave old new
survives-twice old mid new stays first second = leaves-twice old.may_leave old mid new first (left-wider mid.may_leave old.may_leave mid new stays.images second)

-- nothing is written to either disk
pub untouched-twice : (journal journal' spool mid spool' : DiskState) → Stays journal journal' → LeavesOnly journal.may_leave journal journal' → Stays spool mid → LeavesOnly spool.may_leave spool mid → Stays mid spool'
    → LeavesOnly mid.may_leave mid spool' → AreUntouched (disks journal journal' spool spool')
untouched-twice journal journal' spool mid spool' stays survives first first-survives second second-survives = record {
  journal = stays;
  journal_survives = survives;
  spool = stays-twice spool mid spool' first second;
  spool_survives = survives-twice spool mid spool' first first-survives second-survives;
}

pub rose-later : (first mid last : ℕ) → first ≤ mid → Rose mid last → Rose first last
rose-later first mid last before (inl rose) = inl (omega (arith, rose, before))
rose-later first mid last before (inr full) = inr full

pub text-before : (old mid : DiskState) (at : ℕ) (text : List ℕ) → Stays old mid → HasAt mid at text → HasAt old at text
text-before old mid at text stays here = subst (λ (s : Option (List ℕ)). IfSome s (λ bytes. text ≡ take (length text) (drop at bytes))) stays.seen here
