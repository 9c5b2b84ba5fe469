-- What was found on both disks, and why no life begins.
use Rattle.std.proofs.Common.{◌≡◌, ◌≤◌, inl, inr, ℕ, List, length, Option, None, Some, IfSome, refl, sym, ◌∙◌, subst, arith, le_refl}
use Rattle.std.proofs.lemmas.Option.{IfSome_then}
use Rattle.conc_types.specs.declared.event.Event.{Event}
use Rattle.conc_disk.specs.Disk.{DiskState, HasLength, Reaches}
use Rattle.conc_types.specs.declared.plan.Plan.{Plan}
use Rattle.conc_base_law.specs.Law.{LawfulSoFar}
use Rattle.conc_journal.specs.Opens.{broken_of, events_of, IsFoundIn}
use Rattle.conc_journal.specs.declared.opened.Opened.{Opened}
use Rattle.conc_run_state.specs.Causes.{HasCause, IsUnlawful}
use Rattle.conc_run_state.specs.Handed.{Handed, IsFound, IsOwnJournal}
use Rattle.conc_run_state.specs.Judging.{IsBadFor, IsBadRecord}
use Rattle.conc_run_state.specs.declared.error.HistoryFail.{HistoryFail}
use Rattle.conc_run_state.specs.declared.error.HistoryFail.TheVariants as history_fail
use Rattle.conc_run_state.specs.declared.error.DiskName.TheVariants as disk_name
use Rattle.conc_run_open.specs.Extents.{counted}
use Rattle.conc_run_open.specs.Refusals.{LacksRoom, CannotBegin, IsRefused, IsUnreadable}
use Rattle.conc_run_open.proofs.Counting.{counted-is, end-within}

-- what was found in the journal of this input
pub record HasFound (h : Handed) (opened : Opened) : Type 0 where
  pub own : IfSome h.disks.journal_before.seen (IsOwnJournal h.plan h.digests)
  pub found : IfSome h.disks.journal_before.seen (λ image. IsFoundIn image opened)

-- the events are good
pub found-good : (h : Handed) (opened : Opened) → HasFound h opened → LawfulSoFar h.plan opened.journal.events.items → opened.broken ≡ None → Reaches h.disks.spool_before (counted opened.journal.events.items) → IsFound h opened.journal.events.items
found-good h opened has so_far whole long = record {
  so_far = so_far;
  own = has.own;
  whole = IfSome_then h.disks.journal_before.seen has.found (λ image is. sym is.broken ∙ whole);
  events = IfSome_then h.disks.journal_before.seen has.found (λ image is. is.events);
  within = IfSome_then h.disks.spool_before.seen long (λ texts far. end-within h.plan (length texts) opened.journal.events.items so_far (omega (arith, far, counted-is h.plan opened.journal.events.items so_far)));
}

-- the spool reaches as far as its length, which it may expose
pub long-enough : (disk : DiskState) (n : ℕ) → Reaches disk n → (len : ℕ) × HasLength disk len × (n ≤ len)
long-enough disk n reach = go disk.seen reach
  where
    go : (seen : Option (List ℕ)) → IfSome seen (λ bytes. n ≤ length bytes) → (len : ℕ) × IfSome seen (λ bytes. len ≡ length bytes) × (n ≤ len)
    go None far = (n, tt, le_refl n)
    go (Some bytes) far = (length bytes, refl, far)

-- what is bad of the events found is so of those in the image
pub bad-in : (plan : Plan) (spool : DiskState) (opened : Opened) (image : List ℕ) (number : ℕ) → IsFoundIn image opened → IsBadFor plan spool opened.journal.events.items opened.broken number
    → IsBadFor plan spool (events_of image) (broken_of image) number
bad-in plan spool opened image number is bad = (
  bad.0,
  bad.1,
  subst (λ (l : List Event). IsBadRecord plan bad.0 l (broken_of image) number) is.events
      (subst (λ (b : Option ℕ). IsBadRecord plan bad.0 opened.journal.events.items b number) is.broken bad.2),
)

-- the first bad record
found-bad : (h : Handed) (opened : Opened) (number : ℕ) → HasFound h opened → IsBadFor h.plan h.disks.spool_before opened.journal.events.items opened.broken number → IsUnlawful h number
found-bad h opened number has bad = record {
  own = has.own;
  bad = IfSome_then h.disks.journal_before.seen has.found (λ image is. bad-in h.plan h.disks.spool_before opened image number is bad);
}

found-refused : (h : Handed) (opened : Opened) (len : ℕ) (e : HistoryFail) → HasFound h opened → HasLength h.disks.spool_before len → IsRefused h.plan len opened.journal.events.items opened.broken e → HasCause h e
found-refused h opened len (history_fail.Unlawful number) has long is = found-bad h opened number has (len, long, is)
found-refused h opened len history_fail.NoMemory has long is = tt
found-refused h opened len history_fail.NotJournal has long is = absurd is
found-refused h opened len (history_fail.OtherInput other given) has long is = absurd is
found-refused h opened len (history_fail.OtherScript command other given) has long is = absurd is
found-refused h opened len (history_fail.JournalFull n needed) has long is = absurd is
found-refused h opened len (history_fail.DiskFault disk) has long is = absurd is

-- a record is bad, where the spool is too short
pub short-unreadable : (plan : Plan) (events : List Event) (broken : Option ℕ) (old new : DiskState) (len : ℕ) (e : HistoryFail) → HasLength old len → IsRefused plan len events broken e → IsUnreadable plan events broken old new e
short-unreadable plan events broken old new len (history_fail.Unlawful number) long is = (len, long, is)
short-unreadable plan events broken old new len history_fail.NoMemory long is = tt
short-unreadable plan events broken old new len history_fail.NotJournal long is = absurd is
short-unreadable plan events broken old new len (history_fail.OtherInput other given) long is = absurd is
short-unreadable plan events broken old new len (history_fail.OtherScript command other given) long is = absurd is
short-unreadable plan events broken old new len (history_fail.JournalFull n needed) long is = absurd is
short-unreadable plan events broken old new len (history_fail.DiskFault disk) long is = absurd is

-- or it could not be read
pub found-unreadable : (h : Handed) (opened : Opened) (events : List Event) (e : HistoryFail) → HasFound h opened → events ≡ opened.journal.events.items → IsUnreadable h.plan events opened.broken h.disks.spool_before h.disks.spool_after e → HasCause h e
found-unreadable h opened events (history_fail.Unlawful number) has same is =
    found-bad h opened number has (subst (λ (l : List Event). IsBadFor h.plan h.disks.spool_before l opened.broken number) same is)
found-unreadable h opened events (history_fail.DiskFault disk_name.Spool) has same is = (has.own, is)
found-unreadable h opened events history_fail.NoMemory has same is = tt
found-unreadable h opened events history_fail.NotJournal has same is = absurd is
found-unreadable h opened events (history_fail.OtherInput other given) has same is = absurd is
found-unreadable h opened events (history_fail.OtherScript command other given) has same is = absurd is
found-unreadable h opened events (history_fail.JournalFull n needed) has same is = absurd is
found-unreadable h opened events (history_fail.DiskFault disk_name.Journal) has same is = absurd is

found-lacks_room : (h : Handed) (opened : Opened) (e : HistoryFail) → IsFound h opened.journal.events.items → LacksRoom h.plan h.readings opened.journal.events.items e → HasCause h e
found-lacks_room h opened (history_fail.JournalFull len needed) found is = record { found = opened.journal.events.items; is_found = found; len_is = is.0; needed_is = is.1; full = is.2 }
found-lacks_room h opened history_fail.NoMemory found is = tt
found-lacks_room h opened history_fail.NotJournal found is = absurd is
found-lacks_room h opened (history_fail.OtherInput other given) found is = absurd is
found-lacks_room h opened (history_fail.OtherScript command other given) found is = absurd is
found-lacks_room h opened (history_fail.Unlawful number) found is = absurd is
found-lacks_room h opened (history_fail.DiskFault disk) found is = absurd is

-- a record is bad, or there is no room, where the spool is as long as all extents
pub found-cannot_begin : (h : Handed) (opened : Opened) (e : HistoryFail) → HasFound h opened → Reaches h.disks.spool_before (counted opened.journal.events.items) → CannotBegin h.plan h.readings opened.journal.events.items opened.broken e → HasCause h e
found-cannot_begin h opened e has long (inl refused) =
    let far = long-enough h.disks.spool_before (counted opened.journal.events.items) long in
    found-refused h opened far.0 e has far.1 (refused far.0 far.2)
found-cannot_begin h opened e has long (inr good) = found-lacks_room h opened e (found-good h opened has good.so_far good.whole long) good.lacks_room
