-- What a journal alone tells, or why it tells nothing.
use Rattle.std.proofs.Common.{◌≡◌, ℕ, List, Option, None, IfSome, sym, ◌∙◌, subst}
use Rattle.std.proofs.lemmas.Option.{IfSome_then}
use Rattle.conc_types.specs.declared.digests.Digests.{Digests}
use Rattle.conc_types.specs.declared.event.Event.{Event}
use Rattle.conc_types.specs.declared.plan.Plan.{Plan}
use Rattle.conc_disk.specs.Disk.{DiskState}
use Rattle.conc_base_law.specs.Law.{LawfulSoFar}
use Rattle.conc_journal.specs.Opens.{broken_of, IsFoundIn}
use Rattle.conc_journal.specs.declared.opened.Opened.{Opened}
use Rattle.conc_run_state.specs.Handed.{IsOwnJournal}
use Rattle.conc_run_state.specs.declared.error.HistoryFail.{HistoryFail}
use Rattle.conc_run_state.specs.declared.error.HistoryFail.TheVariants as history_fail
use Rattle.conc_run_state.specs.declared.error.DiskName.TheVariants as disk_name
use Rattle.conc_run_open.specs.Refusals.{IsUnopened}
use Rattle.conc_run_open.specs.Listing.{HasListCause, IsBadEvent, IsListed, IsUnlisted}

-- the journal was not opened
pub unopened-listed : (plan : Plan) (digests : Digests) (old new : DiskState) (e : HistoryFail) → IsUnopened plan digests old new e → HasListCause plan digests old new e
unopened-listed plan digests old new history_fail.NotJournal is = is
unopened-listed plan digests old new (history_fail.OtherInput found given) is = is
unopened-listed plan digests old new (history_fail.OtherScript command found given) is = is
unopened-listed plan digests old new (history_fail.DiskFault disk_name.Journal) is = is
unopened-listed plan digests old new history_fail.NoMemory is = tt
unopened-listed plan digests old new (history_fail.Unlawful number) is = absurd is
unopened-listed plan digests old new (history_fail.JournalFull len needed) is = absurd is
unopened-listed plan digests old new (history_fail.DiskFault disk_name.Spool) is = absurd is

-- an event is bad
pub unlisted-cause : (plan : Plan) (digests : Digests) (old new : DiskState) (opened : Opened) (events : List Event) (e : HistoryFail) → IfSome old.seen (IsOwnJournal plan digests) → IfSome old.seen (λ image. IsFoundIn image opened)
    → events ≡ opened.journal.events.items → IsUnlisted plan events opened.broken e → HasListCause plan digests old new e
unlisted-cause plan digests old new opened events (history_fail.Unlawful number) own found same bad = record {
  own = own;
  bad = IfSome_then old.seen found (λ image is.
      subst (λ (l : List Event). IsBadEvent plan l (broken_of image) number) (same ∙ is.events) (subst (λ (b : Option ℕ). IsBadEvent plan events b number) is.broken bad));
}
unlisted-cause plan digests old new opened events history_fail.NoMemory own found same bad = tt
unlisted-cause plan digests old new opened events history_fail.NotJournal own found same bad = absurd bad
unlisted-cause plan digests old new opened events (history_fail.OtherInput other given) own found same bad = absurd bad
unlisted-cause plan digests old new opened events (history_fail.OtherScript command other given) own found same bad = absurd bad
unlisted-cause plan digests old new opened events (history_fail.JournalFull len needed) own found same bad = absurd bad
unlisted-cause plan digests old new opened events (history_fail.DiskFault disk) own found same bad = absurd bad

-- the events are good
pub listed : (plan : Plan) (digests : Digests) (disk : DiskState) (opened : Opened) → IfSome disk.seen (IsOwnJournal plan digests) → IfSome disk.seen (λ image. IsFoundIn image opened)
    → LawfulSoFar plan opened.journal.events.items → opened.broken ≡ None → IsListed plan digests disk opened.journal.events.items
listed plan digests disk opened own found so_far whole = record {
  so_far = so_far;
  own = own;
  whole = IfSome_then disk.seen found (λ image is. sym is.broken ∙ whole);
  events_are = IfSome_then disk.seen found (λ image is. is.events);
}
