-- What a whole call means, from what its parts mean.
use Rattle.std.proofs.Common.{◌≡◌, ◌≤◌, ℕ, List, None, Option, Some, Result, Ok, Err, refl, subst, sym, inl, inr, le_refl, arith}
use Rattle.std.specs.Result.{IsErrAnd}
use Rattle.conc_types.specs.declared.plan.Plan.{Plan}
use Rattle.conc_types.specs.declared.script.Reading.{Reading}
use Rattle.conc_disk.specs.Disk.{DiskState, Stays}
use Rattle.conc_disk.specs.Left.{LeavesOnly}
use Rattle.conc_top_inputs.specs.Fails.{IsThere, IsUnread, FailsWith}
use Rattle.conc_top_inputs.specs.Given.{named, Names}
use Rattle.conc_top_inputs.specs.declared.error.InputFail.{InputFail}
use Rattle.conc_top_inputs.specs.declared.error.InputFail.TheVariants as input
use Rattle.conc_outside.specs.Counts.{Rose}
use Rattle.conc_outside.specs.Files.{Gives, IsLater, Lacks, ShelfState}
use Rattle.conc_history_check.specs.declared.verdict.Verdict.{Verdict}
use Rattle.conc_history_check.specs.declared.verdict.Verdict.TheVariants as verdict
use Rattle.conc_run_state.specs.Disks.{AreUntouched, Disks, disks}
use Rattle.conc_top.specs.declared.exit.Exit.{Exit}
use Rattle.conc_top.specs.declared.exit.Exit.TheVariants as exit
use Rattle.conc_top.specs.Answers.{AnswersRun, Around, IsUnplanned}
use Rattle.conc_top.specs.Checks.{CheckEnds, IsJudged, IsVerdictText}
use Rattle.conc_top.specs.Meaning.{GivesNoCommand, IsPlain, Means, MeansRun}
use Rattle.conc_top.specs.Printing.{Sunk, TookNothing}
use Rattle.conc_top.specs.Shows.{IsDiskUntouched}
use Rattle.conc_top.specs.Ways.{exit_for_input, exit_of}
use Rattle.conc_top_words.specs.declared.command.Command.{Command}
use Rattle.conc_top_words.specs.declared.command.Command.TheVariants as command

-- ---- disks that no call touched

stays-as : (disk : DiskState) → Stays disk disk
stays-as disk = record { seen = refl; images = λ c left. left }

leaves-as : (exposed : Option (List ℕ)) (disk : DiskState) → disk.seen ≡ exposed → LeavesOnly disk.may_leave disk disk
leaves-as None disk is = record {
  faults = le_refl disk.faults;
  moment = le_refl disk.moment;
  exposes = refl;
  earlier_stay = λ t c before left. left;
  nothing_else = rw is tt;
}
leaves-as (Some bytes) disk is = record {
  faults = le_refl disk.faults;
  moment = le_refl disk.moment;
  exposes = refl;
  earlier_stay = λ t c before left. left;
  nothing_else = rw is (λ t c before left. inl left);
}

pub untouched : (journal spool : DiskState) → AreUntouched (disks journal journal spool spool)
untouched journal spool = record {
  journal = stays-as journal;
  journal_survives = leaves-as journal.seen journal refl;
  spool = stays-as spool;
  spool_survives = leaves-as spool.seen spool refl;
}

pub untouched-beside : (old new spool : DiskState) → IsDiskUntouched old new → AreUntouched (disks old new spool spool)
untouched-beside old new spool journal = record {
  journal = journal.stays;
  journal_survives = journal.survives;
  spool = stays-as spool;
  spool_survives = leaves-as spool.seen spool refl;
}

-- ---- exits

-- what holds of a failure holds of the exit of an answer that hands it on
pub handed : (P : Exit → Type 0) (answer : Result (Unit {0}) Exit) (end : Exit) → IsErrAnd answer (λ e. e ≡ end) → P end → P (exit_of answer)
handed P (Ok done) end is holds = absurd is
handed P (Err e) end is holds = subst P (sym is) holds

-- files that give no plan
pub unplanned : (names : Names) (a : Around) (fail : InputFail) → FailsWith a.before a.after names fail → TookNothing a.sink
    → IsUnplanned names a (exit_for_input fail)
unplanned names a (input.Refused refusal name) stops nothing = (stops, nothing)
unplanned names a (input.Absent name) stops nothing = (stops, nothing)
unplanned names a (input.ReadFault name) stops nothing = (stops, nothing)
unplanned names a input.ClockFault stops nothing = (stops, nothing)
unplanned names a input.NoMemory stops nothing = nothing

judged-earlier : (plan : Plan) (readings : List Reading) (name : List ℕ) (old mid new : ShelfState) (found : Verdict) → IsLater old mid
    → IsJudged (record { plan = plan; readings = readings; name = name; before = mid; after = new }) found
    → IsJudged (record { plan = plan; readings = readings; name = name; before = old; after = new }) found
judged-earlier plan readings name old mid new found later h =
    record { bytes = h.bytes; given = subst (λ files. Gives files name h.bytes) later.files h.given; found_is = h.found_is }

text-earlier : (plan : Plan) (readings : List Reading) (name : List ℕ) (old mid new : ShelfState) (text : List ℕ) → IsLater old mid
    → IsVerdictText (record { plan = plan; readings = readings; name = name; before = mid; after = new }) text
    → IsVerdictText (record { plan = plan; readings = readings; name = name; before = old; after = new }) text
text-earlier plan readings name old mid new text later h = record {
  events = h.events;
  finished = h.finished;
  judged = judged-earlier plan readings name old mid new (verdict.Lawful h.events h.finished) later h.judged;
  text_is = h.text_is;
}

-- a count that rose late rose in all
rose-wider : (a b c : ℕ) → a ≤ b → Rose b c → Rose a c
rose-wider a b c h (inl rose) = inl (omega (arith, h, rose))
rose-wider a b c h (inr end) = inr end

unread-earlier : (old mid new : ShelfState) (name : List ℕ) (fail : InputFail) → IsLater old mid → IsUnread mid new name fail → IsUnread old new name fail
unread-earlier old mid new name (input.Absent which) later h =
    (h.0, subst (λ files. Lacks files name) later.files h.1, rose-wider old.absences mid.absences new.absences later.absences h.2)
unread-earlier old mid new name (input.ReadFault which) later h =
    (h.0, subst (λ files. IsThere files name) later.files h.1, rose-wider old.faults mid.faults new.faults later.faults h.2)
unread-earlier old mid new name input.NoMemory later h = h
unread-earlier old mid new name input.ClockFault later h = absurd h
unread-earlier old mid new name (input.Refused refusal which) later h = absurd h

-- a check, also as seen from before the other files were read
pub check-earlier : (plan : Plan) (readings : List Reading) (name : List ℕ) (old mid new : ShelfState) (sink : Sunk) (end : Exit) → IsLater old mid
    → CheckEnds (record { plan = plan; readings = readings; name = name; before = mid; after = new }) sink end
    → CheckEnds (record { plan = plan; readings = readings; name = name; before = old; after = new }) sink end
check-earlier plan readings name old mid new sink (exit.NotLawful line) later h =
    (judged-earlier plan readings name old mid new (verdict.NotLawful line) later h.0, h.1)
check-earlier plan readings name old mid new sink (exit.Absent which) later h = (unread-earlier old mid new name (input.Absent which) later h.0, h.1)
check-earlier plan readings name old mid new sink (exit.ReadFault which) later h = (unread-earlier old mid new name (input.ReadFault which) later h.0, h.1)
check-earlier plan readings name old mid new sink exit.Done later h = (h.0, text-earlier plan readings name old mid new h.0 later h.1, h.2)
check-earlier plan readings name old mid new sink exit.WriteFault later h = (h.0, text-earlier plan readings name old mid new h.0 later h.1, h.2, h.3)
check-earlier plan readings name old mid new sink exit.NoMemory later h = h
check-earlier plan readings name old mid new sink exit.Usage later h = absurd h
check-earlier plan readings name old mid new sink exit.ClockFault later h = absurd h
check-earlier plan readings name old mid new sink (exit.Refused refusal which) later h = absurd h
check-earlier plan readings name old mid new sink (exit.DiskFault disk) later h = absurd h
check-earlier plan readings name old mid new sink exit.NotJournal later h = absurd h
check-earlier plan readings name old mid new sink (exit.OtherInput found given) later h = absurd h
check-earlier plan readings name old mid new sink (exit.JournalFull len needed) later h = absurd h
check-earlier plan readings name old mid new sink (exit.Unlawful number) later h = absurd h
check-earlier plan readings name old mid new sink (exit.NotEnded number) later h = absurd h
check-earlier plan readings name old mid new sink (exit.OtherScript command found given) later h = absurd h

-- ---- any command

-- no memory to read the words
pub no-memory : (asked : Option Command) (a : Around) (d : Disks) → TookNothing a.sink → AreUntouched d → Means asked a d exit.NoMemory
no-memory None a d nothing left = (nothing, left)
no-memory (Some (command.Run setup script clock threads watchers)) a d nothing left = inr (nothing, left)
no-memory (Some (command.Plan setup script)) a d nothing left = (inr nothing, left)
no-memory (Some (command.Check setup script clock history)) a d nothing left = (inr nothing, left)
no-memory (Some (command.Status setup script)) a d nothing left = (inr nothing, left)
no-memory (Some (command.Output setup script request)) a d nothing left = (inr nothing, left)
no-memory (Some (command.Make seed size)) a d nothing left = (nothing, left)
no-memory (Some (command.Repeat repeats)) a d nothing left = (nothing, left)

-- words that give no command
pub no-command : (asked : Option Command) (a : Around) (d : Disks) (end : Exit) → GivesNoCommand asked end → TookNothing a.sink → AreUntouched d → Means asked a d end
no-command asked a d exit.Usage none nothing left = subst (λ o. Means o a d exit.Usage) (sym none) (nothing, left)
no-command asked a d exit.NoMemory none nothing left = no-memory asked a d nothing left
no-command asked a d exit.Done none nothing left = absurd none
no-command asked a d exit.WriteFault none nothing left = absurd none
no-command asked a d exit.ClockFault none nothing left = absurd none
no-command asked a d (exit.Refused refusal name) none nothing left = absurd none
no-command asked a d (exit.Absent name) none nothing left = absurd none
no-command asked a d (exit.ReadFault name) none nothing left = absurd none
no-command asked a d (exit.DiskFault disk) none nothing left = absurd none
no-command asked a d exit.NotJournal none nothing left = absurd none
no-command asked a d (exit.OtherInput found given) none nothing left = absurd none
no-command asked a d (exit.OtherScript command found given) none nothing left = absurd none
no-command asked a d (exit.JournalFull len needed) none nothing left = absurd none
no-command asked a d (exit.Unlawful number) none nothing left = absurd none
no-command asked a d (exit.NotLawful line) none nothing left = absurd none
no-command asked a d (exit.NotEnded number) none nothing left = absurd none

-- a run that is asked for without threads and watchers
pub plain-run : (setup script clock : List ℕ) (threads watchers : ℕ) (asked : Option Command) (a : Around) (d : Disks) (end : Exit) → Some (command.Run setup script clock threads watchers) ≡ asked → IsPlain asked
    → AnswersRun 0 0 (named setup script (Some clock)) a d end → MeansRun asked a d end
plain-run setup script clock threads watchers asked a d end is plain answers =
    let none : (threads ≡ 0) × (watchers ≡ 0) = subst IsPlain (sym is) plain in
    let names = named setup script (Some clock) in
    subst (λ o. MeansRun o a d end) is (subst (λ n. AnswersRun n watchers names a d end) (sym none.0) (subst (λ w. AnswersRun 0 w names a d end) (sym none.1) answers))
