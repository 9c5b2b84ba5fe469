-- Commands of accepted files, by the exit.
use Rattle.std.proofs.Common.{inl, inr, ℕ, List, Option, refl, subst}
use Rattle.conc_outside.specs.Files.{Files}
use Rattle.conc_top.specs.declared.exit.Exit.{Exit}
use Rattle.conc_top.specs.declared.exit.Exit.TheVariants as exit
use Rattle.conc_top.specs.Answers.{Around, IsUnplanned}
use Rattle.conc_top.specs.Printing.{Prints, Sunk}
use Rattle.conc_top_inputs.specs.Given.{Names}
use Rattle.conc_top_inputs.specs.Refusals.{IsInputRefused}
use Rattle.conc_top_laws.specs.Accepted.{HasAccepted}
use Rattle.conc_top_laws.specs.Completes.{IsDone}
use Rattle.conc_top_laws.specs.Quiet.{IsQuiet, IsQuietAround}
use Rattle.conc_top_laws.proofs.Accepting.{unrefused}

-- a text is printed
pub prints-done : (kind : List ℕ → Type 0) (sink : Sunk) (end : Exit) → Prints kind sink end → IsQuiet sink.before.faults sink.after.faults → IsDone end
prints-done kind sink exit.Done is quiet = inl refl
prints-done kind sink exit.NoMemory is quiet = inr refl
prints-done kind sink exit.WriteFault is quiet = absurd (quiet is.3)
prints-done kind sink exit.Usage is quiet = absurd is
prints-done kind sink exit.ClockFault is quiet = absurd is
prints-done kind sink (exit.Refused refusal name) is quiet = absurd is
prints-done kind sink (exit.Absent name) is quiet = absurd is
prints-done kind sink (exit.ReadFault name) is quiet = absurd is
prints-done kind sink (exit.DiskFault disk) is quiet = absurd is
prints-done kind sink exit.NotJournal is quiet = absurd is
prints-done kind sink (exit.OtherInput found given) is quiet = absurd is
prints-done kind sink (exit.OtherScript command found given) is quiet = absurd is
prints-done kind sink (exit.JournalFull len needed) is quiet = absurd is
prints-done kind sink (exit.Unlawful number) is quiet = absurd is
prints-done kind sink (exit.NotLawful line) is quiet = absurd is
prints-done kind sink (exit.NotEnded number) is quiet = absurd is

-- accepted files give a plan, but for want of memory
pub unplanned-done : (names : Names) (a : Around) (end : Exit) → IsUnplanned names a end → HasAccepted a names → IsQuietAround a → IsDone end
unplanned-done names a exit.NoMemory is has quiet = inr refl
unplanned-done names a (exit.Refused refusal name) is has quiet =
    let exposed = subst (λ (o : Option Files). IsInputRefused (record { files = o; clock_before = a.before.clock; clock_after = a.after.clock }) names refusal name) has.exposed is.0 in
    absurd (unrefused has.files a.before.clock a.after.clock names has.accepted refusal name exposed)
unplanned-done names a (exit.Absent name) is has quiet = absurd (quiet.absences is.0.counted)
unplanned-done names a (exit.ReadFault name) is has quiet = absurd (quiet.shelf is.0.counted)
unplanned-done names a exit.ClockFault is has quiet = absurd (quiet.clock is.0.silent.counted)
unplanned-done names a exit.Done is has quiet = absurd is
unplanned-done names a exit.WriteFault is has quiet = absurd is
unplanned-done names a exit.Usage is has quiet = absurd is
unplanned-done names a (exit.DiskFault disk) is has quiet = absurd is
unplanned-done names a exit.NotJournal is has quiet = absurd is
unplanned-done names a (exit.OtherInput found given) is has quiet = absurd is
unplanned-done names a (exit.OtherScript command found given) is has quiet = absurd is
unplanned-done names a (exit.JournalFull len needed) is has quiet = absurd is
unplanned-done names a (exit.Unlawful number) is has quiet = absurd is
unplanned-done names a (exit.NotLawful line) is has quiet = absurd is
unplanned-done names a (exit.NotEnded number) is has quiet = absurd is
