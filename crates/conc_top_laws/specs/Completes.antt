-- What it is to say of a command that it does what it is for.
use Rattle.std.specs.Prelude.{◌≡◌, ◌⊎◌, ℕ, List, None, Some}
use Rattle.conc_types.specs.declared.event.RequestId.{RequestId}
use Rattle.conc_outside.specs.Files.{Files, Gives}
use Rattle.conc_repeat.specs.Refusing.{repeats_fault}
use Rattle.conc_run_state.specs.Disks.{Disks}
use Rattle.conc_top.specs.declared.exit.Exit.{Exit}
use Rattle.conc_top.specs.declared.exit.Exit.TheVariants as exit
use Rattle.conc_top.specs.Answers.{Around, handed_in, HasPlan, HasRun, judging_in}
use Rattle.conc_top.specs.Meaning.{Means}
use Rattle.conc_top_inputs.specs.Given.{digests_of, named}
use Rattle.conc_top_words.specs.declared.command.Command.TheVariants as command
use Rattle.conc_top_laws.specs.Accepted.{HasAccepted}
use Rattle.conc_top_laws.specs.Fitting.{FitsOutput, FitsRun, FitsStatus, HasLawfulHistory}
use Rattle.conc_top_laws.specs.Quiet.{AreQuietDisks, IsQuietAround}

-- what the command is for was done, or there was no memory
abbrev pub IsDone : Exit → Type 0
IsDone end = (end ≡ exit.Done) ⊎ (end ≡ exit.NoMemory)

-- Where the exit means what the contract of the call says, the files are accepted, no count rises, and the disks fit what the
-- files give, the command is done. A run is so with each number of threads and of watchers.
abbrev pub RunCompletes : List ℕ → List ℕ → List ℕ → ℕ → ℕ → Around → Disks → Exit → Type 0
RunCompletes setup script clock threads watchers a d end =
    Means (Some (command.Run setup script clock threads watchers)) a d end → HasAccepted a (named setup script (Some clock)) → IsQuietAround a → AreQuietDisks d
    → ((run : HasRun a (named setup script (Some clock))) → FitsRun (handed_in a (named setup script (Some clock)) d run)) → IsDone end

abbrev pub PlanCompletes : List ℕ → List ℕ → Around → Disks → Exit → Type 0
PlanCompletes setup script a d end =
    Means (Some (command.Plan setup script)) a d end → HasAccepted a (named setup script None) → IsQuietAround a → IsDone end

abbrev pub CheckCompletes : List ℕ → List ℕ → List ℕ → List ℕ → Around → Disks → Exit → Type 0
CheckCompletes setup script clock history a d end =
    Means (Some (command.Check setup script clock history)) a d end → HasAccepted a (named setup script (Some clock)) → IsQuietAround a
    → ((run : HasRun a (named setup script (Some clock))) → HasLawfulHistory (judging_in a (named setup script (Some clock)) history run)) → IsDone end

abbrev pub StatusCompletes : List ℕ → List ℕ → Around → Disks → Exit → Type 0
StatusCompletes setup script a d end =
    Means (Some (command.Status setup script)) a d end → HasAccepted a (named setup script None) → IsQuietAround a → AreQuietDisks d
    → ((p : HasPlan a (named setup script None)) → FitsStatus p.plan (digests_of p.accepted.files) d.journal_before) → IsDone end

abbrev pub OutputCompletes : List ℕ → List ℕ → RequestId → Around → Disks → Exit → Type 0
OutputCompletes setup script id a d end =
    Means (Some (command.Output setup script id)) a d end → HasAccepted a (named setup script None) → IsQuietAround a → AreQuietDisks d
    → ((p : HasPlan a (named setup script None)) → FitsOutput p.plan (digests_of p.accepted.files) id d.journal_before d.spool_before) → IsDone end

-- the file of repeats is there, and breaks no rule
pub record HasRepeats (a : Around) (name : List ℕ) : Type 0 where
  pub files : Files
  pub exposed : a.before.shelf.files ≡ Some files
  pub bytes : List ℕ
  pub given : Gives (Some files) name bytes
  pub faultless : repeats_fault bytes ≡ None

abbrev pub RepeatCompletes : List ℕ → Around → Disks → Exit → Type 0
RepeatCompletes name a d end = Means (Some (command.Repeat name)) a d end → HasRepeats a name → IsQuietAround a → IsDone end

abbrev pub MakeCompletes : ℕ → ℕ → Around → Disks → Exit → Type 0
MakeCompletes seed size a d end = Means (Some (command.Make seed size)) a d end → IsQuietAround a → IsDone end
