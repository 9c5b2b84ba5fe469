-- What each command answers.
use Rattle.std.specs.Prelude.{◌≡◌, ◌⊎◌, ℕ, List, None, Some}
use Rattle.conc_edge_clock.specs.Clocks.{ClockState}
use Rattle.conc_types.specs.declared.event.RequestId.{RequestId}
use Rattle.conc_types.specs.declared.plan.Plan.{Plan}
use Rattle.conc_types.specs.declared.script.Readings.{Readings}
use Rattle.conc_disk.specs.Disk.{DiskState}
pub use Rattle.conc_run_make.specs.Summary.{IsSummary}
use Rattle.conc_history.specs.Listing.{listing}
use Rattle.conc_top_inputs.specs.Fails.{FailsWith}
use Rattle.conc_top_inputs.specs.Given.{Accepts, digests_of, Names, Sources, sources, Exposed, exposed_by}
use Rattle.conc_top_inputs.specs.declared.error.InputFail.TheVariants as input
use Rattle.conc_outside.specs.Files.{ShelfState}
use Rattle.conc_run_state.specs.Disks.{AreUntouched, Disks}
use Rattle.conc_run_state.specs.Handed.{Handed}
use Rattle.conc_top.specs.declared.exit.Exit.{Exit}
use Rattle.conc_top.specs.declared.exit.Exit.TheVariants as exit
use Rattle.conc_top.specs.Checks.{CheckEnds, Judging}
use Rattle.conc_top.specs.Printing.{Prints, Sunk, TookNothing}
use Rattle.conc_top.specs.Repeats.{RepeatEnds}
use Rattle.conc_top.specs.Runs.{RunEnds}
use Rattle.conc_top.specs.Shows.{OutputEnds, StatusEnds}

-- what surrounds a command: before and after it the shelf and the clock, and the sink
pub record Around : Type 0 where
  pub before : Sources
  pub after : Sources
  pub sink : Sunk

abbrev pub around : ShelfState → ShelfState → ClockState → ClockState → Sunk → Around
around shelf shelf' clock clock' sink = record { before = sources shelf clock; after = sources shelf' clock'; sink = sink }

abbrev pub exposed_in : Around → Exposed
exposed_in a = exposed_by a.before a.after

-- ---- files that give no plan

-- the reading of the files with these names ended so, and nothing was written
abbrev pub IsUnplanned : Names → Around → Exit → Type 0
IsUnplanned names a (exit.Refused refusal name) = FailsWith a.before a.after names (input.Refused refusal name) × TookNothing a.sink
IsUnplanned names a (exit.Absent name) = FailsWith a.before a.after names (input.Absent name) × TookNothing a.sink
IsUnplanned names a (exit.ReadFault name) = FailsWith a.before a.after names (input.ReadFault name) × TookNothing a.sink
IsUnplanned names a exit.ClockFault = FailsWith a.before a.after names input.ClockFault × TookNothing a.sink
IsUnplanned names a exit.NoMemory = TookNothing a.sink
IsUnplanned names a _ = ⊥

-- ---- files that give a plan

-- the plan that the files with these names give
pub record HasPlan (a : Around) (names : Names) : Type 0 where
  pub plan : Plan
  pub accepted : Accepts (exposed_in a) names plan None

-- the same, and the readings of their clock
pub record HasRun (a : Around) (names : Names) : Type 0 where
  pub plan : Plan
  pub readings : Readings
  pub accepted : Accepts (exposed_in a) names plan (Some readings)

-- what a run of them is handed
abbrev pub handed_in : (a : Around) (names : Names) → Disks → HasRun a names → Handed
handed_in a names d run = record {
  plan = run.plan;
  readings = run.readings.list;
  digests = digests_of run.accepted.files;
  disks = d;
}

-- what a check of a history under a name is handed
abbrev pub judging_in : (a : Around) (names : Names) → List ℕ → HasRun a names → Judging
judging_in a names history run = record {
  plan = run.plan;
  readings = run.readings.list;
  name = history;
  before = a.before.shelf;
  after = a.after.shelf;
}

-- ---- commands

-- with so many threads and watchers
abbrev pub AnswersRun : ℕ → ℕ → Names → Around → Disks → Exit → Type 0
AnswersRun threads watchers names a d end =
    ((run : HasRun a names) × RunEnds threads watchers (handed_in a names d run) a.sink end) ⊎ (IsUnplanned names a end × AreUntouched d)

abbrev pub AnswersPlan : Names → Around → Exit → Type 0
AnswersPlan names a end = ((p : HasPlan a names) × Prints (λ text. text ≡ listing p.plan) a.sink end) ⊎ IsUnplanned names a end

abbrev pub AnswersCheck : Names → List ℕ → Around → Exit → Type 0
AnswersCheck names history a end =
    ((run : HasRun a names) × CheckEnds (judging_in a names history run) a.sink end) ⊎ IsUnplanned names a end

abbrev pub AnswersStatus : Names → Around → DiskState → DiskState → Exit → Type 0
AnswersStatus names a old new end =
    ((p : HasPlan a names) × StatusEnds p.plan (digests_of p.accepted.files) old new a.sink end) ⊎ IsUnplanned names a end

abbrev pub AnswersOutput : Names → RequestId → Around → Disks → Exit → Type 0
AnswersOutput names id a d end =
    ((p : HasPlan a names) × OutputEnds p.plan (digests_of p.accepted.files) id d a.sink end) ⊎ IsUnplanned names a end

abbrev pub AnswersMake : ℕ → ℕ → Sunk → Exit → Type 0
AnswersMake seed size sink end = Prints (IsSummary seed size) sink end

abbrev pub AnswersRepeat : List ℕ → Around → Exit → Type 0
AnswersRepeat name a end = RepeatEnds (record { name = name; before = a.before.shelf; after = a.after.shelf }) a.sink end
