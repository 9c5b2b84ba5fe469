-- What each exit means.
use Rattle.std.specs.Prelude.{◌≡◌, ⊤, ℕ, List, Option, None, Some}
use Rattle.conc_disk.specs.Disk.{DiskState}
use Rattle.conc_outside.specs.Files.{ShelfState}
use Rattle.conc_outside.specs.Taken.{SinkState}
use Rattle.conc_edge_clock.specs.Clocks.{ClockState}
use Rattle.conc_top_inputs.specs.Given.{named}
use Rattle.conc_top_words.specs.declared.command.Command.{Command}
use Rattle.conc_top_words.specs.declared.command.Command.TheVariants as command
use Rattle.conc_top_words.specs.Words.{command_of}
use Rattle.conc_run_state.specs.Disks.{AreUntouched, Disks, disks}
use Rattle.conc_top.specs.declared.exit.Exit.{Exit}
use Rattle.conc_top.specs.declared.exit.Exit.TheVariants as exit
use Rattle.conc_top.specs.Answers.{AnswersCheck, AnswersMake, AnswersOutput, AnswersPlan, AnswersRepeat, AnswersRun, AnswersStatus, Around, around}
use Rattle.conc_top.specs.Printing.{Sunk, sunk, TookNothing}

-- words that are no command line are Usage, unless there is no memory to read them; nothing is written
abbrev pub IsNoCommand : Sunk → Exit → Type 0
IsNoCommand sink exit.Usage = TookNothing sink
IsNoCommand sink exit.NoMemory = TookNothing sink
IsNoCommand sink _ = ⊥

-- the words give no command, or there was no memory to read them
abbrev pub GivesNoCommand : Option Command → Exit → Type 0
GivesNoCommand asked exit.Usage = asked ≡ None
GivesNoCommand asked exit.NoMemory = ⊤
GivesNoCommand asked _ = ⊥

-- what an exit means for the command that the words ask for. No command but a run writes to the disks
abbrev pub Means : Option Command → Around → Disks → Exit → Type 0
Means None a d end = IsNoCommand a.sink end × AreUntouched d
Means (Some (command.Run setup script clock threads watchers)) a d end = AnswersRun threads watchers (named setup script (Some clock)) a d end
Means (Some (command.Plan setup script)) a d end = AnswersPlan (named setup script None) a end × AreUntouched d
Means (Some (command.Check setup script clock history)) a d end =
    AnswersCheck (named setup script (Some clock)) history a end × AreUntouched d
Means (Some (command.Status setup script)) a d end =
    AnswersStatus (named setup script None) a d.journal_before d.journal_after end × AreUntouched d
Means (Some (command.Output setup script request)) a d end = AnswersOutput (named setup script None) request a d end × AreUntouched d
Means (Some (command.Make seed size)) a d end = AnswersMake seed size a.sink end × AreUntouched d
Means (Some (command.Repeat repeats)) a d end = AnswersRepeat repeats a end × AreUntouched d

-- ---- the whole program

-- all that is outside it at one moment: files and clock, output, journal and spool
pub record Outside : Type 1 where
  pub shelf : ShelfState
  pub clock : ClockState
  pub output : SinkState
  pub journal : DiskState
  pub spool : DiskState

abbrev pub outside : ShelfState → ClockState → SinkState → DiskState → DiskState → Outside
outside shelf clock output journal spool = record {
  shelf = shelf;
  clock = clock;
  output = output;
  journal = journal;
  spool = spool;
}

-- the words are answered with this exit, and what was outside has become that
abbrev pub AreAnswered : List (List ℕ) → Exit → Outside → Outside → Type 0
AreAnswered words end old new =
    Means (command_of words) (around old.shelf new.shelf old.clock new.clock (sunk old.output new.output))
    (disks old.journal new.journal old.spool new.spool) end

-- ---- one command: words that ask for anything else are Usage

abbrev pub MeansRun : Option Command → Around → Disks → Exit → Type 0
MeansRun (Some (command.Run setup script clock threads watchers)) a d end = AnswersRun threads watchers (named setup script (Some clock)) a d end
MeansRun _ a d end = IsNoCommand a.sink end × AreUntouched d

-- the words ask for no run, or for one without threads and watchers
abbrev pub IsPlain : Option Command → Type 0
IsPlain (Some (command.Run setup script clock threads watchers)) = (threads ≡ 0) × (watchers ≡ 0)
IsPlain _ = ⊤

abbrev pub MeansPlan : Option Command → Around → Exit → Type 0
MeansPlan (Some (command.Plan setup script)) a end = AnswersPlan (named setup script None) a end
MeansPlan _ a end = IsNoCommand a.sink end

abbrev pub MeansCheck : Option Command → Around → Exit → Type 0
MeansCheck (Some (command.Check setup script clock history)) a end = AnswersCheck (named setup script (Some clock)) history a end
MeansCheck _ a end = IsNoCommand a.sink end

abbrev pub MeansStatus : Option Command → Around → DiskState → DiskState → Exit → Type 0
MeansStatus (Some (command.Status setup script)) a old new end = AnswersStatus (named setup script None) a old new end
MeansStatus _ a old new end = IsNoCommand a.sink end

abbrev pub MeansOutput : Option Command → Around → Disks → Exit → Type 0
MeansOutput (Some (command.Output setup script request)) a d end = AnswersOutput (named setup script None) request a d end
MeansOutput _ a d end = IsNoCommand a.sink end

abbrev pub MeansMake : Option Command → Sunk → Exit → Type 0
MeansMake (Some (command.Make seed size)) sink end = AnswersMake seed size sink end
MeansMake _ sink end = IsNoCommand sink end

abbrev pub MeansRepeat : Option Command → Around → Exit → Type 0
MeansRepeat (Some (command.Repeat repeats)) a end = AnswersRepeat repeats a end
MeansRepeat _ a end = IsNoCommand a.sink end
