-- How a run ends whose files are accepted.
use Rattle.std.specs.Prelude.{◌≡◌, ◌⊎◌, ℕ, ◌++◌, List, length, IfSome, Result}
use Rattle.conc_types.specs.declared.event.Event.{Event}
use Rattle.conc_types.specs.declared.plan.Plan.{Plan}
use Rattle.conc_base_law.specs.Alone.{opening}
use Rattle.conc_base_law.specs.Ends.{AreReported}
use Rattle.conc_base_law.specs.Law.{Finished, Lawful}
use Rattle.conc_base_law.specs.Overlap.{NoOverlap}
use Rattle.conc_base_law.specs.Text.{text_of}
use Rattle.conc_disk.specs.declared.disk.Disk.{Ghosts as DiskGhosts}
use Rattle.conc_outside.specs.Counts.{Rose}
use Rattle.conc_outside.specs.Taken.{Took, TookPrefix}
use Rattle.conc_run_state.specs.Handed.{Handed}
use Rattle.conc_run_state.specs.Stores.{ran_over}
use Rattle.conc_run_state.specs.Survival.{HoldsList}
use Rattle.conc_run_state.specs.declared.error.HistoryFail.{HistoryFail}
use Rattle.conc_run_state.specs.declared.error.HistoryFail.TheVariants as history_fail
use Rattle.conc_run_state.specs.declared.input.Input.{Input}
use Rattle.conc_run_state.specs.declared.stores.Stores.{Stores}
use Rattle.conc_run_watched.specs.Ends.{HasWatched, IsCutShort, IsFinished, LacksToTell}
use Rattle.conc_run_watched.specs.declared.watched.Watched.{Watched}
use Rattle.conc_top.specs.declared.exit.Exit.{Exit}
use Rattle.conc_top.specs.declared.exit.Exit.TheVariants as exit
use Rattle.conc_run_watch.specs.Lines.{AreWatchLines}
use Rattle.conc_top.specs.Printing.{Sunk, TookNothing}

-- This is the history of the run with so many threads. From what was found it goes on lawfully, and without threads as the run
-- without workers does. For a steady plan over an empty list its result is that of the run without workers, whatever the number
-- of threads. It is lawful and finished, running intervals of requests that exclude each other do not overlap, and each end that
-- was added tells what its report says. The journal has it, as a read and as a crash now would leave it.
pub record IsHistory (threads : ℕ) (h : Handed) (history : List Event) : Type 0 where
  pub finished : IsFinished threads h history
  pub lawful : Lawful h.plan h.readings history
  pub complete : Finished h.plan h.readings history
  pub apart : NoOverlap h.plan history
  pub reported : AreReported h.plan (length (opening finished.found)) history
  pub read : IfSome h.disks.journal_after.seen (HoldsList h.plan h.digests history)

-- the text of a history, and behind it the lines of so many watchers
pub record IsRunText (plan : Plan) (watchers : ℕ) (history : List Event) (text : List ℕ) : Type 0 where
  pub lines : List ℕ
  pub watched : AreWatchLines plan history watchers lines
  pub text_is : text ≡ text_of plan history ++ lines

-- the run did not begin, or ended before its history was finished, and nothing was printed
abbrev pub EndsEarly : ℕ → ℕ → Handed → Sunk → HistoryFail → Type 0
EndsEarly threads watchers h sink fail = IsCutShort threads (LacksToTell watchers) h fail × TookNothing sink

-- What each exit says of the run with so many threads and watchers, and of the output. After a history that was finished its text
-- may find no memory.
abbrev pub RunEnds : ℕ → ℕ → Handed → Sunk → Exit → Type 0
RunEnds threads watchers h sink exit.Done =
    (history : List Event) × IsHistory threads h history × ((text : List ℕ) × IsRunText h.plan watchers history text × Took sink.before.taken sink.after.taken text)
RunEnds threads watchers h sink exit.WriteFault =
    (history : List Event) × IsHistory threads h history
    × ((text : List ℕ) × IsRunText h.plan watchers history text × TookPrefix sink.before.taken sink.after.taken text) × Rose sink.before.faults sink.after.faults
RunEnds threads watchers h sink exit.NoMemory =
    EndsEarly threads watchers h sink history_fail.NoMemory ⊎ (((history : List Event) × IsHistory threads h history) × TookNothing sink)
RunEnds threads watchers h sink (exit.DiskFault disk) = EndsEarly threads watchers h sink (history_fail.DiskFault disk)
RunEnds threads watchers h sink exit.NotJournal = EndsEarly threads watchers h sink history_fail.NotJournal
RunEnds threads watchers h sink (exit.OtherInput found given) = EndsEarly threads watchers h sink (history_fail.OtherInput found given)
RunEnds threads watchers h sink (exit.OtherScript command found given) = EndsEarly threads watchers h sink (history_fail.OtherScript command found given)
RunEnds threads watchers h sink (exit.JournalFull len needed) = EndsEarly threads watchers h sink (history_fail.JournalFull len needed)
RunEnds threads watchers h sink (exit.Unlawful number) = EndsEarly threads watchers h sink (history_fail.Unlawful number)
RunEnds threads watchers h sink _ = ⊥

-- what the exit says of whatever run of the input ended so, and left these stores
abbrev pub PrintsEnded : {D E : Type 0} → DiskGhosts D → DiskGhosts E → Input → Stores D E → Result Watched HistoryFail → Sunk → Exit → Type 0
PrintsEnded {D} {E} d e input new ended sink end =
    (threads watchers : ℕ) (old : Stores D E) → HasWatched threads watchers (ran_over d e input old new) ended
    → RunEnds threads watchers (ran_over d e input old new) sink end
