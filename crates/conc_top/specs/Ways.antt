-- The exit of an answer, and the exit that a failure makes.
use Rattle.std.specs.Prelude.{Result, Ok, Err}
use Rattle.conc_top_inputs.specs.declared.error.InputFail.{InputFail}
use Rattle.conc_top_inputs.specs.declared.error.InputFail.TheVariants as input
use Rattle.conc_run_open.specs.declared.error.TextFail.{TextFail}
use Rattle.conc_run_open.specs.declared.error.TextFail.TheVariants as text
use Rattle.conc_types.specs.declared.event.RequestId.{RequestId}
use Rattle.conc_run_state.specs.declared.error.HistoryFail.{HistoryFail}
use Rattle.conc_run_state.specs.declared.error.HistoryFail.TheVariants as history_fail
use Rattle.conc_top.specs.declared.exit.Exit.{Exit}
use Rattle.conc_top.specs.declared.exit.Exit.TheVariants as exit

-- that of a command that did what it is for, or the exit that kept it from that
abbrev pub exit_of : Result (Unit {0}) Exit → Exit
exit_of (Ok done) = exit.Done
exit_of (Err end) = end

-- where files give no plan
abbrev pub exit_for_input : InputFail → Exit
exit_for_input (input.Refused refusal name) = exit.Refused refusal name
exit_for_input (input.Absent name) = exit.Absent name
exit_for_input (input.ReadFault name) = exit.ReadFault name
exit_for_input input.ClockFault = exit.ClockFault
exit_for_input input.NoMemory = exit.NoMemory

-- where a run does not come to its end, or nothing is read of its disks
abbrev pub exit_for : HistoryFail → Exit
exit_for history_fail.NotJournal = exit.NotJournal
exit_for (history_fail.OtherInput found given) = exit.OtherInput found given
exit_for (history_fail.OtherScript command found given) = exit.OtherScript command found given
exit_for (history_fail.Unlawful number) = exit.Unlawful number
exit_for (history_fail.JournalFull len needed) = exit.JournalFull len needed
exit_for (history_fail.DiskFault disk) = exit.DiskFault disk
exit_for history_fail.NoMemory = exit.NoMemory

-- where no text of this request's report is given
abbrev pub exit_for_text : RequestId → TextFail → Exit
exit_for_text id (text.NoHistory e) = exit_for e
exit_for_text id text.NotEnded = exit.NotEnded id.number
