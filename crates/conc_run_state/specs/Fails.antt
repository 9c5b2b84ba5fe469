-- Which failure of a history comes of each failure below it.
use Rattle.conc_types.specs.declared.error.CheckFail.{CheckFail}
use Rattle.conc_types.specs.declared.error.CheckFail.TheVariants as check_fail
use Rattle.conc_disk.specs.declared.error.ReadBack.{ReadBack}
use Rattle.conc_disk.specs.declared.error.ReadBack.TheVariants as read_back
use Rattle.conc_journal.specs.declared.error.JournalFail.{JournalFail}
use Rattle.conc_journal.specs.declared.error.JournalFail.TheVariants as journal_fail
use Rattle.conc_run_state.specs.declared.error.DiskName.TheVariants as disk_name
use Rattle.conc_run_state.specs.declared.error.HistoryFail.{HistoryFail}
use Rattle.conc_run_state.specs.declared.error.HistoryFail.TheVariants as history_fail
use Rattle.conc_run_state.specs.declared.error.RunFail.{RunFail}
use Rattle.conc_run_state.specs.declared.error.RunFail.TheVariants as run_fail

-- of one of a run that is under way
abbrev pub of_run : RunFail → HistoryFail
of_run run_fail.JournalFault = history_fail.DiskFault disk_name.Journal
of_run run_fail.SpoolFault = history_fail.DiskFault disk_name.Spool
of_run run_fail.NoMemory = history_fail.NoMemory

-- of one to open a journal
abbrev pub of_journal : JournalFail → HistoryFail
of_journal journal_fail.NotJournal = history_fail.NotJournal
of_journal journal_fail.DiskFault = history_fail.DiskFault disk_name.Journal
of_journal journal_fail.NoMemory = history_fail.NoMemory

-- of one to take the events of a journal
abbrev pub of_check : CheckFail → HistoryFail
of_check (check_fail.Unlawful position) = history_fail.Unlawful position
of_check check_fail.NoMemory = history_fail.NoMemory

-- of one to read a text of the spool
abbrev pub of_read : ReadBack → HistoryFail
of_read read_back.DiskFault = history_fail.DiskFault disk_name.Spool
of_read read_back.NoMemory = history_fail.NoMemory
