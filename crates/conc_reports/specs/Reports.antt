-- A report as the program makes it.
use Rattle.std.specs.Prelude.{◌≡◌, ℕ, List}
use Rattle.conc_types.specs.declared.program.Job.{Job}
use Rattle.conc_types.specs.declared.table.Table.{Table}
use Rattle.conc_base_law.specs.Report.{Report, report}
use Rattle.conc_reports.specs.declared.making.Made.{Made}

abbrev pub as_report : Made → Report
as_report made = record { outcome = made.outcome; text = made.text }

-- the outcome is that of the job's report on the table
abbrev pub HasItsOutcome : Job → List ℕ → Table → Made → Type 0
HasItsOutcome job argument table made = made.outcome ≡ (report job argument table).outcome

-- and so is the text
abbrev pub HasItsText : Job → List ℕ → Table → Made → Type 0
HasItsText job argument table made = made.text ≡ (report job argument table).text
