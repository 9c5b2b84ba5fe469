-- The text of a report, by the figures in its lines.
use Rattle.std.specs.Prelude.{ℕ, ℤ, nat_lt, if◌then◌else◌, List, [], ◌++◌, Option, codes, length, map}
use Rattle.std.specs.Borrow.{Bor}
use Rattle.std.specs.Fmt.{decimal, signed_decimal}
use Rattle.std.specs.List.{concat}
use Rattle.std.specs.Option.{option_map_or}
use Rattle.conc_types.specs.declared.limits.TheConstants.{MOST_REPORT_BYTES}
use Rattle.conc_types.specs.declared.event.Outcome.{Outcome}
use Rattle.conc_types.specs.declared.event.Outcome.TheVariants as outcome
use Rattle.conc_types.specs.declared.program.Job.{Job}
use Rattle.conc_base_law.specs.Report.{Report, exceeds, header, quoted}
use Rattle.conc_reports.specs.declared.figures.Figures.{Figures}
use Rattle.conc_reports.specs.Figures.{shown}

-- a line with a count and, where asked for, a sum
abbrev pub figures_line : Option (List ℕ) → List ℕ → ℕ × ℤ → List ℕ
figures_line sum head figures =
    head ++ codes "," ++ decimal figures.0
    ++ option_map_or (λ _. codes "," ++ signed_decimal figures.1) sum []
    ++ codes "\n"

-- a key with its figures
abbrev pub Group : Type 0
Group = List ℕ × (ℕ × ℤ)

abbrev pub group_of : Bor (List ℕ) × Figures → Group
group_of entry = (entry.0.now, shown entry.1)

abbrev pub group_line : Option (List ℕ) → Group → List ℕ
group_line sum group = figures_line sum (quoted group.0) group.1

abbrev pub groups_text : Option (List ℕ) → List Group → List ℕ
groups_text sum groups = concat (map (group_line sum) groups)

unfoldable pub tally_text : Job → ℕ × ℤ → List Group → List ℕ
tally_text job all groups = header job ++ groups_text job.sum groups ++ figures_line job.sum (codes "total") all

unfoldable pub outcome_by_count : Job → ℕ → Outcome
outcome_by_count job count =
    if exceeds count job.error_over then outcome.Error
    else (if exceeds count job.warn_over then outcome.Warning else outcome.Normal)

unfoldable pub tally_report : Job → ℕ × ℤ → List Group → Report
tally_report job all groups =
    if nat_lt MOST_REPORT_BYTES (length (tally_text job all groups))
    then record { outcome = outcome.Error; text = codes "too long\n" }
    else record { outcome = outcome_by_count job all.0; text = tally_text job all groups }
