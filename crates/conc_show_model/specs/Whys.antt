-- Refusals: the words that tell them, and what a failure is.
use Rattle.std.specs.Prelude.{◌≡◌, ⊤, ℕ, List, codes, Option, Some}
use Rattle.conc_types.specs.declared.error.ReadFail.{ReadFail}
use Rattle.conc_types.specs.declared.error.ReadFail.TheVariants as fail
use Rattle.conc_show_model.specs.declared.fail.ChartFile.TheVariants as file
use Rattle.conc_show_model.specs.declared.fail.ChartRefusal.{ChartRefusal}
use Rattle.conc_show_model.specs.declared.fail.ChartWhy.{ChartWhy}
use Rattle.conc_show_model.specs.declared.fail.ChartWhy.TheVariants as why

abbrev pub why_text : ChartWhy → List ℕ
why_text why.NoEventLine = codes "no event line"
why_text why.NoTableLine = codes "no line of the table"
why_text why.NoSuchRequest = codes "no such request"
why_text why.RunsAlready = codes "the request runs already"
why_text why.PlaceTaken = codes "the place is taken"
why_text why.DoesNotRun = codes "the request does not run"
why_text why.NoPlanLine = codes "no line of the plan"
why_text why.NoScriptRecord = codes "no record of the script"

-- the refusal of the history at a line
abbrev pub in_history : ChartWhy → ℕ → ChartRefusal
in_history w line = record { file = file.History; line = Some line; why = w }

-- the failure is this refusal, or memory lacks
abbrev pub IsFailure : Option ChartRefusal → ReadFail ChartRefusal → Type 0
IsFailure refusal (fail.Refused r) = refusal ≡ Some r
IsFailure refusal fail.NoMemory = ⊤
