-- The summary of a run of generated files.
use Rattle.std.specs.Prelude.{◌≡◌, ℕ, Bool, List, [], ◌∷◌, ◌++◌, codes, count_by, length, reverse}
use Rattle.std.specs.Fmt.{decimal}
use Rattle.std.specs.List.{concat}
use Rattle.conc_types.specs.declared.event.Event.{Event}
use Rattle.conc_types.specs.declared.event.Outcome.{Outcome}
use Rattle.conc_types.specs.declared.event.Outcome.TheVariants as outcome
use Rattle.conc_types.specs.declared.facts.Facts.{Facts}
use Rattle.conc_types.specs.declared.facts.State.{State}
use Rattle.conc_types.specs.declared.plan.Plan.{Plan}
use Rattle.conc_types.specs.declared.script.Readings.{Readings}
use Rattle.conc_types.specs.Words.{some_and}
use Rattle.conc_base_law.specs.Alone.{Alone}
use Rattle.conc_base_law.specs.Events.{outcome_eq}
use Rattle.conc_base_law.specs.State.{state}
use Rattle.conc_run_make.specs.Generated.{AreGenerated}

-- the request is completed with this outcome
abbrev pub is_completed_with : Outcome → Facts → Bool
is_completed_with o facts = some_and (outcome_eq o) facts.outcome

-- how many requests are completed with this outcome, sets among them
abbrev pub count_completed : Outcome → State → ℕ
count_completed o s = count_by (is_completed_with o) s.facts

-- a word, a blank and a number
unfoldable pub line : List ℕ → ℕ → List ℕ
line word n = word ++ codes " " ++ decimal n ++ codes "\n"

-- a line for each outcome
unfoldable pub outcome_lines : State → List (List ℕ)
outcome_lines s =
    line (codes "normal") (count_completed outcome.Normal s)
    ∷ line (codes "warning") (count_completed outcome.Warning s)
    ∷ line (codes "error") (count_completed outcome.Error s)
    ∷ line (codes "cancelled") (count_completed outcome.Cancelled s)
    ∷ line (codes "terminated") (count_completed outcome.Terminated s)
    ∷ []

-- the nine lines of a history of the plan
unfoldable pub summary_text : ℕ → ℕ → Plan → List Event → List ℕ
summary_text seed size plan history =
    line (codes "seed") seed
    ++ line (codes "size") size
    ++ line (codes "requests") (length plan.requests)
    ++ line (codes "events") (length history)
    ++ concat (outcome_lines (state plan (reverse history)))

-- the summary of the history that the run without workers makes, from no events, of the files of a seed and a size
pub record IsSummary (seed size : ℕ) (text : List ℕ) : Type 0 where
  pub plan : Plan
  pub readings : Readings
  pub generated : AreGenerated seed size plan readings
  pub history : List Event
  pub alone : Alone plan readings.list [] history
  pub text_is : text ≡ summary_text seed size plan history
