-- A history that is read back from its text.
use Rattle.std.specs.Prelude.{◌≡◌, List, drop, reverse, None}
use Rattle.conc_types.specs.declared.event.Event.{Event}
use Rattle.conc_types.specs.declared.plan.Plan.{Plan}
use Rattle.conc_base_law.specs.Text.{table_text, text_of}
use Rattle.conc_history_lines.specs.History.{history_in}
use Rattle.conc_history_lines.specs.Places.{starts_of}

-- the events are read back, no line is bad, and the table stands at the offset
pub record IsReadBack (plan : Plan) (history : List Event) : Type 0 where
  pub events : (history_in (starts_of plan) (text_of plan history)).events ≡ history
  pub bad : (history_in (starts_of plan) (text_of plan history)).bad ≡ None
  pub table : drop (history_in (starts_of plan) (text_of plan history)).next (text_of plan history) ≡ table_text plan (reverse history)
