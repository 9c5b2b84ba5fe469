-- The words of the command line: a form, and behind it at most one file with a history, at most one with a plan and at
-- most one with a script. An option may stand anywhere behind the form, as two words or as one.
use Rattle.std.specs.Prelude.{ℕ, Bool, not, ◌||◌, ◌&&◌, if◌then◌else◌, List, [], ◌∷◌, codes, drop, nat_eq, Option, None, Some, is_some}
use Rattle.std.specs.List.{starts_with}
use Rattle.std.specs.Option.{option_and_then, option_map}
use Rattle.std.specs.Str.{bytes_eq}
use Rattle.conc_types.specs.Words.{is_empty}
use Rattle.conc_show_model.specs.declared.command.Form.{Form}
use Rattle.conc_show_model.specs.declared.command.Form.TheVariants as form
use Rattle.conc_show_model.specs.declared.command.Said.{Said}
use Rattle.conc_show_model.specs.declared.command.Waits.{Waits}
use Rattle.conc_show_model.specs.declared.command.Waits.TheVariants as waits
use Rattle.conc_show_model.specs.declared.command.Words.{Words}

-- what the words behind the form say: the option that waits for its value, and the files
pub record Meant : Type 0 where
  pub waits : Option Waits
  pub history : Option (List ℕ)
  pub plan : Option (List ℕ)
  pub script : Option (List ℕ)

abbrev pub shown : Said → Meant
shown s = record {
  waits = s.waits;
  history = option_map (λ w. w.now) s.history;
  plan = option_map (λ w. w.now) s.plan;
  script = option_map (λ w. w.now) s.script;
}

-- each of the three is said once at most
abbrev pub with_history : Meant → List ℕ → Option Meant
with_history m word = if is_some m.history then None else Some (record m { waits = None; history = Some word })

abbrev pub with_plan : Meant → List ℕ → Option Meant
with_plan m word = if is_some m.plan then None else Some (record m { waits = None; plan = Some word })

abbrev pub with_script : Meant → List ℕ → Option Meant
with_script m word = if is_some m.script then None else Some (record m { waits = None; script = Some word })

-- the value of an option
abbrev pub with_value : Meant → Waits → List ℕ → Option Meant
with_value m waits.Plan word = with_plan m word
with_value m waits.Script word = with_script m word

abbrev pub with_waits : Meant → Waits → Option Meant
with_waits m w = Some (record m { waits = Some w })

-- a history is `-`, or a word that is not empty and does not begin with a dash
abbrev pub is_history : List ℕ → Bool
is_history word = bytes_eq word (codes "-") || (not (is_empty word) && not (starts_with nat_eq word (codes "-")))

-- a word that is no value of the option before it
unfoldable pub with_word : Meant → List ℕ → Option Meant
with_word m word =
    if bytes_eq word (codes "--plan") then with_waits m waits.Plan
    else if bytes_eq word (codes "--script") then with_waits m waits.Script
    else if starts_with nat_eq word (codes "--plan=") then with_value m waits.Plan (drop 7 word)
    else if starts_with nat_eq word (codes "--script=") then with_value m waits.Script (drop 9 word)
    else if is_history word then with_history m word
    else None

abbrev pub after_waiting : Meant → List ℕ → Option Waits → Option Meant
after_waiting m word None = with_word m word
after_waiting m word (Some w) = with_value m w word

abbrev pub after_word : Meant → List ℕ → Option Meant
after_word m word = after_waiting m word m.waits

-- what these words say behind others; the last one is no option that waits for a value
unfoldable pub said_from : Meant → List (List ℕ) → Option Meant
said_from m [] = if is_some m.waits then None else Some m
said_from m (word ∷ words) = option_and_then (λ next. said_from next words) (after_word m word)

abbrev pub nothing : Meant
nothing = record { waits = None; history = None; plan = None; script = None }

unfoldable pub form_of : List ℕ → Option Form
form_of word =
    if bytes_eq word (codes "timeline") then Some form.Timeline
    else if bytes_eq word (codes "svg") then Some form.Svg
    else if bytes_eq word (codes "csv") then Some form.Csv
    else if bytes_eq word (codes "json") then Some form.Json
    else None

-- ---- all words

-- a form, and what is said behind it
pub record Asked : Type 0 where
  pub form : Form
  pub history : Option (List ℕ)
  pub plan : Option (List ℕ)
  pub script : Option (List ℕ)

abbrev pub asked : Words → Asked
asked w = record {
  form = w.form;
  history = option_map (λ x. x.now) w.history;
  plan = option_map (λ x. x.now) w.plan;
  script = option_map (λ x. x.now) w.script;
}

abbrev pub asked_with : Form → Meant → Asked
asked_with f m = record { form = f; history = m.history; plan = m.plan; script = m.script }

-- what the words ask for, if they are a command
unfoldable pub words_of : List (List ℕ) → Option Asked
words_of [] = None
words_of (word ∷ words) = option_and_then (λ f. option_map (asked_with f) (said_from nothing words)) (form_of word)
