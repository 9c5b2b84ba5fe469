-- The rules of one record of a script.
use Rattle.std.specs.Prelude.{◌≡◌, ℕ, Bool, not, ◌&&◌, ◌||◌, nat_lt, List, [], ◌∷◌, ◌++◌, Option, is_none, Result}
use Rattle.std.specs.Option.{option_and_then, option_map}
use Rattle.std.specs.Result.{result_err}
use Rattle.conc_types.specs.declared.kind.RefusalKind.{RefusalKind}
use Rattle.conc_types.specs.declared.kind.RefusalKind.TheVariants as refused
use Rattle.conc_types.specs.declared.event.Moment.{Moment}
use Rattle.conc_types.specs.declared.item.Item.{Item}
use Rattle.conc_types.specs.declared.script.Act.{Act}
use Rattle.conc_types.specs.declared.script.Act.TheVariants as act
use Rattle.conc_types.specs.declared.setup.Setup.{Setup}
use Rattle.conc_types.specs.Decimals.{decimal_value}
use Rattle.conc_types.specs.Faults.{first_broken}
use Rattle.conc_types.specs.Texts.{is_name, is_text}
use Rattle.conc_types.specs.Words.{is_between, is_empty, some_and}
use Rattle.conc_base_law.specs.Calendar.{moment_of}
use Rattle.conc_data_records.specs.Records.{Record}
use Rattle.conc_script.specs.Script.{argument_field, at_field, domain_field, domain_of, has_form, is_earlier, is_record, is_word, item_named, priority_field, priority_of, start_field, start_of, user_field, what_field, what_rules, word_field}

-- what is wrong is the first of these rules that is broken, and nothing is where none of them is
abbrev pub TellsFirst : {A : Type 0} → List (Bool × RefusalKind) → Result A RefusalKind → Type 0
TellsFirst rules result = first_broken rules ≡ result_err result

-- the form of the fields behind a program or set that is submitted
abbrev pub submit_form : Record → Bool
submit_form r =
    is_name (user_field r)
    && (not (is_none (priority_of (priority_field r)))
    && ((is_empty (start_field r) || not (is_none (moment_of (start_field r))))
    && (not (is_none (domain_of (domain_field r))) && is_text 200 (argument_field r))))

-- the form of the fields behind a request
abbrev pub bare_form : Record → Bool
bare_form r =
    (is_empty (user_field r) || is_name (user_field r))
    && (is_empty (priority_field r) && (is_empty (start_field r) && (is_empty (domain_field r) && is_empty (argument_field r))))

-- the submission of an item
abbrev pub submission_by : Moment → Item → Record → Option Act
submission_by at what r =
    option_and_then (λ priority. option_and_then (λ start. option_map (λ domain.
    act.Submit what (user_field r) priority start domain (argument_field r))
    (domain_of (domain_field r))) (start_of at (start_field r))) (priority_of (priority_field r))

-- the rules of a submission
abbrev pub submit_rules : Setup → Record → List (Bool × RefusalKind)
submit_rules setup r = (is_none (item_named setup (what_field r)), refused.UnknownItem) ∷ (not (submit_form r), refused.BadField) ∷ []

-- the rules of a command on a request, after so many requests that were entered
abbrev pub request_rules : ℕ → Record → List (Bool × RefusalKind)
request_rules entered r =
    (is_none (decimal_value (what_field r)), refused.BadField)
    ∷ (not (some_and (is_between 1 entered) (decimal_value (what_field r))), refused.UnknownRequest)
    ∷ (not (bare_form r), refused.BadField) ∷ []

-- the rules of what a command does, from its word on
abbrev pub action_rules : Setup → ℕ → Record → List (Bool × RefusalKind)
action_rules setup entered r = (not (is_word (word_field r)), refused.UnknownWord) ∷ what_rules setup entered r ++ (not (has_form r), refused.BadField) ∷ []

-- all rules of the record with a number, after so many requests, and after a record of this moment
abbrev pub record_rules : Setup → ℕ → ℕ → Option Moment → Record → List (Bool × RefusalKind)
record_rules setup number entered before r =
    (not (is_record r), refused.NotCsv) ∷ (nat_lt 4097 number, refused.TooManyLines) ∷ (is_none (moment_of (at_field r)), refused.BadField)
    ∷ (is_earlier (moment_of (at_field r)) before, refused.MomentBack) ∷ action_rules setup entered r
