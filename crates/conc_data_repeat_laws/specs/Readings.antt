-- What a script of repeated submissions says with a setup.
use Rattle.std.specs.Prelude.{◌≡◌, ℕ, List, [], All, IsSome, get_or, map, Option, Some}
use Rattle.std.specs.Option.{option_and_then, option_map}
use Rattle.conc_types.specs.declared.event.Moment.{Moment}
use Rattle.conc_types.specs.declared.script.Act.TheVariants as act
use Rattle.conc_types.specs.declared.script.Order.{Order}
use Rattle.conc_types.specs.declared.script.Script.{Script}
use Rattle.conc_types.specs.declared.setup.Setup.{Setup}
use Rattle.conc_data_records.specs.Records.{Record}
use Rattle.conc_script.specs.Script.{domain_of, item_named, priority_of, SpellsScript}
use Rattle.conc_repeat.specs.declared.dues.Due.{Due}
use Rattle.conc_repeat.specs.Script.{dues_of, IsByMoment}
use Rattle.conc_repeat.specs.Series.{argument_field, domain_field, priority_field, user_field, what_field}

-- the setup has a program or a set with the name of each record
abbrev pub HasNames : Setup → List Record → Type 0
HasNames setup records = All (λ r. IsSome (item_named setup (what_field r))) records

-- the command that submits a record's item at a moment, where it is due at once
abbrev pub command_at : Setup → Moment → Record → Option Order
command_at setup at r =
    option_and_then (λ item. option_and_then (λ priority. option_map (λ domain.
    record { at = at; act = act.Submit item (user_field r) priority at domain (argument_field r) })
    (domain_of (domain_field r))) (priority_of (priority_field r))) (item_named setup (what_field r))

abbrev pub command_of : Setup → List Record → Due → Option Order
command_of setup records due = command_at setup due.at (get_or records due.series [])

-- the bytes are a script of the setup, and its commands are the submissions of these records by their moments
pub record IsReadAs (setup : Setup) (records : List Record) (bytes : List ℕ) : Type 0 where
  pub script : Script
  pub spelled : SpellsScript setup bytes script
  pub dues : List Due
  pub by_moment : IsByMoment (dues_of records) dues
  pub commands : map (command_of setup records) dues ≡ map (λ order. Some order) script.commands
