-- What the reader of a script has read of its records.
use Rattle.std.specs.Prelude.{◌≡◌, ◌≤◌, Bool, true, false, List, [], ◌∷◌, length, map, Option, None, Some}
use Rattle.conc_types.specs.declared.script.Order.{Order}
use Rattle.conc_types.specs.declared.setup.Setup.{Setup}
use Rattle.conc_types.specs.Faults.{Fault, first_fault}
use Rattle.conc_types.specs.Scripts.{are_commands}
use Rattle.conc_data_records.specs.Records.{Record}
use Rattle.conc_script.specs.Script.{header, order_of, record_kind, same_fields}

abbrev pub begins_with_header : List Record → Bool
begins_with_header [] = false
begins_with_header (first ∷ rest) = same_fields first header

-- the first fault of the records behind the header
abbrev pub fault_behind : Setup → List Record → Option Fault
fault_behind setup records = first_fault (record_kind setup (header ∷ records)) 2 (length records)

-- none of the records behind the header breaks a rule, and these are their commands
pub record ReadsRecords (setup : Setup) (records : List Record) (commands : List Order) : Type 0 where
  pub faultless : fault_behind setup records ≡ None
  pub list : map (order_of setup) records ≡ map (λ order. Some order) commands
  pub few : length commands ≤ 4096
  pub fits : are_commands setup commands ≡ true
