-- The commands of a script that enter requests.
use Rattle.std.specs.Prelude.{ℕ, ◌+◌, Bool, nat_lt, if◌then◌else◌, List, [], ◌∷◌, ◌++◌, codes, drop, get_or, length, Option, None, Some}
use Rattle.std.specs.Option.{option_map}
use Rattle.std.specs.Str.{bytes_eq}
use Rattle.conc_show_model.specs.declared.fail.ChartFile.TheVariants as file
use Rattle.conc_show_model.specs.declared.fail.ChartRefusal.{ChartRefusal}
use Rattle.conc_show_model.specs.declared.fail.ChartWhy.TheVariants as why
use Rattle.conc_data_records.specs.Records.{Record, records_of}

-- the second field of a record is `submit`
abbrev pub is_submit : Record → Bool
is_submit r = bytes_eq (get_or r 1 []) (codes "submit")

-- the number of a record, if it submits
abbrev pub submit_in : ℕ → Record → List ℕ
submit_in number r = if is_submit r then number ∷ [] else []

-- the numbers of those of these records that submit, where the first of them has this number
unfoldable pub submits_from : ℕ → List Record → List ℕ
submits_from number [] = []
submits_from number (r ∷ records) = submit_in number r ++ submits_from (number + 1) records

-- the number of the first of these records that has fewer than two fields
unfoldable pub short_record : ℕ → List Record → Option ℕ
short_record number [] = None
short_record number (r ∷ records) = if nat_lt (length r) 2 then Some number else short_record (number + 1) records

-- ---- whole scripts

-- the records behind the head, which is not looked at
abbrev pub commands_of : List ℕ → List Record
commands_of script = drop 1 (records_of script)

-- the numbers of the commands that submit, without the head
abbrev pub submits_of : List ℕ → List ℕ
submits_of script = submits_from 1 (commands_of script)

abbrev pub in_script : ℕ → ChartRefusal
in_script number = record { file = file.Script; line = Some number; why = why.NoScriptRecord }

-- why a script is refused: the number of the record is counted with the head
abbrev pub script_fault : List ℕ → Option ChartRefusal
script_fault script = option_map in_script (short_record 2 (commands_of script))
