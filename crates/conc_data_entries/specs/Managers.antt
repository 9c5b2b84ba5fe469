-- Managers, as the tables of a setup file give them.
use Rattle.std.specs.Prelude.{ℕ, codes, ◌+◌, nat_le, List, [], ◌∷◌, length, Result}
use Rattle.toml.specs.Data.{Data, Members, get_member}
use Rattle.std.proofs.lemmas.Bool.{leb-true}
use Rattle.conc_types.specs.declared.kind.RefusalKind.{RefusalKind}
use Rattle.conc_types.specs.declared.kind.RefusalKind.TheVariants as refused
use Rattle.conc_types.specs.declared.manager.Shift.{Shift}
use Rattle.conc_data_fields.specs.Arrays.{array_in, list_in, no_values}
use Rattle.conc_data_fields.specs.Fields.{default, keys_kind, required}
use Rattle.conc_data_fields.specs.Forms.{name_in}
use Rattle.conc_data_fields.specs.Kinds.{beside, both, judged, proven}
use Rattle.conc_data_fields.specs.declared.values.Counted.{Counted}
use Rattle.conc_data_entries.specs.Rules.{rule_in}
use Rattle.conc_data_entries.specs.Shifts.{shift_in}
use Rattle.conc_data_entries.specs.declared.raw.RawManager.{RawManager}
use Rattle.conc_data_entries.specs.declared.raw.RawRule.{RawRule}
use Rattle.conc_data_entries.specs.Tables.{table_in}

abbrev pub manager_keys : List (List ℕ)
manager_keys = codes "name" ∷ codes "include" ∷ codes "exclude" ∷ codes "shift" ∷ []

-- more than 64 rules in all are `TooMany`
abbrev pub to_manager : List ℕ × (List RawRule × (List RawRule × Counted Shift 0 64)) → Result RawManager RefusalKind
to_manager parts =
    proven (nat_le (length parts.1.0 + length parts.1.1.0) 64)
    (λ few. record { name = parts.0; include = parts.1.0; exclude = parts.1.1.0; shifts = parts.1.1.1; few_rules = leb-true _ _ few }) refused.TooMany

unfoldable pub manager_of : Members → Result RawManager RefusalKind
manager_of table = beside (keys_kind manager_keys table) (judged to_manager (
    both (required name_in (get_member (codes "name") table)) (
    both (default [] (list_in rule_in) (get_member (codes "include") table)) (
    both (default [] (list_in rule_in) (get_member (codes "exclude") table))
    (default (no_values 64) (array_in 0 64 shift_in) (get_member (codes "shift") table))))))

abbrev pub manager_in : Data → Result RawManager RefusalKind
manager_in = table_in manager_of
