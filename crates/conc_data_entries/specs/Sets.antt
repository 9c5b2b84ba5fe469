-- Request sets and their stages, as the tables of a setup file give them.
use Rattle.std.specs.Prelude.{ℕ, codes, Bool, false, List, [], ◌∷◌, Option, Result}
use Rattle.toml.specs.Data.{Data, Members, get_member}
use Rattle.conc_types.specs.declared.kind.RefusalKind.{RefusalKind}
use Rattle.conc_data_fields.specs.Arrays.{array_in}
use Rattle.conc_data_fields.specs.Fields.{default, keys_kind, optional, required}
use Rattle.conc_data_fields.specs.Forms.{name_in, truth_in}
use Rattle.conc_data_fields.specs.Kinds.{beside, both, good}
use Rattle.conc_data_fields.specs.declared.values.Counted.{Counted}
use Rattle.conc_data_entries.specs.declared.raw.RawSet.{RawSet}
use Rattle.conc_data_entries.specs.declared.raw.RawStage.{RawStage}
use Rattle.conc_data_entries.specs.Tables.{table_in}

abbrev pub stage_keys : List (List ℕ)
stage_keys =
    codes "name" ∷ codes "critical" ∷ codes "on_success" ∷ codes "on_warning" ∷ codes "on_error" ∷ codes "members" ∷ []

abbrev pub StageParts : Type 0
StageParts = List ℕ × (Bool × (Option (List ℕ) × (Option (List ℕ) × (Option (List ℕ) × Counted (List ℕ) 1 64))))

abbrev pub to_stage : StageParts → RawStage
to_stage parts = record {
  name = parts.0;
  critical = parts.1.0;
  links = record { success = parts.1.1.0; warning = parts.1.1.1.0; error = parts.1.1.1.1.0 };
  members = parts.1.1.1.1.1;
}

unfoldable pub stage_of : Members → Result RawStage RefusalKind
stage_of table = beside (keys_kind stage_keys table) (good to_stage (
    both (required name_in (get_member (codes "name") table)) (
    both (default false truth_in (get_member (codes "critical") table)) (
    both (optional name_in (get_member (codes "on_success") table)) (
    both (optional name_in (get_member (codes "on_warning") table)) (
    both (optional name_in (get_member (codes "on_error") table))
    (required (array_in 1 64 name_in) (get_member (codes "members") table))))))))

abbrev pub stage_in : Data → Result RawStage RefusalKind
stage_in = table_in stage_of

abbrev pub set_keys : List (List ℕ)
set_keys = codes "name" ∷ codes "stage" ∷ []

abbrev pub to_set : List ℕ × Counted RawStage 1 64 → RawSet
to_set parts = record { name = parts.0; stages = parts.1 }

unfoldable pub set_of : Members → Result RawSet RefusalKind
set_of table = beside (keys_kind set_keys table) (good to_set (
    both (required name_in (get_member (codes "name") table))
    (required (array_in 1 64 stage_in) (get_member (codes "stage") table))))

abbrev pub set_in : Data → Result RawSet RefusalKind
set_in = table_in set_of
