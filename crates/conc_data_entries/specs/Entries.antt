-- The incompatibilities, as the tables of a setup file give them.
use Rattle.std.specs.Prelude.{ℕ, codes, List, [], ◌∷◌, Option, Result}
use Rattle.toml.specs.Data.{Data, Members, get_member}
use Rattle.conc_types.specs.declared.kind.RefusalKind.{RefusalKind}
use Rattle.conc_types.specs.declared.kind.RefusalKind.TheVariants as refused
use Rattle.conc_types.specs.declared.item.Reach.{Reach}
use Rattle.conc_types.specs.declared.item.Reach.TheVariants as reach
use Rattle.conc_types.specs.declared.item.Scope.{Scope}
use Rattle.conc_types.specs.declared.item.Scope.TheVariants as scope
use Rattle.conc_data_fields.specs.Fields.{default, keys_kind, required}
use Rattle.conc_data_fields.specs.Forms.{name_in}
use Rattle.conc_data_fields.specs.Kinds.{beside, both, good}
use Rattle.conc_data_entries.specs.declared.raw.RawEntry.{RawEntry}
use Rattle.conc_data_entries.specs.Tables.{one_of, table_in, word_in}

abbrev pub scope_of : List ℕ → Option Scope
scope_of = one_of ((codes "program", scope.Program) ∷ (codes "set", scope.Set) ∷ [])

abbrev pub scope_in : Data → Result Scope RefusalKind
scope_in = word_in refused.OutOfRange scope_of

abbrev pub reach_of : List ℕ → Option Reach
reach_of = one_of ((codes "domain", reach.Domain) ∷ (codes "global", reach.Global) ∷ [])

abbrev pub reach_in : Data → Result Reach RefusalKind
reach_in = word_in refused.OutOfRange reach_of

abbrev pub entry_keys : List (List ℕ)
entry_keys = codes "program" ∷ codes "with" ∷ codes "scope" ∷ codes "type" ∷ []

abbrev pub to_entry : List ℕ × (List ℕ × (Scope × Reach)) → RawEntry
to_entry parts = record { owner = parts.0; other = parts.1.0; scope = parts.1.1.0; reach = parts.1.1.1 }

unfoldable pub entry_of : Members → Result RawEntry RefusalKind
entry_of table = beside (keys_kind entry_keys table) (good to_entry (
    both (required name_in (get_member (codes "program") table)) (
    both (required name_in (get_member (codes "with") table)) (
    both (default scope.Program scope_in (get_member (codes "scope") table))
    (default reach.Domain reach_in (get_member (codes "type") table))))))

abbrev pub entry_in : Data → Result RawEntry RefusalKind
entry_in = table_in entry_of
