-- Specialization rules, as the tables of a setup file give them.
use Rattle.std.specs.Prelude.{ℕ, codes, List, [], ◌∷◌, Option, Result}
use Rattle.toml.specs.Data.{Data, Members, get_member}
use Rattle.conc_types.specs.declared.kind.RefusalKind.{RefusalKind}
use Rattle.conc_types.specs.declared.kind.RefusalKind.TheVariants as refused
use Rattle.conc_data_fields.specs.Fields.{keys_kind, optional}
use Rattle.conc_data_fields.specs.Forms.{name_in, text_in}
use Rattle.conc_data_fields.specs.Kinds.{beside, both, judged, proven}
use Rattle.conc_data_fields.specs.declared.values.ShortText.{ShortText}
use Rattle.conc_data_entries.specs.Named.{names_any}
use Rattle.conc_data_entries.specs.declared.raw.RawRule.{RawRule}
use Rattle.conc_data_entries.specs.Tables.{table_in}

abbrev pub rule_keys : List (List ℕ)
rule_keys = codes "program" ∷ codes "type" ∷ codes "user" ∷ []

-- a rule that names nothing lacks a name, which is `Missing`
abbrev pub to_rule : Option (List ℕ) × (Option (ShortText 80) × Option (List ℕ)) → Result RawRule RefusalKind
to_rule parts =
    proven (names_any parts.0 parts.1.0 parts.1.1) (λ names. record { program = parts.0; request_type = parts.1.0; user = parts.1.1; names = names }) refused.Missing

unfoldable pub rule_of : Members → Result RawRule RefusalKind
rule_of table = beside (keys_kind rule_keys table) (judged to_rule (
    both (optional name_in (get_member (codes "program") table)) (
    both (optional (text_in 80) (get_member (codes "type") table))
    (optional name_in (get_member (codes "user") table)))))

abbrev pub rule_in : Data → Result RawRule RefusalKind
rule_in = table_in rule_of
