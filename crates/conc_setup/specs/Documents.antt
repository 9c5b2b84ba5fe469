-- A setup file as a whole: its bytes, and what its top level gives.
use Rattle.std.specs.Prelude.{ℕ, codes, if◌then◌else◌, nat_le, List, [], ◌∷◌, length, Option, None, Result, Err}
use Rattle.std.specs.Str.{is_utf8}
use Rattle.toml.specs.Data.{Data, Items, Members, get_member, as_array}
use Rattle.toml.specs.Parse.{parse_document}
use Rattle.conc_types.specs.declared.kind.RefusalKind.{RefusalKind}
use Rattle.conc_types.specs.declared.kind.RefusalKind.TheVariants as refused
use Rattle.conc_types.specs.declared.program.Program.{Program}
use Rattle.conc_data_fields.specs.Arrays.{array_in, counted, goods, no_values, read_all}
use Rattle.conc_data_fields.specs.Fields.{default, keys_kind}
use Rattle.conc_data_fields.specs.Forms.{name_in}
use Rattle.conc_data_fields.specs.Kinds.{beside, both, judged, or_kind, proven}
use Rattle.conc_data_fields.specs.declared.values.Counted.{Counted}
use Rattle.conc_data_entries.specs.Entries.{entry_in}
use Rattle.conc_data_entries.specs.Managers.{manager_in}
use Rattle.conc_data_entries.specs.Programs.{program_in}
use Rattle.conc_data_entries.specs.Sets.{set_in}
use Rattle.conc_data_entries.specs.declared.raw.RawEntry.{RawEntry}
use Rattle.conc_data_entries.specs.declared.raw.RawManager.{RawManager}
use Rattle.conc_data_entries.specs.declared.raw.RawSet.{RawSet}
use Rattle.conc_setup.specs.Places.{places_in_all}
use Rattle.conc_setup.specs.declared.raw.Document.{Document}

-- ---- the top level

abbrev pub top_keys : List (List ℕ)
top_keys = codes "tables" ∷ codes "program" ∷ codes "incompatible" ∷ codes "manager" ∷ codes "set" ∷ []

-- so many entries at most, each with what it is read as
abbrev pub entries_of : {A : Type 0} (most : ℕ) → (Data → Result A RefusalKind) → Items → Result (Counted (Result A RefusalKind) 0 most) RefusalKind
entries_of most form items = counted 0 most (read_all form items)

-- an array of entries: another value is `WrongKind`, more entries than that are `TooMany`
unfoldable pub entries_in : {A : Type 0} (most : ℕ) → (Data → Result A RefusalKind) → Data → Result (Counted (Result A RefusalKind) 0 most) RefusalKind
entries_in most form value = or_kind refused.WrongKind (entries_of most form) (as_array value)

abbrev pub DocumentParts : Type 0
DocumentParts =
    Counted (List ℕ) 0 64 × (Counted (Result Program RefusalKind) 0 1024 × (Counted (Result RawEntry RefusalKind) 0 4096
    × (Counted (Result RawManager RefusalKind) 0 64 × Counted (Result RawSet RefusalKind) 0 256)))

-- more than 64 places of the managers with which nothing is wrong are `TooMany`
abbrev pub to_document : DocumentParts → Result Document RefusalKind
to_document parts =
    proven (nat_le (places_in_all (goods parts.1.1.1.0.list)) 64) (λ few. record {
      tables = parts.0;
      programs = parts.1.0;
      entries = parts.1.1.0;
      managers = parts.1.1.1.0;
      sets = parts.1.1.1.1;
      few_places = few;
    }) refused.TooMany

-- the top level of a file, or the least kind of what is wrong with the file as a whole
unfoldable pub document_of : Members → Result Document RefusalKind
document_of file = beside (keys_kind top_keys file) (judged to_document (
    both (default (no_values 64) (array_in 0 64 name_in) (get_member (codes "tables") file)) (
    both (default (no_values 1024) (entries_in 1024 program_in) (get_member (codes "program") file)) (
    both (default (no_values 4096) (entries_in 4096 entry_in) (get_member (codes "incompatible") file)) (
    both (default (no_values 64) (entries_in 64 manager_in) (get_member (codes "manager") file))
    (default (no_values 256) (entries_in 256 set_in) (get_member (codes "set") file)))))))

-- ---- bytes

-- the table that the bytes are, if they are a text that is TOML
abbrev pub table_in : List ℕ → Option Members
table_in bytes = if is_utf8 bytes then parse_document bytes else None

-- a file of more than 67,108,864 bytes is `TooMany`, and one that is not TOML `NotToml`
unfoldable pub document_in : List ℕ → Result Document RefusalKind
document_in bytes = if nat_le (length bytes) 67108864 then or_kind refused.NotToml document_of (table_in bytes) else Err refused.TooMany
