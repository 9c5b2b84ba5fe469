-- What a table has at its keys.
use Rattle.std.specs.Prelude.{ℕ, if◌then◌else◌, Bool, true, ◌&&◌, List, Option, None, Some, Result, Ok}
use Rattle.std.specs.List.{list_any}
use Rattle.std.specs.Str.{bytes_eq}
use Rattle.toml.specs.Data.{Data, Members, no_members, member}
use Rattle.conc_types.specs.declared.kind.RefusalKind.{RefusalKind}
use Rattle.conc_types.specs.declared.kind.RefusalKind.TheVariants as refused
use Rattle.conc_data_fields.specs.Kinds.{good, or_kind}

-- the value of a key that has to be there: where it is not, it is `Missing`
abbrev pub required : {A : Type 0} → (Data → Result A RefusalKind) → Option Data → Result A RefusalKind
required form = or_kind refused.Missing form

-- the value of a key that may be absent
abbrev pub optional : {A : Type 0} → (Data → Result A RefusalKind) → Option Data → Result (Option A) RefusalKind
optional form None = Ok None
optional form (Some value) = good Some (form value)

-- the value of a key, or this one where the key is absent
abbrev pub default : {A : Type 0} → A → (Data → Result A RefusalKind) → Option Data → Result A RefusalKind
default otherwise form None = Ok otherwise
default otherwise form (Some value) = form value

-- the key is one of these
abbrev pub is_known : List (List ℕ) → List ℕ → Bool
is_known keys key = list_any (bytes_eq key) keys

-- the table has no key but these
unfoldable pub only : List (List ℕ) → Members → Bool
only keys no_members = true
only keys (member key value rest) = is_known keys key && only keys rest

-- what is wrong with the keys of a table: one that is not among these is `UnknownKey`
abbrev pub keys_kind : List (List ℕ) → Members → Option RefusalKind
keys_kind keys table = if only keys table then None else Some refused.UnknownKey
