-- The tables of a setup file. A value of another TOML type is `WrongKind`.
use Rattle.std.specs.Prelude.{ℕ, if◌then◌else◌, List, [], ◌∷◌, Option, None, Some, Result, Ok}
use Rattle.std.specs.Str.{bytes_eq}
use Rattle.toml.specs.Data.{Data, Members, as_str, as_table}
use Rattle.conc_types.specs.declared.kind.RefusalKind.{RefusalKind}
use Rattle.conc_types.specs.declared.kind.RefusalKind.TheVariants as refused
use Rattle.conc_data_fields.specs.Kinds.{or_kind}

-- what a table is read as by its keys
abbrev pub table_in : {A : Type 0} → (Members → Result A RefusalKind) → Data → Result A RefusalKind
table_in of value = or_kind refused.WrongKind of (as_table value)

-- what a word stands for, where it is one of these
abbrev pub one_of : {A : Type 0} → List (List ℕ × A) → List ℕ → Option A
one_of [] word = None
one_of (entry ∷ rest) word = if bytes_eq word entry.0 then Some entry.1 else one_of rest word

-- what a word is read as: one that stands for nothing is of this kind
abbrev pub word_in : {A : Type 0} → RefusalKind → (List ℕ → Option A) → Data → Result A RefusalKind
word_in kind of value = or_kind refused.WrongKind (λ word. or_kind kind Ok (of word)) (as_str value)
