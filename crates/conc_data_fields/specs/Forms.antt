-- The forms of single values. A value of another TOML type is `WrongKind`, one outside its form `OutOfRange`.
use Rattle.std.specs.Prelude.{ℕ, ℤ, pos, negsuc, if◌then◌else◌, Bool, IsTrue, refl, [], List, Result, Ok, Err}
use lib.Dec.{leb-zero}
use Rattle.std.proofs.lemmas.Bool.{and_from}
use Rattle.std.specs.Str.{chars, is_utf8}
use Rattle.toml.specs.Data.{Data, as_bool, as_integer, as_str}
use Rattle.conc_types.specs.declared.kind.RefusalKind.{RefusalKind}
use Rattle.conc_types.specs.declared.kind.RefusalKind.TheVariants as refused
use Rattle.conc_types.specs.Texts.{is_name, is_text}
use Rattle.conc_data_fields.specs.Kinds.{or_kind, proven}
use Rattle.conc_data_fields.specs.declared.values.ShortText.{ShortText}

-- a name
abbrev pub name_of : List ℕ → Result (List ℕ) RefusalKind
name_of bytes = if is_name bytes then Ok bytes else Err refused.OutOfRange

abbrev pub name_in : Data → Result (List ℕ) RefusalKind
name_in value = or_kind refused.WrongKind name_of (as_str value)

-- a text of at most so many bytes without control bytes
abbrev pub text_of : (most : ℕ) → List ℕ → Result (ShortText most) RefusalKind
text_of most bytes = proven (is_text most bytes) (λ short. record { text = bytes; short = short }) refused.OutOfRange

abbrev pub text_in : (most : ℕ) → Data → Result (ShortText most) RefusalKind
text_in most value = or_kind refused.WrongKind (text_of most) (as_str value)

-- no bytes are a text of any limit
pub is_text-empty : (most : ℕ) → IsTrue (is_text most [])
unfolding chars is_utf8
is_text-empty most = and_from _ _ (and_from _ _ (leb-zero most) refl) refl

abbrev pub no_text : (most : ℕ) → ShortText most
no_text most = record { text = []; short = is_text-empty most }

-- a truth value
abbrev pub truth_in : Data → Result Bool RefusalKind
truth_in value = or_kind refused.WrongKind Ok (as_bool value)

-- a whole number from 0
abbrev pub whole_of : ℤ → Result ℕ RefusalKind
whole_of (pos n) = Ok n
whole_of (negsuc n) = Err refused.OutOfRange

abbrev pub whole_in : Data → Result ℕ RefusalKind
whole_in value = or_kind refused.WrongKind whole_of (as_integer value)
