-- The header is a record of nine fields of UTF-8.
use Rattle.std.proofs.Common.{◌≡◌, refl, ap, sym, true, false, [], ◌∷◌}
use Rattle.std.specs.Str.{bytes_eq, chars, is_utf8}
use Rattle.std.proofs.lemmas.Bool.{and_parts, false_from_ne_true}
use Rattle.std.proofs.lemmas.Slice.Eq.{bytes_eq-Decides}
use lib.Utf8.{encode}
use Rattle.conc_data_records.specs.Records.{Record}
use Rattle.conc_repeat.specs.Refusing.{is_record, same_fields}
use Rattle.conc_repeat.specs.Series.{header}

header_is_record : is_record header ≡ true
unfolding is_record is_utf8 chars encode
header_is_record = refl

pub same_record : (r s : Record) → same_fields r s ≡ true → r ≡ s
same_record [] [] e = refl
same_record [] (y ∷ s) e = absurd cc
same_record (x ∷ r) [] e = absurd cc
same_record (x ∷ r) (y ∷ s) e =
    let parts = and_parts (bytes_eq x y) (same_fields r s) e in
    let head : x ≡ y = (bytes_eq-Decides x y).0 parts.0 in
    let tail : r ≡ s = same_record r s parts.1 in
    rw (head, tail) refl

pub no_header : (r : Record) → is_record r ≡ false → false ≡ same_fields r header
no_header r e = sym (false_from_ne_true (same_fields r header) (λ same. let is = header_is_record in let eq = ap is_record (same_record r header same) in absurd cc))
