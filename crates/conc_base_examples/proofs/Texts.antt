-- Texts of moments, names and decimals.
use Rattle.std.proofs.Common.{◌≡◌, true, false, [], ◌∷◌, map, replicate, None, Some, refl}
use Rattle.std.specs.Prelude.{codes}
use Rattle.conc_base_examples.proofs.Plans.{moment, texts, nine}
use Rattle.conc_base_examples.proofs.Computed.{the_law}
use Rattle.conc_types.specs.Texts.{is_name}
use Rattle.conc_types.specs.Decimals.{decimal_value}
use Rattle.conc_base_law.specs.Moments.{date_text, moment_text}

-- ---- the texts of moments

-- the first second and the last one, and the first of the days counted from 0
borders_of_time :
    map (λ n. moment_text (moment n)) (0 ∷ 86399 ∷ 86400 ∷ 315537897599 ∷ [])
    ≡ codes "0001-01-01T00:00:00" ∷ codes "0001-01-01T23:59:59" ∷ codes "0001-01-02T00:00:00" ∷ codes "9999-12-31T23:59:59" ∷ []
unfolding the_law
borders_of_time = refl

a_monday : moment_text nine ≡ codes "2025-03-03T09:00:00"
unfolding the_law
a_monday = refl

seconds_of_a_monday : nine.seconds ≡ 63876589200
seconds_of_a_monday = refl

-- days about the end of February: in years that 4 divides, that 100 divides and that 400 divides
leap_days :
    map date_text (1154 ∷ 36217 ∷ 36218 ∷ 145790 ∷ 693653 ∷ 693654 ∷ 730178 ∷ 730179 ∷ 738944 ∷ 766702 ∷ 766703 ∷ [])
    ≡ codes "0004-02-29" ∷ codes "0100-02-28" ∷ codes "0100-03-01" ∷ codes "0400-02-29" ∷ codes "1900-02-28" ∷ codes "1900-03-01"
    ∷ codes "2000-02-29" ∷ codes "2000-03-01" ∷ codes "2024-02-29" ∷ codes "2100-02-28" ∷ codes "2100-03-01" ∷ []
unfolding the_law
leap_days = refl

-- the ends of years
ends_of_years : map date_text (738884 ∷ 739250 ∷ 739251 ∷ 3652058 ∷ []) ≡ codes "2023-12-31" ∷ codes "2024-12-31" ∷ codes "2025-01-01" ∷ codes "9999-12-31" ∷ []
unfolding the_law
ends_of_years = refl

-- ---- names

-- 1 to 80 bytes
lengths_of_names : map (λ n. is_name (replicate n 97)) (0 ∷ 1 ∷ 80 ∷ 81 ∷ []) ≡ false ∷ true ∷ true ∷ false ∷ []
unfolding texts
lengths_of_names = refl

-- no control byte: a space and a tilde are none, 31 and 127 are
bytes_of_names : map (λ byte. is_name (byte ∷ [])) (31 ∷ 32 ∷ 126 ∷ 127 ∷ []) ≡ false ∷ true ∷ true ∷ false ∷ []
unfolding texts
bytes_of_names = refl

-- UTF-8 alone: a letter of two bytes, its first byte, its second byte, a slash in two bytes, and a surrogate
characters_of_names :
    map is_name ((195 ∷ 164 ∷ []) ∷ (195 ∷ []) ∷ (164 ∷ []) ∷ (192 ∷ 175 ∷ []) ∷ (237 ∷ 160 ∷ 128 ∷ []) ∷ [])
    ≡ true ∷ false ∷ false ∷ false ∷ false ∷ []
unfolding texts
characters_of_names = refl

-- ---- decimals

-- `0`, or digits of which the first is not `0`, in 64 bits
decimals :
    map decimal_value
    (codes "0" ∷ codes "7" ∷ codes "10" ∷ codes "18446744073709551615" ∷ [])
    ≡ Some 0 ∷ Some 7 ∷ Some 10 ∷ Some 18446744073709551615 ∷ []
decimals = refl

no_decimals :
    map decimal_value
    ([] ∷ codes "01" ∷ codes "00" ∷ codes "+1" ∷ codes "-1" ∷ codes " 1" ∷ codes "1 " ∷ codes "1x" ∷ codes "18446744073709551616" ∷ [])
    ≡ None ∷ None ∷ None ∷ None ∷ None ∷ None ∷ None ∷ None ∷ None ∷ []
no_decimals = refl
