-- Names as text.
use Rattle.std.proofs.Common.{◌≡◌, Bool, true, false, List, [], ℕ, refl, sym, ap, if◌then◌else◌}
use Rattle.std.specs.Str.{IsUtf8, is_utf8}
use Rattle.std.proofs.lemmas.Str.{IsUtf8-from_is_utf8, is_utf8-from_IsUtf8}
use Rattle.conc_show_timeline.specs.Names.{readable}

pub readable_text : (name : List ℕ) → IsUtf8 name → name ≡ readable name
readable_text name is = sym (ap (λ (b : Bool). if b then name else []) (is_utf8-from_IsUtf8 name is))

by_test : (name : List ℕ) (b : Bool) → is_utf8 name ≡ b → (IsUtf8 name → ⊥) → [] ≡ (if b then name else [])
by_test name true is not = absurd (not (IsUtf8-from_is_utf8 name is))
by_test name false is not = refl

pub readable_none : (name : List ℕ) → (IsUtf8 name → ⊥) → [] ≡ readable name
readable_none name not = by_test name (is_utf8 name) refl not
