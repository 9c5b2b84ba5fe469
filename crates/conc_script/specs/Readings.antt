-- What the reader of a clock has read of its lines.
use Rattle.std.specs.Prelude.{◌≡◌, ℕ, ◌≤◌, Bool, true, nat_lt, List, [], ◌∷◌, length, map, Option, None, Some, is_none}
use Rattle.conc_types.specs.declared.kind.RefusalKind.{RefusalKind}
use Rattle.conc_types.specs.declared.kind.RefusalKind.TheVariants as refused
use Rattle.conc_types.specs.declared.script.Reading.{Reading}
use Rattle.conc_types.specs.Faults.{first_fault}
use Rattle.conc_types.specs.Scripts.{are_in_order}
use Rattle.conc_script.specs.Clock.{is_earlier, line_kind, reading_of}

-- the rules of a line with a number, in their order, with whether it breaks them: for the reading that it is, and the one before
abbrev pub line_rules : ℕ → Option Reading → Option Reading → List (Bool × RefusalKind)
line_rules number q before = (nat_lt 65536 number, refused.TooManyLines) ∷ (is_none q, refused.BadField) ∷ (is_earlier q before, refused.ClockBack) ∷ []

-- no line breaks a rule, and these are their readings
pub record ReadsLines (lines : List (List ℕ)) (readings : List Reading) : Type 0 where
  pub faultless : first_fault (line_kind lines) 1 (length lines) ≡ None
  pub list : map reading_of lines ≡ map (λ q. Some q) readings
  pub few : length readings ≤ 65536
  pub in_order : are_in_order readings ≡ true
