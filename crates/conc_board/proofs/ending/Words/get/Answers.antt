use Rattle.std.proofs.Common.{◌≡◌, ◌≤◌, ℕ, zero, suc, List, [], ◌∷◌, Some, ap, arith, length, subst, sym}
use Rattle.std.proofs.lemmas.Option.{slice_get_past}
use Rattle.std.specs.Prelude.{slice_get}
use mathlib.Core.Option.{some, some-injective, some-ne-none}
use lib.ListN.{get_elem?}
use Rattle.conc_board.proofs.ending.Words.get.Goals as goal

-- the element that one look-up finds, the other finds too
found : (xs : List ℕ) (i x : ℕ) → get_elem? xs i ≡ some x → slice_get xs i ≡ Some x
found [] i x e = absurd (some-ne-none x (sym e))
found (y ∷ ys) zero x e = ap Some (some-injective y x e)
found (y ∷ ys) (suc i) x e = found ys i x e

pub returns-then-index-len : goal.returns-then-index-len
returns-then-index-len c = sym (subst (λ (xs : List ℕ). slice_get xs c.args.index ≡ Some c.word.result) c.self.view_is (found _ c.args.index c.word.result c.word.ensures))

pub returns-else-index-len : goal.returns-else-index-len
returns-else-index-len c = sym (slice_get_past c.args.self.now c.args.index (let past : length c.args.self.now ≤ c.args.index = omega arith in past))
