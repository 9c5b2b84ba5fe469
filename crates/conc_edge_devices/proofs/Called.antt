-- What a call through a reference left behind it.
use Rattle.std.proofs.Common.{◌≡◌, Option, Some, None, IfSome, IsSomeAnd, MutBor, refl}
use Rattle.std.specs.Fn.{FnOnceReturnsAtMut, Once}

module _ {F D R : Type 0} (g : Once F (MutBor D × Unit {0}) (R × (MutBor D × Unit {0}))) (f : F) where
  -- where the reference showed what was there before
  pub called : (p q : MutBor D) (r s : R) (old new : Option D) → IfSome old (λ d. p.now ≡ d) → new ≡ Some q.now → s ≡ r → g.post f (p, tt) (r, (q, tt)) →
      IfSome old (λ before. IsSomeAnd new (λ after. FnOnceReturnsAtMut g f before s after))
  called p q r s None new shows left same post = tt
  called p q r s (Some d) new shows left same post = rw (left, same) (record { shown = p; shows = shows; left = q; met = post; leaves = refl })
