-- What a sequence ends as, once a `&mut` into it has ended.
use Rattle.std.specs.Prelude.{ℕ, List, Option, slice_set}
use Rattle.std.specs.Borrow.{Fml, RattleType, MutBor, LendsIf}
use Rattle.conc_types.specs.contracts.seq.Seq.{the_row}

module _ (R : RattleType) (s : MutBor (List R.Denot)) where
  -- the item at the index is the last value written through r, and at `None` the sequence stays as it is
  abbrev pub lends_item : ℕ → Option (MutBor R.Denot) → Fml
  lends_item i r = LendsIf (the_row R) R s r (λ w. slice_set s.now i w) s.now
