-- The least kind of what is wrong, taken from the last on.
use Rattle.std.proofs.Common.{◌≡◌, ℕ, ◌+◌, ◌-◌, ◌<◌, List, length, drop, get_or, Option, None, Result, sym, ap, ◌∙◌, le_refl, arith}
use Rattle.std.proofs.lemmas.List.{at_drop_all, at_drop_more}
use Rattle.conc_types.specs.declared.kind.RefusalKind.{RefusalKind}
use Rattle.conc_data_fields.specs.Arrays.{lesser, worst}

module _ {A : Type 0} (xs : List (Result A RefusalKind)) where
  pub worst-none : None ≡ worst (drop (length xs) xs)
  unfolding worst
  worst-none = sym (at_drop_all worst xs (length xs) (le_refl (length xs)))

  -- with the one before it
  pub worst-more : (i : ℕ) (x : Result A RefusalKind) (least : Option RefusalKind) → 0 < i → i - 1 < length xs → x ≡ get_or xs (i - 1) x → least ≡ worst (drop i xs) →
      lesser x least ≡ worst (drop (i - 1) xs)
  unfolding worst
  worst-more i x least some within is so_far =
      let next : (i - 1) + 1 ≡ i = omega arith in
      ap (lesser x) (so_far ∙ ap (λ j. worst (drop j xs)) (sym next))
      ∙ ap (λ y. lesser y (worst (drop ((i - 1) + 1) xs))) is
      ∙ sym (at_drop_more worst xs (i - 1) x within)
