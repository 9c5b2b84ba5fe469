-- What a map of figures has at each key, once the figures of one have grown.
use Rattle.std.proofs.Common.{◌≡◌, ◌∙◌, sym, ap, refl, ℕ, ◌+◌, ℤ, ◌+ℤ◌, pos, arith, Bool, true, false, List, Option, None, Some, if◌then◌else◌}
use Rattle.std.specs.BTreeMap.{BTreeMap, UpdatesBy, get_by}
use Rattle.std.specs.Borrow.{Bor}
use Rattle.std.specs.Cmp.Lexicographic.{slice_cmp}
use Rattle.std.specs.Option.{option_map}
use Rattle.std.specs.Ordering.{nat_cmp}
use Rattle.std.specs.Str.{bytes_eq}
use Rattle.std.proofs.lemmas.Int.{ints}
use Rattle.std.proofs.lemmas.Map.Text.{btree_map_updates_str}
use Rattle.std.proofs.lemmas.Slice.Eq.{bytes_eq-Decides}
use Rattle.conc_reports.specs.declared.figures.Figures.{Figures}
use Rattle.conc_reports.specs.Figures.{shown, grown, grown_at, figures_at}

by_key : (b : Bool) (new : Figures) (value : ℤ) (before : Option Figures) → (b ≡ true → shown new ≡ grown value (option_map shown before))
    → option_map shown (if b then Some new else before) ≡ (if b then Some (grown value (option_map shown before)) else option_map shown before)
by_key true new value before same = ap (λ (f : ℕ × ℤ). Some f) (same refl)
by_key false new value before same = refl

pub figures_at-grown : (m n : BTreeMap (Bor (List ℕ)) Figures) (key : List ℕ) (value : ℤ) (new : Figures)
    → shown new ≡ grown value (figures_at m key)
    → UpdatesBy (λ x y. slice_cmp nat_cmp x.now y.now) (λ k. slice_cmp nat_cmp key k.now) m n (Some new)
    → (k : List ℕ) → figures_at n k ≡ grown_at (Some key) value (figures_at m) k
figures_at-grown m n key value new same updates k =
    let here : bytes_eq key k ≡ true → shown new ≡ grown value (figures_at m k) = λ e. rw (sym ((bytes_eq-Decides key k).0 e)) same in
    ap (option_map shown) (btree_map_updates_str key m n (Some new) updates k)
    ∙ by_key (bytes_eq key k) new value (get_by (λ q. slice_cmp nat_cmp k q.now) m) here

put-by : (b : Bool) (new : Figures) (before : Option Figures) → option_map shown (if b then Some new else before) ≡ (if b then Some (shown new) else option_map shown before)
put-by true new before = refl
put-by false new before = refl

-- the figures of one key are put
pub figures_at-put : (m n : BTreeMap (Bor (List ℕ)) Figures) (key : List ℕ) (new : Figures)
    → UpdatesBy (λ x y. slice_cmp nat_cmp x.now y.now) (λ k. slice_cmp nat_cmp key k.now) m n (Some new)
    → (k : List ℕ) → figures_at n k ≡ (if bytes_eq key k then Some (shown new) else figures_at m k)
figures_at-put m n key new updates k =
    ap (option_map shown) (btree_map_updates_str key m n (Some new) updates k)
    ∙ put-by (bytes_eq key k) new (get_by (λ q. slice_cmp nat_cmp k q.now) m)

pub shown-more : (before after : Figures) (value : ℤ) → after.count ≡ before.count + 1 → after.sum ≡ before.sum +ℤ value → shown after ≡ grown value (Some (shown before))
shown-more before after value count sum = λ i. (count i, sum i)

pub shown-first : (none first : Figures) (value : ℤ) → none.count ≡ 0 → none.sum ≡ pos 0 → first.count ≡ none.count + 1 → first.sum ≡ none.sum +ℤ value → shown first ≡ grown value None
shown-first none first value c s count sum =
    let one : first.count ≡ 1 = omega arith in
    let same : first.sum ≡ value = omega (arith, ints) in
    λ i. (one i, same i)
