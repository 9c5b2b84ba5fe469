-- No measure can become less for ever.
use Rattle.std.proofs.Common.{◌≡◌, ℕ, zero, suc, ◌<◌, refl, ◌∙◌, subst, inl, inr, arith}
use Rattle.conc_run_progress.specs.Measure.{IsLess, Measure}

-- each is less than the one before
abbrev Falls : (ℕ → Measure) → Type 0
Falls chain = (i : ℕ) → IsLess (chain (suc i)) (chain i)

-- numbers
not_below : (a : ℕ) → a < 0 → ⊥
not_below a less = omega (arith, less)

below_next : (a : ℕ) → a < suc a
below_next a = omega arith

below_both : (a b c : ℕ) → a < b → b < suc c → a < c
below_both a b c first second = omega (arith, first, second)

-- no chain begins with few events
abbrev NoneWithEvents : ℕ → Type 0
NoneWithEvents e = (chain : ℕ → Measure) → Falls chain → (chain 0).events < e → ⊥

-- nor while the number of events stays, and the number of what is unfit is small
abbrev NoneUnfit : ℕ → ℕ → Type 0
NoneUnfit e u = (chain : ℕ → Measure) → Falls chain → (chain 0).events ≡ e → (chain 0).unfit < u → ⊥

-- nor, with so much of both, with little weight
abbrev NoneWeighs : ℕ → ℕ → ℕ → Type 0
NoneWeighs e u w = (chain : ℕ → Measure) → Falls chain → (chain 0).events ≡ e → (chain 0).unfit ≡ u → (chain 0).weight < w → ⊥

weight_case : (e u w : ℕ) → NoneWithEvents e → NoneUnfit e u → NoneWeighs e u w → (chain : ℕ → Measure) → Falls chain → (chain 0).events ≡ e → (chain 0).unfit ≡ u → (chain 0).weight < suc w
    → IsLess (chain 1) (chain 0) → ⊥
weight_case e u w events unfit weighs chain falls same_events same_unfit less (inl x) =
    events (λ i. chain (suc i)) (λ i. falls (suc i)) (subst (λ (n : ℕ). (chain 1).events < n) same_events x)
weight_case e u w events unfit weighs chain falls same_events same_unfit less (inr (x, inl y)) =
    unfit (λ i. chain (suc i)) (λ i. falls (suc i)) (x ∙ same_events) (subst (λ (n : ℕ). (chain 1).unfit < n) same_unfit y)
weight_case e u w events unfit weighs chain falls same_events same_unfit less (inr (x, inr (y, z))) =
    weighs (λ i. chain (suc i)) (λ i. falls (suc i)) (x ∙ same_events) (y ∙ same_unfit) (below_both (chain 1).weight (chain 0).weight w z less)

by_weight : (w e u : ℕ) → NoneWithEvents e → NoneUnfit e u → NoneWeighs e u w
by_weight zero e u events unfit chain falls same_events same_unfit less = not_below (chain 0).weight less
by_weight (suc w) e u events unfit chain falls same_events same_unfit less =
    weight_case e u w events unfit (by_weight w e u events unfit) chain falls same_events same_unfit less (falls 0)

by_unfit : (u e : ℕ) → NoneWithEvents e → NoneUnfit e u
by_unfit zero e events chain falls same_events less = not_below (chain 0).unfit less
by_unfit (suc u) e events chain falls same_events less =
    by_weight (suc (chain 0).weight) e (chain 0).unfit events
    (λ other more same under. by_unfit u e events other more same (below_both (other 0).unfit (chain 0).unfit u under less)) chain falls same_events refl (below_next (chain 0).weight)

by_events : (e : ℕ) → NoneWithEvents e
by_events zero chain falls less = not_below (chain 0).events less
by_events (suc e) chain falls less =
    by_unfit (suc (chain 0).unfit) (chain 0).events
    (λ other more under. by_events e other more (below_both (other 0).events (chain 0).events e under less)) chain falls refl (below_next (chain 0).unfit)

pub none_falls : (chain : ℕ → Measure) → ((i : ℕ) → IsLess (chain (suc i)) (chain i)) → ⊥
none_falls chain falls = by_events (suc (chain 0).events) chain falls (below_next (chain 0).events)
