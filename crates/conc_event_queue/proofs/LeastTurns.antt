-- The least turn of requests, by parts.
use Rattle.std.proofs.Common.{◌≡◌, ℕ, zero, suc, ◌+◌, ◌<◌, ◌≤◌, Bool, true, false, ◌&&◌, ◌||◌, cond, List, [], ◌∷◌, length, get_or, drop, Option, None, Some, if◌then◌else◌, refl, sym, ◌∙◌, ap, add-one, inl, inr, arith}
use Rattle.std.specs.Prelude.{nat_lt}
use Rattle.std.specs.Bool.{then_some}
use Rattle.std.specs.List.{filter}
use Rattle.std.proofs.lemmas.Bool.Decides.{nat_tests}
use Rattle.conc_types.specs.declared.plan.Req.{Req}
use Rattle.conc_base_law.specs.Words.{Has}
use Rattle.conc_event_queue.specs.Least.{least, lesser}
use Rattle.conc_event_queue.specs.Turns.{turn, turns_of}

-- ---- the lesser of two

lesser-assoc : (x y z : Option ℕ) → lesser (lesser x y) z ≡ lesser x (lesser y z)
lesser-assoc None y z = refl
lesser-assoc (Some a) None z = refl
lesser-assoc (Some a) (Some b) None = refl
lesser-assoc (Some a) (Some b) (Some c) = ap (λ n. Some n) (numbers a b c) where
  numbers : (a b c : ℕ) → (if nat_lt c (if nat_lt b a then b else a) then c else (if nat_lt b a then b else a))
      ≡ (if nat_lt (if nat_lt c b then c else b) a then (if nat_lt c b then c else b) else a)
  numbers a b c = grind (arith, nat_tests)

pub lesser-none : (x : Option ℕ) → lesser x None ≡ x
lesser-none None = refl
lesser-none (Some a) = refl

lesser-comm : (x y : Option ℕ) → lesser x y ≡ lesser y x
lesser-comm None None = refl
lesser-comm None (Some b) = refl
lesser-comm (Some a) None = refl
lesser-comm (Some a) (Some b) = ap (λ n. Some n) (numbers a b) where
  numbers : (a b : ℕ) → (if nat_lt b a then b else a) ≡ (if nat_lt a b then a else b)
  numbers a b = grind (arith, nat_tests)

lesser-self : (x : Option ℕ) → lesser x x ≡ x
lesser-self None = refl
lesser-self (Some a) = ap (λ n. Some n) (numbers a) where
  numbers : (a : ℕ) → (if nat_lt a a then a else a) ≡ a
  numbers a = grind (arith, nat_tests)

-- two pairs, crosswise
lesser-cross : (x y z w : Option ℕ) → lesser (lesser x y) (lesser z w) ≡ lesser (lesser x z) (lesser y w)
lesser-cross x y z w =
    lesser-assoc x y (lesser z w)
    ∙ ap (lesser x) (sym (lesser-assoc y z w) ∙ ap (λ o. lesser o w) (lesser-comm y z) ∙ lesser-assoc z y w)
    ∙ sym (lesser-assoc x z (lesser y w))

-- ---- the least turn

-- those that pass one of two tests
pub least-or : (a b : Req → Bool) (xs : List Req) → least (turns_of (λ r. a r || b r) xs) ≡ lesser (least (turns_of a xs)) (least (turns_of b xs))
unfolding least turns_of
least-or a b [] = refl
least-or a b (x ∷ xs) =
    ap (lesser (then_some (a x || b x) (turn x))) (least-or a b xs)
    ∙ ap (λ o. lesser o (lesser (least (turns_of a xs)) (least (turns_of b xs)))) (either (a x) (b x) (turn x))
    ∙ lesser-cross (then_some (a x) (turn x)) (then_some (b x) (turn x)) (least (turns_of a xs)) (least (turns_of b xs)) where
      either : (p q : Bool) (t : ℕ) → then_some (p || q) t ≡ lesser (then_some p t) (then_some q t)
      either true true t = sym (lesser-self (Some t))
      either true false t = refl
      either false true t = refl
      either false false t = refl

-- those of a filter
pub least-filter : (p t : Req → Bool) (xs : List Req) → least (turns_of t (filter p xs)) ≡ least (turns_of (λ r. p r && t r) xs)
unfolding least turns_of
least-filter p t [] = refl
least-filter p t (x ∷ xs) = by (p x) (least-filter p t xs) where
  by : (b : Bool) → least (turns_of t (filter p xs)) ≡ least (turns_of (λ r. p r && t r) xs)
      → least (turns_of t (cond b (x ∷ filter p xs) (filter p xs))) ≡ lesser (then_some (b && t x) (turn x)) (least (turns_of (λ r. p r && t r) xs))
  by true rest = ap (lesser (then_some (t x) (turn x))) rest
  by false rest = rest

-- where none passes
pub least_of-none : (t : Req → Bool) (xs : List Req) → ((y : Req) → Has xs y → t y ≡ false) → least (turns_of t xs) ≡ None
unfolding least turns_of
least_of-none t [] h = refl
least_of-none t (x ∷ xs) h =
    ap (λ b. lesser (then_some b (turn x)) (least (turns_of t xs))) (h x (inl refl)) ∙ least_of-none t xs (λ y has. h y (inr has))

-- ---- one request more

least-step : (t : Req → Bool) (xs : List Req) (k : ℕ) (x : Req) (best : Option ℕ) → k < length xs → x ≡ get_or xs k x
    → lesser (lesser best (then_some (t x) (turn x))) (least (turns_of t (drop (suc k) xs))) ≡ lesser best (least (turns_of t (drop k xs)))
unfolding least turns_of
least-step t [] k x best h e = absurd (omega arith)
least-step t (y ∷ ys) zero x best h e =
    ap (λ w. lesser (lesser best (then_some (t w) (turn w))) (least (turns_of t ys))) e ∙ lesser-assoc best (then_some (t y) (turn y)) (least (turns_of t ys))
least-step t (y ∷ ys) (suc k) x best h e = least-step t ys k x best (omega arith) e

pub least-next : (t : Req → Bool) (xs : List Req) (k : ℕ) (x : Req) (best : Option ℕ) → k < length xs → x ≡ get_or xs k x
    → lesser (lesser best (then_some (t x) (turn x))) (least (turns_of t (drop (k + 1) xs))) ≡ lesser best (least (turns_of t (drop k xs)))
least-next t xs k x best h e = rw (add-one k) (least-step t xs k x best h e)

pub least-end : (t : Req → Bool) (xs : List Req) (k : ℕ) (best : Option ℕ) → length xs ≤ k → lesser best (least (turns_of t (drop k xs))) ≡ best
unfolding least turns_of
least-end t [] zero best h = lesser-none best
least-end t [] (suc k) best h = lesser-none best
least-end t (y ∷ ys) zero best h = absurd (omega arith)
least-end t (y ∷ ys) (suc k) best h = least-end t ys k best (omega arith)
