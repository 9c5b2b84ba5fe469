-- The flags of the commands, after one more event.
use Rattle.std.proofs.Common.{◌≡◌, ℕ, zero, suc, ◌+◌, ◌-◌, ◌<◌, true, false, ◌&&◌, ◌||◌, ◌==◌, List, [], ◌∷◌, map, length, Some, slice_get, slice_set, refl, ◌∙◌, ap, sym, arith, inl, inr}
use Rattle.std.specs.Prelude.{nat_lt, nat_le}
use Rattle.std.proofs.lemmas.Bool.{cases_Bool, ne_eqb, or_left}
use Rattle.std.proofs.lemmas.Bool.Decides.{nat_tests}
use Rattle.std.proofs.lemmas.Option.{slice_get_within}
use Rattle.std.proofs.lemmas.List.{length-map}
use Rattle.std.specs.List.{enumerate_from}
use Rattle.conc_types.specs.declared.event.Event.{Event}
use Rattle.conc_types.specs.declared.event.Event.TheVariants as event
use Rattle.conc_types.specs.declared.script.Order.{Order}
use Rattle.conc_base_law.specs.State.{is_done}
use Rattle.conc_event_effects.specs.Advance.{done_after, marked}

-- two functions that agree at each element
map-alike : {A B : Type 0} (f g : A → B) (xs : List A) → ((i : ℕ) (x : A) → slice_get xs i ≡ Some x → f x ≡ g x) → map f xs ≡ map g xs
map-alike f g [] h = refl
map-alike f g (x ∷ xs) h =
    let a : f x ≡ g x = h 0 x refl in
    let b : map f xs ≡ map g xs = map-alike f g xs (λ i y k. h (suc i) y k) in
    cc

-- two functions that agree but at one place, which is set
set-map : {A B : Type 0} (f g : A → B) (xs : List A) (k : ℕ) (v : B)
    → ((i : ℕ) (x : A) → slice_get xs i ≡ Some x → i ≡ k → v ≡ g x)
    → ((i : ℕ) (x : A) → slice_get xs i ≡ Some x → (i ≡ k → ⊥) → f x ≡ g x)
    → slice_set (map f xs) k v ≡ map g xs
set-map f g [] k v here other = refl
set-map f g (x ∷ xs) zero v here other =
    let a : v ≡ g x = here 0 x refl refl in
    let b : map f xs ≡ map g xs = map-alike f g xs (λ i y h. other (suc i) y h (λ z. omega arith)) in
    cc
set-map f g (x ∷ xs) (suc k) v here other =
    let a : f x ≡ g x = other 0 x refl (λ z. omega arith) in
    let b : slice_set (map f xs) k v ≡ map g xs =
    set-map f g xs k v (λ i y h z. here (suc i) y h (omega arith)) (λ i y h z. other (suc i) y h (λ w. z (omega arith))) in
    cc

-- the numbers of a list
enumerated-at : {T : Type 0} (n : ℕ) (xs : List T) (i : ℕ) (x : ℕ × T) → slice_get (enumerate_from n xs) i ≡ Some x → x.0 ≡ n + i
enumerated-at n [] i x h = cc
enumerated-at n (y ∷ ys) zero x h = let same : (n, y) ≡ x = cc in ap (λ z. z.0) (sym same) ∙ omega arith
enumerated-at n (y ∷ ys) (suc i) x h = enumerated-at (n + 1) ys i x h ∙ omega arith

-- a place of the list has a number that is in bounds
outside : (n i l : ℕ) → n ≡ 1 + i → i < l → (nat_lt 0 n && nat_le n l) ≡ false → ⊥
outside n i l e h f = grind (arith, nat_tests)

-- equal numbers pass the test
equal-test : (n m : ℕ) → n ≡ m → (n == m) ≡ true
equal-test n m e = grind (arith, nat_tests)

-- a command marks its own flag, and no other
marked-map : (past : List Event) (n : ℕ) (xs : List Order)
    → marked (map (is_done past) (enumerate_from 1 xs)) n ≡ map (is_done (event.Command n ∷ past)) (enumerate_from 1 xs)
unfolding is_done
marked-map past n xs = elim (cases_Bool (nat_lt 0 n && nat_le n (length (map (is_done past) (enumerate_from 1 xs))))) [
  | inl t ↦
      let within : (n ≡ 0) → ⊥ = grind (arith, nat_tests) in
      rw t (set-map (is_done past) (is_done (event.Command n ∷ past)) (enumerate_from 1 xs) (n - 1) true
      (λ i x h same. sym (or_left _ _ (equal-test n x.0 (omega (arith, enumerated-at 1 xs i x h, same, within)))))
      (λ i x h other. sym (ap (λ b. b || is_done past x) (ne_eqb n x.0 (λ same. other (omega (arith, enumerated-at 1 xs i x h, same)))))))
  | inr f ↦ rw f (map-alike (is_done past) (is_done (event.Command n ∷ past)) (enumerate_from 1 xs)
      (λ i x h. sym (ap (λ b. b || is_done past x) (ne_eqb n x.0 (λ same.
      outside n i _ (same ∙ enumerated-at 1 xs i x h) (rw length-map (slice_get_within _ i x h)) f)))))
]

-- the flags after one more event
pub done-step : (past : List Event) (e : Event) (xs : List Order)
    → done_after (map (is_done past) (enumerate_from 1 xs)) e ≡ map (is_done (e ∷ past)) (enumerate_from 1 xs)
unfolding is_done
done-step past (event.Command n) xs = marked-map past n xs
done-step past _ xs = refl
