-- The first of a list by an order, against what it means.
use Rattle.std.proofs.Common.{◌≡◌, ◌⊎◌, Bool, true, false, not, ◌&&◌, List, [], ◌∷◌, None, Some, refl, sym, ◌∙◌, ap, inl, inr, arith}
use Rattle.std.proofs.lemmas.Bool.{and_parts, and_from, and_left, and_right, or_left, or_right, or_from, not-true, not_from_false, cases_Bool, false_from_ne_true, both_ways}
use Rattle.std.proofs.lemmas.Bool.Decides.{nat_tests}
use Rattle.std.specs.List.{find, list_any}
use Rattle.conc_types.specs.declared.plan.Req.{Req}
use Rattle.conc_base_law.specs.Plans.{precedes}
use Rattle.conc_base_law.specs.Words.{first_by, Has}

-- what a search finds passes and is an element
pub find-some : {T : Type 0} (test : T → Bool) (xs : List T) (x : T) → find test xs ≡ Some x → (test x ≡ true) × Has xs x
find-some test [] x h = cc
find-some test (y ∷ ys) x h = elim (cases_Bool (test y)) [
  | inl hit ↦ let same : Some y ≡ Some x = rw hit at h in let e : y ≡ x = cc in (rw (← e) hit, inl (sym e))
  | inr miss ↦ let later : find test ys ≡ Some x = rw miss at h in let r : (test x ≡ true) × Has ys x = find-some test ys x later in (r.0, inr r.1)
]

-- a search finds something where an element passes
pub find-found : {T : Type 0} (test : T → Bool) (xs : List T) (x : T) → Has xs x → test x ≡ true → (y : T) × (find test xs ≡ Some y)
find-found test [] x h t = absurd h
find-found test (y ∷ ys) x h t = elim (cases_Bool (test y)) [
  | inl hit ↦ (y, rw hit)
  | inr miss ↦ elim h [
    | inl e ↦ absurd (both_ways (test y) miss (rw e at t))
    | inr later ↦ let r : (z : _) × (find test ys ≡ Some z) = find-found test ys x later t in (r.0, rw miss r.1)
  ]
]

-- some element passes where one does
pub any-some : {T : Type 0} (test : T → Bool) (xs : List T) (x : T) → Has xs x → test x ≡ true → list_any test xs ≡ true
any-some test [] x h t = absurd h
any-some test (y ∷ ys) x h t = elim h [
  | inl e ↦ or_left _ _ (rw e at t)
  | inr later ↦ or_right _ _ (any-some test ys x later t)
]

-- x passes, and no other one that passes stands before it
pub record IsFirst {T : Type 0} (before : T → T → Bool) (test : T → Bool) (xs : List T) (x : T) : Type 0 where
  pub element : Has xs x
  pub passes : test x ≡ true
  pub first : (y : T) → Has xs y → test y ≡ true → before y x ≡ false

-- of two elements that differ one stands before the other
pub record IsConnected {T : Type 0} (before : T → T → Bool) (xs : List T) : Type 0 where
  pub same : (x y : T) → Has xs x → Has xs y → before x y ≡ false → before y x ≡ false → x ≡ y

-- no element passes where none does
pub none_any : {T : Type 0} (test : T → Bool) (xs : List T) → ((y : T) → Has xs y → test y ≡ false) → list_any test xs ≡ false
none_any test [] h = refl
none_any test (y ∷ ys) h = or_from _ _ (h y (inl refl)) (none_any test ys (λ z k. h z (inr k)))

-- the first of a list by an order is the one that is first
pub first_by-is : {T : Type 0} (before : T → T → Bool) (test : T → Bool) (xs : List T) (x : T)
    → IsConnected before xs → IsFirst before test xs x → first_by before test xs ≡ Some x
first_by-is {T} before test xs x c h =
    let behind : T → T → Bool = λ z y. test y && before y z in
    let none : list_any (behind x) xs ≡ false = none_any (behind x) xs (λ y k. elim (cases_Bool (test y)) [ inl t ↦ and_right _ _ (h.first y k t) | inr f ↦ and_left _ _ f ]) in
    let here : (test x && not (list_any (behind x) xs)) ≡ true = and_from _ _ h.passes (not_from_false _ none) in
    let found : (y : T) × (first_by before test xs ≡ Some y) = find-found (λ z. test z && not (list_any (behind z) xs)) xs x h.element here in
    let y = found.0 in
    let r : ((test y && not (list_any (behind y) xs)) ≡ true) × Has xs y = find-some (λ z. test z && not (list_any (behind z) xs)) xs y found.1 in
    let p : (test y ≡ true) × (not (list_any (behind y) xs) ≡ true) = and_parts _ _ r.0 in
    let not_behind : before x y ≡ false = false_from_ne_true _ (λ b. both_ways _ (not-true _ p.1) (any-some (behind y) xs x h.element (and_from _ _ h.passes b))) in
    let same : y ≡ x = c.same y x r.1 h.element (h.first y r.1 p.0) not_behind in
    found.1 ∙ ap (λ z. Some z) same

-- ---- where there is none

-- no element stands before itself, and what stands before another stands before all that this one does
pub record IsOrder {T : Type 0} (before : T → T → Bool) : Type 0 where
  pub irreflexive : (x : T) → before x x ≡ false
  pub transitive : (x y z : T) → before x y ≡ true → before y z ≡ true → before x z ≡ true

-- one that passes is first in a list, or none passes
first_or_none : {T : Type 0} (before : T → T → Bool) (test : T → Bool) (xs : List T) → IsOrder before
    → ((y : T) × IsFirst before test xs y) ⊎ ((x : T) → Has xs x → test x ≡ false)
first_or_none before test [] order = inr (λ x h. absurd h)
first_or_none {T} before test (z ∷ zs) order = elim (cases_Bool (test z)) [
  | inr off ↦ elim (first_or_none before test zs order) [
    | inl f ↦ inl (
      f.0,
      record {
        element = inr f.1.element;
        passes = f.1.passes;
        first = λ y h t. elim h [ inl e ↦ absurd (both_ways _ off (ap test (sym e) ∙ t)) | inr later ↦ f.1.first y later t ];
      },
    )
    | inr none ↦ inr (λ x h. elim h [ inl e ↦ ap test e ∙ off | inr later ↦ none x later ])
  ]
  | inl on ↦ elim (first_or_none before test zs order) [
    | inl f ↦ elim (cases_Bool (before z f.0)) [
      | inl ahead ↦ inl (
        z,
        record {
          element = inl refl;
          passes = on;
          first = λ y h t. elim h [
            | inl e ↦ ap (λ w. before w z) e ∙ order.irreflexive z
            | inr later ↦ false_from_ne_true _ (λ b. both_ways _ (f.1.first y later t) (order.transitive y z f.0 b ahead))
          ];
        },
      )
      | inr behind ↦ inl (
        f.0,
        record {
          element = inr f.1.element;
          passes = f.1.passes;
          first = λ y h t. elim h [ inl e ↦ ap (λ w. before w f.0) e ∙ behind | inr later ↦ f.1.first y later t ];
        },
      )
    ]
    | inr none ↦ inl (
      z,
      record {
        element = inl refl;
        passes = on;
        first = λ y h t. elim h [ inl e ↦ ap (λ w. before w z) e ∙ order.irreflexive z | inr later ↦ absurd (both_ways _ (none y later) t) ];
      },
    )
  ]
]

-- where none is first by an order, none passes
pub first_by-none : {T : Type 0} (before : T → T → Bool) (test : T → Bool) (xs : List T) → IsOrder before → first_by before test xs ≡ None
    → (x : T) → Has xs x → test x ≡ false
first_by-none {T} before test xs order h = elim (first_or_none before test xs order) [
  | inr none ↦ none
  | inl f ↦
      let y = f.0 in
      let behind : T → Bool = λ z. test z && before z y in
      let none : list_any behind xs ≡ false =
      none_any behind xs (λ z k. elim (cases_Bool (test z)) [ inl t ↦ and_right _ _ (f.1.first z k t) | inr g ↦ and_left _ _ g ]) in
      let here : (test y && not (list_any behind xs)) ≡ true = and_from _ _ f.1.passes (not_from_false _ none) in
      let some : (z : T) × (first_by before test xs ≡ Some z) =
      find-found (λ x. test x && not (list_any (λ z. test z && before z x) xs)) xs y f.1.element here in
      λ x k. absurd (cc (h, some.1))
]

-- ---- precedence

-- requests of which neither stands before the other have one number
pub precedes-same : (x y : Req) → precedes x y ≡ false → precedes y x ≡ false → x.number.number ≡ y.number.number
unfolding precedes
precedes-same x y h k = grind (arith, nat_tests)

-- no request stands before itself
precedes-irreflexive : (x : Req) → precedes x x ≡ false
unfolding precedes
precedes-irreflexive x = grind (arith, nat_tests)

-- a request that stands before another stands before all that this one does
precedes-transitive : (x y z : Req) → precedes x y ≡ true → precedes y z ≡ true → precedes x z ≡ true
unfolding precedes
precedes-transitive x y z h k = grind (arith, nat_tests)

-- precedence is an order
pub precedes-order : IsOrder precedes
precedes-order = record { irreflexive = precedes-irreflexive; transitive = precedes-transitive }
