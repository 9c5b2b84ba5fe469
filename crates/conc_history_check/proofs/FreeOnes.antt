-- Which requests no live one excludes, by a live request of each class.
use Rattle.std.proofs.Common.{◌≡◌, ℕ, Bool, true, false, not, ◌&&◌, ◌||◌, ◌==◌, List, [], ◌∷◌, Option, None, Some, refl, sym, ◌∙◌, ap, inl, inr}
use Rattle.std.specs.Prelude.{is_some, unwrap_or, if◌then◌else◌}
use Rattle.std.specs.List.{find, list_any}
use Rattle.std.specs.Option.{option_and_then}
use Rattle.std.proofs.lemmas.Bool.{and_from, and_right, both_ways, eq-eqb, eqb-true, false_from_ne_true, or_left, or_right}
use Rattle.conc_types.specs.declared.facts.Facts.{Facts}
use Rattle.conc_types.specs.declared.facts.State.{State}
use Rattle.conc_types.specs.declared.plan.Plan.{Plan}
use Rattle.conc_types.specs.declared.plan.Req.{Req}
use Rattle.conc_types.specs.Words.{numbered}
use Rattle.conc_base_law.specs.Exclusion.{excludes, excludes_from, is_kin}
use Rattle.conc_base_law.specs.Next.{blocks, is_free}
use Rattle.conc_base_law.specs.Plans.{are_exclusive, parent_item}
use Rattle.conc_base_law.specs.State.{facts_at, is_live, no_facts}
use Rattle.conc_base_law.specs.Words.{Has, id_eq}
use Rattle.conc_base_law.proofs.Numbering.{found}
use Rattle.conc_event_queue.specs.Turns.{request_numbered}
use Rattle.conc_event_classes.specs.Classes.{AreClasses, are_rivals, clash, class_at, rivals_at, excludes_kin_at}
use Rattle.conc_event_classes.specs.declared.classes.Classes.{Classes}
use Rattle.conc_history_check.specs.Live.{AreLive, IsLiveOf, noted, rival_noted}

-- ---- searches

-- where none is found, none passes
find-none : {T : Type 0} (test : T → Bool) (xs : List T) → find test xs ≡ None → (x : T) → Has xs x → test x ≡ false
find-none test [] h x has = absurd has
find-none {T} test (y ∷ ys) h x has = by (test y) refl (find-none test ys) h where
  by : (b : Bool) → test y ≡ b → (find test ys ≡ None → (z : T) → Has ys z → test z ≡ false) → (if b then Some y else find test ys) ≡ None → test x ≡ false
  by true e rest k = cc
  by false e rest k = elim has [ inl same ↦ ap test same ∙ e | inr later ↦ rest k x later ]

-- what is found passes
find-some : {T : Type 0} (test : T → Bool) (xs : List T) (x : T) → find test xs ≡ Some x → Has xs x × (test x ≡ true)
find-some test [] x h = cc
find-some {T} test (y ∷ ys) x h = by (test y) refl (find-some test ys x) h where
  by : (b : Bool) → test y ≡ b → (find test ys ≡ Some x → Has ys x × (test x ≡ true)) → (if b then Some y else find test ys) ≡ Some x → Has (y ∷ ys) x × (test x ≡ true)
  by true e rest k = let same : y ≡ x = cc in (inl (sym same), ap test (sym same) ∙ e)
  by false e rest k = let later : Has ys x × (test x ≡ true) = rest k in (inr later.0, later.1)

-- none of a list passes
any-none : {T : Type 0} (test : T → Bool) (xs : List T) → ((x : T) → Has xs x → test x ≡ false) → list_any test xs ≡ false
any-none test [] h = refl
any-none test (x ∷ xs) h = rw (h x (inl refl)) (any-none test xs (λ y has. h y (inr has)))

-- one of a list passes
any-has : {T : Type 0} (test : T → Bool) (xs : List T) (x : T) → Has xs x → test x ≡ true → list_any test xs ≡ true
any-has test [] x has h = absurd has
any-has test (y ∷ ys) x has h = elim has [
  | inl same ↦ or_left (test y) _ (ap test (sym same) ∙ h)
  | inr later ↦ or_right (test y) _ (any-has test ys x later h)
]

-- ---- exclusion by classes

-- the other way round
or_comm : (a b : Bool) → (a || b) ≡ (b || a)
or_comm true true = refl
or_comm true false = refl
or_comm false true = refl
or_comm false false = refl

clash-comm : (plan : Plan) (x y : Req) → clash plan x y ≡ clash plan y x
unfolding clash
clash-comm plan x y = or_comm (excludes_from plan.setup x y (parent_item plan y)) (excludes_from plan.setup y x (parent_item plan x))

-- a live request blocks one that is not live where they clash and are no kin
blocks-by : (plan : Plan) (s : State) (r q : Req)
    → blocks plan s r q ≡ (is_live (facts_at s q) && (not (id_eq q.number r.number) && (not (is_kin q r) && clash plan q r)))
unfolding blocks are_exclusive excludes clash
blocks-by plan s r q = refl

-- where no rival is noted, none is live
pub free-none : (plan : Plan) (classes : Classes) (s : State) (live : List (List (Option ℕ))) (r : Req) → AreClasses plan classes → AreLive plan classes s live
    → Has plan.requests r → rival_noted classes live (class_at classes r) ≡ None → is_free plan s r ≡ true
unfolding is_free rival_noted are_rivals
free-none plan classes s live r are lives has none =
    ap not (any-none (blocks plan s r) plan.requests (λ q hq. blocks-by plan s r q ∙ by q hq (is_live (facts_at s q)) refl)) where
      -- no class that has one noted excludes this one
      none_found : (o : Option ℕ) → find (λ d. is_some (noted live d)) (rivals_at classes (class_at classes r)) ≡ o → option_and_then (noted live) o ≡ None → o ≡ None
      none_found None is h = refl
      none_found (Some d) is h = absurd (both_ways _ (ap is_some h) (find-some (λ e. is_some (noted live e)) (rivals_at classes (class_at classes r)) d is).1)

      unnoted : (d : ℕ) → Has (rivals_at classes (class_at classes r)) d → is_some (noted live d) ≡ false
      unnoted = find-none (λ d. is_some (noted live d)) (rivals_at classes (class_at classes r)) (none_found _ refl none)

      apart : (q : Req) → Has plan.requests q → is_live (facts_at s q) ≡ true → clash plan q r ≡ false
      apart q hq is =
          clash-comm plan q r ∙ are.rivals r q has hq
          ∙ any-none (λ x. x == class_at classes q) (rivals_at classes (class_at classes r)) (λ d hd. false_from_ne_true (d == class_at classes q) (λ same.
          let some : is_some (noted live (class_at classes q)) ≡ true = lives.known q hq is in
          both_ways _ (ap (λ c. is_some (noted live c)) (sym (eqb-true d (class_at classes q) same)) ∙ unnoted d hd) some))

      by : (q : Req) → Has plan.requests q → (b : Bool) → is_live (facts_at s q) ≡ b
          → (is_live (facts_at s q) && (not (id_eq q.number r.number) && (not (is_kin q r) && clash plan q r))) ≡ false
      by q hq false is = rw is refl
      by q hq true is =
          and_right (is_live (facts_at s q)) _
          (and_right (not (id_eq q.number r.number)) _ (and_right (not (is_kin q r)) (clash plan q r) (apart q hq is)))

-- a request that is live is not one that is not
other_number : (plan : Plan) (s : State) (q r : Req) → Has plan.requests q → Has plan.requests r → is_live (facts_at s q) ≡ true → is_live (facts_at s r) ≡ false
    → id_eq q.number r.number ≡ false
unfolding facts_at
other_number plan s q r hq hr is not = false_from_ne_true (id_eq q.number r.number) (λ same.
    both_ways _ not (ap (λ n. is_live (facts_at_number n)) (sym (eqb-true q.number.number r.number.number same)) ∙ is)) where
      facts_at_number : ℕ → Facts
      facts_at_number n = unwrap_or (numbered s.facts n) no_facts

-- a rival that is noted is live, and excludes the request unless they are kin
pub free-not : (plan : Plan) (classes : Classes) (s : State) (live : List (List (Option ℕ))) (r : Req) (id : ℕ) → AreClasses plan classes → AreLive plan classes s live
    → Has plan.requests r → is_live (facts_at s r) ≡ false → rival_noted classes live (class_at classes r) ≡ Some id → excludes_kin_at classes (class_at classes r) ≡ false
    → is_free plan s r ≡ false
unfolding is_free rival_noted are_rivals
free-not plan classes s live r id are lives has idle some excludes_kin = by _ refl some where
  at : (d : ℕ) → find (λ d. is_some (noted live d)) (rivals_at classes (class_at classes r)) ≡ Some d → noted live d ≡ Some id → is_free plan s r ≡ false
  at d is here = one (lives.own d id here) where
    one : IsLiveOf plan classes s d id → is_free plan s r ≡ false
    one (q, hq, number, is_live_there, class) =
        let rivals : are_rivals classes (class_at classes r) (class_at classes q) ≡ true =
        any-has (λ x. x == class_at classes q) (rivals_at classes (class_at classes r)) d (find-some _ (rivals_at classes (class_at classes r)) d is).0 (eq-eqb d (class_at classes q) (sym class)) in
        let clashes : clash plan q r ≡ true = clash-comm plan q r ∙ are.rivals r q has hq ∙ rivals in
        let strangers : is_kin q r ≡ false = false_from_ne_true (is_kin q r) (λ kin. both_ways _ (are.kin_marked q r hq has kin excludes_kin) clashes) in
        let distinct : id_eq q.number r.number ≡ false = other_number plan s q r hq has is_live_there idle in
        ap not (any-has (blocks plan s r) plan.requests q hq
        (blocks-by plan s r q ∙ and_from _ _ is_live_there (rw (distinct, strangers) clashes)))

  by : (o : Option ℕ) → find (λ d. is_some (noted live d)) (rivals_at classes (class_at classes r)) ≡ o → option_and_then (noted live) o ≡ Some id → is_free plan s r ≡ false
  by None is h = cc
  by (Some d) is h = at d is h

-- one request that blocks is enough
pub free-blocked : (plan : Plan) (s : State) (r q : Req) → Has plan.requests q → blocks plan s r q ≡ true → is_free plan s r ≡ false
unfolding is_free
free-blocked plan s r q hq h = ap not (any-has (blocks plan s r) plan.requests q hq h)

-- one that is found by its number is one of the plan
pub numbered-there : (plan : Plan) (number : ℕ) (q : Req) → request_numbered plan number ≡ Some q → Has plan.requests q
unfolding request_numbered
numbered-there plan number q is = (found plan (record { number = number }) q is).1
