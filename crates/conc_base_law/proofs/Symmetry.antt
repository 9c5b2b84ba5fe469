-- Exclusion is symmetric.
use Rattle.std.proofs.Common.{◌≡◌, ◌∙◌, ℕ, not, ◌&&◌, ◌||◌, ◌==◌, Option, sym, ap, inl, inr}
use Rattle.std.proofs.Math.Bool.{or_comm}
use Rattle.std.proofs.lemmas.Bool.{cases_Bool, eq-eqb, eqb-true, false_from_ne_true, both_ways}
use Rattle.conc_types.specs.declared.item.Item.{Item}
use Rattle.conc_types.specs.declared.plan.Req.{Req}
use Rattle.conc_types.specs.declared.setup.Setup.{Setup}
use Rattle.conc_types.specs.Words.{some_and}
use Rattle.conc_base_law.specs.Exclusion.{excludes, excludes_from, is_kin}
use Rattle.conc_base_law.specs.Words.{id_eq}

-- the test of equal numbers is symmetric
eqb_comm : (m n : ℕ) → (m == n) ≡ (n == m)
eqb_comm m n = elim (cases_Bool (m == n)) [
  | inl same ↦ same ∙ sym (eq-eqb n m (sym (eqb-true m n same)))
  | inr other ↦ other ∙ sym (false_from_ne_true (n == m) (λ same. both_ways (m == n) other (eq-eqb m n (sym (eqb-true n m same)))))
]

-- kinship is symmetric
is_kin_comm : (x y : Req) → is_kin x y ≡ is_kin y x
unfolding is_kin
is_kin_comm x y = or_comm (some_and (id_eq y.number) x.parent) (some_and (id_eq x.number) y.parent)

-- exclusion is symmetric
pub excludes_comm : (setup : Setup) (x y : Req) (x_parent y_parent : Option Item) → excludes setup x y x_parent y_parent ≡ excludes setup y x y_parent x_parent
unfolding excludes
excludes_comm setup x y x_parent y_parent =
    let number : id_eq x.number y.number ≡ id_eq y.number x.number = eqb_comm x.number.number y.number.number in
    let kin : is_kin x y ≡ is_kin y x = is_kin_comm x y in
    let either : (excludes_from setup x y y_parent || excludes_from setup y x x_parent) ≡ (excludes_from setup y x x_parent || excludes_from setup x y y_parent) =
    or_comm (excludes_from setup x y y_parent) (excludes_from setup y x x_parent) in
    ap (λ b. not b && (not (is_kin x y) && (excludes_from setup x y y_parent || excludes_from setup y x x_parent))) number
    ∙ ap (λ b. not (id_eq y.number x.number) && (not b && (excludes_from setup x y y_parent || excludes_from setup y x x_parent))) kin
    ∙ ap (λ b. not (id_eq y.number x.number) && (not (is_kin y x) && b)) either
