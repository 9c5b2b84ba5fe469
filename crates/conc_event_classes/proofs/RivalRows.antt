-- Which classes exclude a class: by a claim, and row by row.
use Rattle.std.proofs.Common.{◌≡◌, ℕ, Bool, true, ◌&&◌, ◌||◌, List, sym, ◌∙◌, ap, inl, inr}
use Rattle.std.specs.List.{list_any}
use Rattle.std.specs.Str.{bytes_eq}
use Rattle.std.proofs.lemmas.Bool.{cases_Bool}
use Rattle.std.proofs.lemmas.Slice.Eq.{bytes_eq-Decides}
use Rattle.conc_types.specs.declared.item.Entry.{Entry}
use Rattle.conc_types.specs.declared.plan.Plan.{Plan}
use Rattle.conc_base_law.specs.Exclusion.{runs_alone}
use Rattle.conc_event_classes.specs.declared.kinds.Head.{Head}
use Rattle.conc_event_classes.specs.declared.rivals.Claim.{Claim}
use Rattle.conc_event_classes.specs.Kinds.{covers_item, kind_excludes, kind_at, kinds_clash, one_domain, owns, reaches}
use Rattle.conc_event_classes.specs.Rivals.{claimed_by, claims, either_claims, heads_clash, IsClaim}
use Rattle.conc_event_classes.proofs.Passing.{any_filtered, any_filtered_by}

-- ---- by a claim

bytes_eq-comm : (a b : List ℕ) → bytes_eq a b ≡ bytes_eq b a
bytes_eq-comm a b = elim (cases_Bool (bytes_eq a b)) [
  | inl t ↦ t ∙ sym ((bytes_eq-Decides b a).1 (sym ((bytes_eq-Decides a b).0 t)))
  | inr f ↦ elim (cases_Bool (bytes_eq b a)) [
    | inl t ↦ let back : bytes_eq a b ≡ true = (bytes_eq-Decides a b).1 (sym ((bytes_eq-Decides b a).0 t)) in cc
    | inr g ↦ f ∙ sym g
  ]
]

four : {a x b y a' x' b' y' : Bool} → a ≡ a' → x ≡ x' → b ≡ b' → y ≡ y' → ((a || x) || (b || y)) ≡ ((a' || x') || (b' || y'))
four p q r s = cc

pub clash_by_claim : (plan : Plan) (claim : Claim) (head other : Head) (same : Bool) → IsClaim plan head claim
    → same ≡ one_domain (kind_at plan head) (kind_at plan other) → either_claims plan claim other same ≡ heads_clash plan head other
unfolding either_claims claims claimed_by heads_clash kinds_clash kind_excludes one_domain kind_at
clash_by_claim plan claim head other same is domain =
    let entries : List Entry = plan.setup.entries in
    let back : same ≡ one_domain (kind_at plan other) (kind_at plan head) = domain ∙ bytes_eq-comm (kind_at plan head).domain (kind_at plan other).domain in
    let own : list_any (λ entry. covers_item other.item other.parent entry && reaches same entry) claim.owned.items
    ≡ list_any (λ entry. owns head.item entry && (covers_item other.item other.parent entry && reaches (one_domain (kind_at plan head) (kind_at plan other)) entry)) entries =
    ap (list_any (λ entry. covers_item other.item other.parent entry && reaches same entry)) is.owned
    ∙ (sym (any_filtered (owns head.item) (λ entry. covers_item other.item other.parent entry && reaches same entry) entries)
    ∙ ap (λ s. list_any (λ entry. owns head.item entry && (covers_item other.item other.parent entry && reaches s entry)) entries) domain) in
    let over : list_any (λ entry. owns other.item entry && reaches same entry) claim.covering.items
    ≡ list_any (λ entry. owns other.item entry && (covers_item head.item head.parent entry && reaches (one_domain (kind_at plan other) (kind_at plan head)) entry)) entries =
    ap (list_any (λ entry. owns other.item entry && reaches same entry)) is.covering
    ∙ (sym (any_filtered_by (owns other.item) (covers_item head.item head.parent) (reaches same) entries)
    ∙ ap (λ s. list_any (λ entry. owns other.item entry && (covers_item head.item head.parent entry && reaches s entry)) entries) back) in
    let alone : (claim.alone && same) ≡ (runs_alone plan.setup head.item && one_domain (kind_at plan head) (kind_at plan other)) =
    ap (λ b. b && same) is.alone ∙ ap (λ b. runs_alone plan.setup head.item && b) domain in
    let other_alone : (runs_alone plan.setup other.item && same) ≡ (runs_alone plan.setup other.item && one_domain (kind_at plan other) (kind_at plan head)) =
    ap (λ b. runs_alone plan.setup other.item && b) back in
    four own alone over other_alone
