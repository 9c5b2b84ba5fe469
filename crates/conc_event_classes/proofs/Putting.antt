-- A class more on each shelf.
use Rattle.std.proofs.Common.{◌≡◌, ◌⊎◌, ℕ, suc, ◌<◌, ◌==◌, List, [], ◌∷◌, ◌++◌, length, Some, sym, ◌∙◌, ap, subst, inl, inr, arith}
use Rattle.std.specs.Prelude.{slice_get, slice_set, if◌then◌else◌, IsTrue}
use Rattle.std.specs.Option.{option_map_or}
use Rattle.std.proofs.lemmas.Bool.{cases_eq, eq-eqb, ne_eqb}
use Rattle.conc_types.specs.declared.plan.Plan.{Plan}
use Rattle.conc_base_law.specs.Exclusion.{runs_alone}
use Rattle.conc_base_law.specs.Words.{Has}
use Rattle.conc_event_classes.specs.Keys.{domain_key, item_key, parent_key}
use Rattle.conc_event_classes.specs.Kinds.{kind_at}
use Rattle.conc_event_classes.specs.Shelf.{bucket, IsPut}
use Rattle.conc_event_classes.specs.Shelves.{AreShelvesTo}
use Rattle.conc_event_classes.specs.declared.kinds.Head.{Head}
use Rattle.conc_event_classes.specs.declared.shelves.Shelves.{Shelves}
use Rattle.conc_event_classes.proofs.Covering.{has-last, has-left, put-kept, put-taken}
use Rattle.conc_event_classes.proofs.Pushes.{get-one, get-set_other, get-set_same}

-- ---- one bucket

-- what a bucket has after one is set, to which an item was added
pub put-step : {T : Type 0} (xs : List T) (items : T → List ℕ) (m n : ℕ) (b v : T) (class : ℕ) → n < length xs → slice_get xs n ≡ Some b
    → items v ≡ items b ++ class ∷ []
    → option_map_or items (slice_get (slice_set xs n v) m) []
    ≡ (if m == n then option_map_or items (slice_get xs m) [] ++ class ∷ [] else option_map_or items (slice_get xs m) [])
put-step xs items m n b v class within here more = elim (cases_eq m n) [
  | inl same ↦
      let old : option_map_or items (slice_get xs m) [] ≡ items b = ap (λ o. option_map_or items o []) (ap (slice_get xs) same ∙ here) in
      rw (eq-eqb m n same)
      (ap (λ k. option_map_or items (slice_get (slice_set xs n v) k) []) same
      ∙ (ap (λ o. option_map_or items o []) (get-set_same xs n v within)
      ∙ (more ∙ sym (ap (λ l. l ++ class ∷ []) old))))
  | inr ne ↦ rw (ne_eqb m n ne) (ap (λ o. option_map_or items o []) (get-set_other xs n m v ne))
]

-- ---- all shelves

-- what was there stays, and the last one is there
pub pushed : (old new : List ℕ) (c : ℕ) → new ≡ old ++ c ∷ [] → ((x : ℕ) → Has old x → Has new x) × Has new c
pushed old new c is = (λ x has. rw is (has-left old (c ∷ []) x has), rw is (has-last old c))

-- a number below the next one is below it, or is it
below_next : (k n : ℕ) → k < suc n → (k < n) ⊎ (k ≡ n)
below_next k n h = elim (cases_eq k n) [ inl same ↦ inr same | inr ne ↦ inl (omega arith) ]

-- the class at the next index stands where it is looked for
pub shelves-more : (plan : Plan) (heads : List Head) (n : ℕ) (own : Head) (old new : Shelves) → slice_get heads n ≡ Some own
    → AreShelvesTo plan heads n old
    → IsPut old.by_item new.by_item (item_key own.item) n → IsPut old.by_parent new.by_parent (parent_key own.parent) n
    → IsPut old.by_domain new.by_domain (domain_key (kind_at plan own)) n
    → ((c : ℕ) → Has old.alone.items c → Has new.alone.items c)
    → (IsTrue (runs_alone plan.setup own.item) → Has new.alone.items n)
    → AreShelvesTo plan heads (suc n) new
shelves-more plan heads n own old new at are item parent domain kept alone = record {
  items = item.shelf;
  parents = parent.shelf;
  domains = domain.shelf;
  item = λ c head below there. elim (below_next c n below) [
    | inl less ↦ put-kept old.by_item new.by_item (item_key own.item) n (item_key head.item) c item (are.item c head less there)
    | inr same ↦ subst (λ (h : Head). Has (bucket new.by_item (item_key h.item)) c) (one c head same there)
        (subst (λ z. Has (bucket new.by_item (item_key own.item)) z) (sym same) (put-taken old.by_item new.by_item (item_key own.item) n item))
  ];
  parent = λ c head below there. elim (below_next c n below) [
    | inl less ↦ put-kept old.by_parent new.by_parent (parent_key own.parent) n (parent_key head.parent) c parent (are.parent c head less there)
    | inr same ↦ subst (λ (h : Head). Has (bucket new.by_parent (parent_key h.parent)) c) (one c head same there)
        (subst (λ z. Has (bucket new.by_parent (parent_key own.parent)) z) (sym same) (put-taken old.by_parent new.by_parent (parent_key own.parent) n parent))
  ];
  domain = λ c head below there. elim (below_next c n below) [
    | inl less ↦ put-kept old.by_domain new.by_domain (domain_key (kind_at plan own)) n (domain_key (kind_at plan head)) c domain (are.domain c head less there)
    | inr same ↦ subst (λ (h : Head). Has (bucket new.by_domain (domain_key (kind_at plan h))) c) (one c head same there)
        (subst (λ z. Has (bucket new.by_domain (domain_key (kind_at plan own))) z) (sym same) (put-taken old.by_domain new.by_domain (domain_key (kind_at plan own)) n domain))
  ];
  alone = λ c head below there is. elim (below_next c n below) [
    | inl less ↦ kept c (are.alone c head less there is)
    | inr same ↦ subst (λ z. Has new.alone.items z) (sym same)
        (alone (subst (λ (h : Head). IsTrue (runs_alone plan.setup h.item)) (sym (one c head same there)) is))
  ];
} where
  one : (c : ℕ) (head : Head) → c ≡ n → slice_get heads c ≡ Some head → own ≡ head
  one c head same there = get-one heads n own head at (ap (slice_get heads) (sym same) ∙ there)
