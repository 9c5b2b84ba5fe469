-- All classes that exclude a class stand where its entries and marks lead to.
use Rattle.std.proofs.Common.{◌≡◌, ◌⊎◌, ℕ, ◌<◌, ◌%◌, ◌==◌, Bool, true, false, not, ◌&&◌, ◌||◌, List, [], ◌∷◌, ◌++◌, length, Some, refl, sym, ◌∙◌, ap, subst, inl, inr}
use Rattle.std.specs.Prelude.{slice_get}
use Rattle.std.specs.List.{flat_map, list_any}
use Rattle.std.proofs.lemmas.Bool.{and_parts, both_ways, cases_Bool, eq-eqb, or_cases}
use Rattle.std.proofs.lemmas.Slice.Eq.{bytes_eq-Decides}
use Rattle.conc_types.specs.declared.item.Entry.{Entry}
use Rattle.conc_types.specs.declared.item.Item.{Item}
use Rattle.conc_types.specs.declared.plan.Plan.{Plan}
use Rattle.conc_types.specs.Words.{some_and}
use Rattle.conc_base_law.specs.Exclusion.{is_global, is_set_scope, runs_alone}
use Rattle.conc_base_law.specs.Words.{Has, item_eq}
use Rattle.conc_base_law.proofs.Options.{some_and-some}
use Rattle.conc_event_classes.specs.Candidates.{AddsNear, has_reach, joined, reached}
use Rattle.conc_event_classes.specs.Keys.{bytes_key, domain_key, item_key, parent_key}
use Rattle.conc_event_classes.specs.Kinds.{covers_item, kind_at, one_domain, owns, reaches}
use Rattle.conc_event_classes.specs.Rivals.{claimed_by, claims, either_claims, heads_clash, IsClaim}
use Rattle.conc_event_classes.specs.Shelf.{bucket, IsPut}
use Rattle.conc_event_classes.specs.Shelves.{AreShelves, members}
use Rattle.conc_event_classes.specs.declared.kinds.Head.{Head}
use Rattle.conc_event_classes.specs.declared.candidates.Side.TheVariants as side
use Rattle.conc_event_classes.specs.declared.rivals.Claim.{Claim}
use Rattle.conc_event_classes.specs.declared.shelf.Shelf.{Shelf}
use Rattle.conc_event_classes.specs.declared.shelves.Shelves.{Shelves}
use Rattle.conc_event_classes.proofs.KindEquality.{item_eq-true}
use Rattle.conc_event_classes.proofs.RivalRows.{clash_by_claim}

-- ---- elements of lists

pub has-left : {T : Type 0} (xs ys : List T) (x : T) → Has xs x → Has (xs ++ ys) x
has-left [] ys x h = absurd h
has-left (y ∷ xs) ys x h = elim h [ inl same ↦ inl same | inr later ↦ inr (has-left xs ys x later) ]

pub has-right : {T : Type 0} (xs ys : List T) (x : T) → Has ys x → Has (xs ++ ys) x
has-right [] ys x h = h
has-right (y ∷ xs) ys x h = inr (has-right xs ys x h)

pub has-last : {T : Type 0} (xs : List T) (x : T) → Has (xs ++ x ∷ []) x
has-last xs x = has-right xs (x ∷ []) x (inl refl)

has-flat : {S T : Type 0} (f : S → List T) (xs : List S) (x : S) (y : T) → Has xs x → Has (f x) y → Has (flat_map f xs) y
has-flat f [] x y h k = absurd h
has-flat f (z ∷ xs) x y h k = elim h [
  | inl same ↦ has-left (f z) (flat_map f xs) y (subst (λ w. Has (f w) y) same k)
  | inr later ↦ has-right (f z) (flat_map f xs) y (has-flat f xs x y later k)
]

any-found : {T : Type 0} (test : T → Bool) (xs : List T) → list_any test xs ≡ true → (x : T) × Has xs x × (test x ≡ true)
any-found test [] h = cc
any-found {T} test (y ∷ ys) h = elim (cases_Bool (test y)) [
  | inl t ↦ (y, inl refl, t)
  | inr f ↦
      let w : (x : T) × Has ys x × (test x ≡ true) = any-found test ys (sym (ap (λ b. b || list_any test ys) f) ∙ h) in
      (w.0, inr w.1, w.2)
]

-- ---- what was put on a shelf

pub put-taken : (old new : Shelf) (key c : ℕ) → IsPut old new key c → Has (bucket new key) c
put-taken old new key c put =
    rw (put.buckets key, eq-eqb (key % 1021) (key % 1021) refl) (has-last (bucket old key) c)

pub put-kept : (old new : Shelf) (key c k d : ℕ) → IsPut old new key c → Has (bucket old k) d → Has (bucket new k) d
put-kept old new key c k d put h = rw (put.buckets k) (elim (cases_Bool (k % 1021 == key % 1021)) [
  | inl same ↦ rw same (has-left (bucket old k) (c ∷ []) d h)
  | inr other ↦ rw other h
])

-- ---- what an entry leads to

-- a class of the entry's other item, or of a member that the entry covers, stands where they are looked for
covered-there : (plan : Plan) (heads : List Head) (s : Shelves) (far : Bool) (entry : Entry) (c : ℕ) (other : Head) → AreShelves plan heads s
    → c < length heads → slice_get heads c ≡ Some other → has_reach far entry ≡ true → covers_item other.item other.parent entry ≡ true → Has (reached side.Owner s far entry) c
unfolding reached covers_item members parent_key
covered-there plan heads s far entry c other are within here reach covers = rw reach (elim (or_cases (item_eq entry.other other.item) _ covers) [
  | inl item ↦
      has-left (bucket s.by_item (item_key entry.other)) _ c
      (subst (λ i. Has (bucket s.by_item (item_key i)) c) (sym (item_eq-true entry.other other.item item)) (are.item c other within here))
  | inr member ↦
      let parts : (is_set_scope entry.scope ≡ true) × (some_and (item_eq entry.other) other.parent ≡ true) = and_parts _ _ member in
      let w : (set : Item) × (other.parent ≡ Some set) × (item_eq entry.other set ≡ true) = some_and-some (item_eq entry.other) other.parent parts.1 in
      has-right (bucket s.by_item (item_key entry.other)) _ c
      (rw parts.0 (subst (λ i. Has (bucket s.by_parent (item_key i)) c) (sym (item_eq-true entry.other w.0 w.2))
      (subst (λ o. Has (bucket s.by_parent (parent_key o)) c) w.1 (are.parent c other within here))))
])

owning-there : (plan : Plan) (heads : List Head) (s : Shelves) (far : Bool) (entry : Entry) (c : ℕ) (other : Head) → AreShelves plan heads s
    → c < length heads → slice_get heads c ≡ Some other → has_reach far entry ≡ true → owns other.item entry ≡ true → Has (reached side.Covered s far entry) c
unfolding reached owns
owning-there plan heads s far entry c other are within here reach own =
    rw reach (subst (λ i. Has (bucket s.by_item (item_key i)) c) (sym (item_eq-true entry.owner other.item own)) (are.item c other within here))

-- ---- what is found from a class

joined-covered : (plan : Plan) (heads : List Head) (s : Shelves) (far : Bool) (claim : Claim) (entry : Entry) (c : ℕ) (other : Head) → AreShelves plan heads s
    → c < length heads → slice_get heads c ≡ Some other → Has claim.owned.items entry → has_reach far entry ≡ true
    → covers_item other.item other.parent entry ≡ true → Has (joined s far claim) c
unfolding joined
joined-covered plan heads s far claim entry c other are within here has reach covers =
    has-left (flat_map (reached side.Owner s far) claim.owned.items) _ c
    (has-flat (reached side.Owner s far) claim.owned.items entry c has (covered-there plan heads s far entry c other are within here reach covers))

joined-owning : (plan : Plan) (heads : List Head) (s : Shelves) (far : Bool) (claim : Claim) (entry : Entry) (c : ℕ) (other : Head) → AreShelves plan heads s
    → c < length heads → slice_get heads c ≡ Some other → Has claim.covering.items entry → has_reach far entry ≡ true
    → owns other.item entry ≡ true → Has (joined s far claim) c
unfolding joined
joined-owning plan heads s far claim entry c other are within here has reach own =
    has-right (flat_map (reached side.Owner s far) claim.owned.items) _ c
    (has-flat (reached side.Covered s far) claim.covering.items entry c has (owning-there plan heads s far entry c other are within here reach own))

-- what was found stays found
near-kept : (plan : Plan) (s : Shelves) (claim : Claim) (old new : List ℕ) (c : ℕ) → AddsNear plan s claim old new → Has old c → Has new c
near-kept plan s claim old new c adds h = elim adds [
  | inl domain ↦ rw domain (has-left old _ c h)
  | inr w ↦ rw w.1 (has-left (old ++ joined s false claim) s.alone.items c (has-left old (joined s false claim) c h))
]

-- a class in the same domain is found, where entries that count in one domain lead to it, or where one of the two runs alone
module _ (plan : Plan) (heads : List Head) (s : Shelves) (claim : Claim) (old new : List ℕ) (c : ℕ) (other : Head) where
  domain-there : AreShelves plan heads s → c < length heads → slice_get heads c ≡ Some other
      → one_domain (kind_at plan claim.head) (kind_at plan other) ≡ true → Has (bucket s.by_domain (domain_key (kind_at plan claim.head))) c
  unfolding one_domain domain_key
  domain-there are within here same =
      let one : (kind_at plan claim.head).domain ≡ (kind_at plan other).domain = (bytes_eq-Decides _ _).0 same in
      subst (λ (domain : List ℕ). Has (bucket s.by_domain (bytes_key domain)) c) (sym one) (are.domain c other within here)

  near-joined : AreShelves plan heads s → c < length heads → slice_get heads c ≡ Some other → AddsNear plan s claim old new
      → one_domain (kind_at plan claim.head) (kind_at plan other) ≡ true → Has (joined s false claim) c → Has new c
  near-joined are within here adds same h = elim adds [
    | inl domain ↦ rw domain (has-right old _ c (domain-there are within here same))
    | inr w ↦ rw w.1 (has-left (old ++ joined s false claim) s.alone.items c (has-right old (joined s false claim) c h))
  ]

  near-own : AreShelves plan heads s → c < length heads → slice_get heads c ≡ Some other → AddsNear plan s claim old new
      → one_domain (kind_at plan claim.head) (kind_at plan other) ≡ true → claim.alone ≡ true → Has new c
  near-own are within here adds same alone = elim adds [
    | inl domain ↦ rw domain (has-right old _ c (domain-there are within here same))
    | inr w ↦ absurd (both_ways _ w.0 alone)
  ]

  near-alone : AreShelves plan heads s → c < length heads → slice_get heads c ≡ Some other → AddsNear plan s claim old new
      → one_domain (kind_at plan claim.head) (kind_at plan other) ≡ true → runs_alone plan.setup other.item ≡ true → Has new c
  near-alone are within here adds same alone = elim adds [
    | inl domain ↦ rw domain (has-right old _ c (domain-there are within here same))
    | inr w ↦ rw w.1 (has-right (old ++ joined s false claim) s.alone.items c (are.alone c other within here alone))
  ]

-- an entry counts in all domains, or in one, and then the domains are equal
reach-cases : (same : Bool) (entry : Entry) → reaches same entry ≡ true
    → (has_reach true entry ≡ true) ⊎ ((has_reach false entry ≡ true) × (same ≡ true))
unfolding reaches has_reach
reach-cases same entry h = elim (cases_Bool (is_global entry.reach)) [
  | inl far ↦ inl far
  | inr near ↦ inr (ap not near, sym (ap (λ b. b || same) near) ∙ h)
]

-- all that exclude the class of a claim are found
pub all-found : (plan : Plan) (heads : List Head) (s : Shelves) (claim : Claim) (old new : List ℕ) (c : ℕ) (other : Head) → AreShelves plan heads s
    → IsClaim plan claim.head claim → old ≡ joined s true claim → AddsNear plan s claim old new → c < length heads → slice_get heads c ≡ Some other
    → heads_clash plan claim.head other ≡ true → Has new c
unfolding either_claims claims claimed_by
all-found plan heads s claim old new c other are is first adds within here clash = elim (or_cases (claims claim other same) (claimed_by plan claim other same) either) [
  | inl claims ↦ elim (or_cases (list_any (λ entry. covers_item other.item other.parent entry && reaches same entry) claim.owned.items) (claim.alone && same) claims) [
    | inl some ↦ owned (any-found (λ entry. covers_item other.item other.parent entry && reaches same entry) claim.owned.items some)
    | inr alone ↦
        let both : (claim.alone ≡ true) × (same ≡ true) = and_parts _ _ alone in
        near-own plan heads s claim old new c other are within here adds both.1 both.0
  ]
  | inr claimed ↦ elim (or_cases (list_any (λ entry. owns other.item entry && reaches same entry) claim.covering.items) (runs_alone plan.setup other.item && same) claimed) [
    | inl some ↦ covering (any-found (λ entry. owns other.item entry && reaches same entry) claim.covering.items some)
    | inr alone ↦
        let both : (runs_alone plan.setup other.item ≡ true) × (same ≡ true) = and_parts _ _ alone in
        near-alone plan heads s claim old new c other are within here adds both.1 both.0
  ]
] where
  same : Bool
  same = one_domain (kind_at plan claim.head) (kind_at plan other)

  either : (claims claim other same || claimed_by plan claim other same) ≡ true
  either = clash_by_claim plan claim claim.head other same is refl ∙ clash

  owned : (entry : Entry) × Has claim.owned.items entry × ((covers_item other.item other.parent entry && reaches same entry) ≡ true) → Has new c
  owned w =
      let both : (covers_item other.item other.parent w.0 ≡ true) × (reaches same w.0 ≡ true) = and_parts _ _ w.2 in
      elim (reach-cases same w.0 both.1) [
        | inl far ↦ near-kept plan s claim old new c adds (rw first (joined-covered plan heads s true claim w.0 c other are within here w.1 far both.0))
        | inr near ↦
            near-joined plan heads s claim old new c other are within here adds near.1
            (joined-covered plan heads s false claim w.0 c other are within here w.1 near.0 both.0)
      ]

  covering : (entry : Entry) × Has claim.covering.items entry × ((owns other.item entry && reaches same entry) ≡ true) → Has new c
  covering w =
      let both : (owns other.item w.0 ≡ true) × (reaches same w.0 ≡ true) = and_parts _ _ w.2 in
      elim (reach-cases same w.0 both.1) [
        | inl far ↦ near-kept plan s claim old new c adds (rw first (joined-owning plan heads s true claim w.0 c other are within here w.1 far both.0))
        | inr near ↦
            near-joined plan heads s claim old new c other are within here adds near.1
            (joined-owning plan heads s false claim w.0 c other are within here w.1 near.0 both.0)
      ]
