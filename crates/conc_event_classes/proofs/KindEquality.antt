-- Kinds of requests: which are equal, and that they say which requests clash.
use Rattle.std.proofs.Common.{◌≡◌, ℕ, true, ◌&&◌, List, [], Option, None, Some, slice_get, refl, ◌∙◌, ap}
use Rattle.std.specs.Option.{option_map_or}
use Rattle.std.specs.Str.{bytes_eq}
use Rattle.std.proofs.lemmas.Bool.{and_parts, eqb-true}
use Rattle.std.proofs.lemmas.Slice.Eq.{bytes_eq-Decides}
use Rattle.conc_types.specs.declared.item.Item.{Item}
use Rattle.conc_types.specs.declared.item.Item.TheVariants as item
use Rattle.conc_types.specs.declared.plan.Plan.{Plan}
use Rattle.conc_types.specs.declared.plan.Req.{Req}
use Rattle.conc_base_law.specs.Exclusion.{covers, entry_excludes, excludes_from, same_domain}
use Rattle.conc_base_law.specs.Plans.{parent_item}
use Rattle.conc_base_law.specs.Words.{item_eq}
use Rattle.conc_event_classes.specs.declared.kinds.Head.{Head}
use Rattle.conc_event_classes.specs.Classes.{clash}
use Rattle.conc_event_classes.specs.Kinds.{covers_item, domain_at, kind_excludes, Kind, kind_at, kind_eq, kind_of, kinds_clash, one_domain, owns, parent_eq, reaches}

-- ---- equal kinds

pub item_eq-true : (a b : Item) → item_eq a b ≡ true → a ≡ b
item_eq-true (item.Program x) (item.Program y) h = ap (λ n. item.Program n) (eqb-true x y h)
item_eq-true (item.Set x) (item.Set y) h = ap (λ n. item.Set n) (eqb-true x y h)
item_eq-true (item.Program x) (item.Set y) h = cc
item_eq-true (item.Set x) (item.Program y) h = cc

parent_eq-true : (a b : Option Item) → parent_eq a b ≡ true → a ≡ b
parent_eq-true None None h = refl
parent_eq-true None (Some b) h = cc
parent_eq-true (Some a) None h = cc
parent_eq-true (Some a) (Some b) h = ap (λ x. Some x) (item_eq-true a b h)

bytes_eq-true : (a b : List ℕ) → bytes_eq a b ≡ true → a ≡ b
bytes_eq-true a b h = (bytes_eq-Decides a b).0 h

abbrev kind_by : Item → Option Item → List ℕ → Kind
kind_by i p d = record { item = i; parent = p; domain = d }

-- kinds that pass the test are equal
pub kind_eq-true : (a b : Kind) → kind_eq a b ≡ true → a ≡ b
unfolding kind_eq
kind_eq-true a b h =
    let p : (item_eq a.item b.item ≡ true) × ((parent_eq a.parent b.parent && bytes_eq a.domain b.domain) ≡ true) = and_parts _ _ h in
    let q : (parent_eq a.parent b.parent ≡ true) × (bytes_eq a.domain b.domain ≡ true) = and_parts _ _ p.1 in
    let i : a.item ≡ b.item = item_eq-true _ _ p.0 in
    let o : a.parent ≡ b.parent = parent_eq-true _ _ q.0 in
    let d : a.domain ≡ b.domain = bytes_eq-true _ _ q.1 in
    ap (λ z. kind_by z a.parent a.domain) i ∙ (ap (λ z. kind_by b.item z a.domain) o ∙ ap (λ z. kind_by b.item b.parent z) d)

-- the head of a class has the kind of its first request
pub kind_at_first : (plan : Plan) (head : Head) (r : Req) → head.item ≡ r.item → head.parent ≡ parent_item plan r
    → slice_get plan.requests head.first ≡ Some r → kind_at plan head ≡ kind_of plan r
unfolding kind_at kind_of domain_at
kind_at_first plan head r i o d =
    let e : option_map_or (λ (q : Req). q.domain) (slice_get plan.requests head.first) [] ≡ r.domain = ap (λ z. option_map_or (λ (q : Req). q.domain) z []) d in
    ap (λ z. kind_by z head.parent (domain_at plan head.first)) i
    ∙ (ap (λ z. kind_by r.item z (domain_at plan head.first)) o ∙ ap (λ z. kind_by r.item (parent_item plan r) z) e)

-- ---- requests clash where their kinds do
pub clash_by_kinds : (plan : Plan) (x y : Req) → clash plan x y ≡ kinds_clash plan.setup (kind_of plan x) (kind_of plan y)
unfolding clash excludes_from entry_excludes covers same_domain kinds_clash kind_excludes kind_of owns covers_item reaches one_domain
clash_by_kinds plan x y = refl
