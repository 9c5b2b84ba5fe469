-- What has its place, with its rows of rivals and its marks of kin, are the classes of a plan.
use Rattle.std.proofs.Common.{◌≡◌, ℕ, suc, ◌==◌, Bool, true, List, [], ◌∷◌, length, None, Some, refl, subst, sym, ◌∙◌, ap, arith, inl, inr}
use Rattle.std.specs.Prelude.{slice_get, unwrap_or, IsTrue}
use Rattle.std.specs.Bool.{then_some}
use Rattle.std.specs.List.{filter, list_any}
use Rattle.std.specs.Option.{option_and_then}
use Rattle.std.proofs.Math.Bool.{or_comm}
use Rattle.std.proofs.lemmas.Bool.{cases_Bool, cases_lt, eqb-true, or_cases}
use Rattle.std.proofs.lemmas.List.{length-map}
use Rattle.std.proofs.lemmas.Option.{slice_get_past, slice_get_within}
use Rattle.conc_types.specs.declared.event.RequestId.{RequestId}
use Rattle.conc_types.specs.declared.plan.Plan.{Plan}
use Rattle.conc_types.specs.declared.plan.Req.{Req}
use Rattle.conc_types.specs.Words.{numbered, some_and}
use Rattle.conc_base_law.specs.Exclusion.{excludes_from, is_kin}
use Rattle.conc_base_law.specs.Plans.{parent_item}
use Rattle.conc_base_law.specs.Words.{Has, id_eq}
use Rattle.conc_base_law.proofs.Options.{some_and-some}
use Rattle.conc_base_law.proofs.Positions.{slice_get-some}
use Rattle.conc_event_classes.specs.declared.classes.Classes.{Classes}
use Rattle.conc_event_classes.specs.declared.kinds.Head.{Head}
use Rattle.conc_event_classes.specs.declared.partition.Partition.{Partition}
use Rattle.conc_event_classes.specs.Classes.{are_rising, are_rivals, AreClasses, clash, class_at, of_class, rivals_at, slot_at, excludes_kin_at}
use Rattle.conc_event_classes.specs.Kinds.{kind_at, kind_of, kinds_clash}
use Rattle.conc_event_classes.specs.Rivals.{heads_clash, row_of, rows_of}
use Rattle.conc_event_classes.specs.Partitions.{ArePartitioned, IsPartition, picked}
use Rattle.conc_event_classes.specs.ExcludesKin.{are_row_rivals, AreKinMarked, IsMarked, parent_class, rival_parent}
use Rattle.conc_event_classes.proofs.KindEquality.{clash_by_kinds}
use Rattle.conc_event_classes.proofs.Numbered.{number_at, numbered-got, place-got, place_of}
use Rattle.conc_event_classes.proofs.Passing.{get-mapped, places-any, places-rising}

-- ---- requests by their class

-- a filter by class picks those of the class
filter-picked : (f : Req → ℕ) (c : ℕ) (ks : List ℕ) (rs : List Req) → length ks ≡ length rs
    → ((i : ℕ) (r : Req) → slice_get rs i ≡ Some r → slice_get ks i ≡ Some (f r)) → filter (λ r. f r == c) rs ≡ picked c ks rs
filter-picked f c [] [] e h = refl
filter-picked f c [] (r ∷ rs) e h = absurd (omega (arith, e))
filter-picked f c (k ∷ ks) [] e h = absurd (omega (arith, e))
filter-picked f c (k ∷ ks) (r ∷ rs) e h =
    let first : slice_get (k ∷ ks) 0 ≡ Some (f r) = h 0 r refl in
    let same : k ≡ f r = cc in
    let later : filter (λ q. f q == c) rs ≡ picked c ks rs = filter-picked f c ks rs (omega (arith, e)) (λ i q g. h (suc i) q g) in
    elim (cases_Bool (f r == c)) [
      | inl t ↦ rw (same, t) (ap (λ l. r ∷ l) later)
      | inr g ↦ rw (same, g) later
    ]

-- ---- what a mark says
marked-excludes_kin : (excludes_kin : List Bool) (c : ℕ) → IsMarked excludes_kin c → unwrap_or (slice_get excludes_kin c) true ≡ true
marked-excludes_kin excludes_kin c mark = elim (cases_lt c (length excludes_kin)) [
  | inl within ↦ ap (λ o. unwrap_or o true) (mark within)
  | inr past ↦ ap (λ o. unwrap_or o true) (slice_get_past excludes_kin c past)
]

clash-comm : (plan : Plan) (x y : Req) → clash plan x y ≡ clash plan y x
unfolding clash
clash-comm plan x y = or_comm (excludes_from plan.setup x y (parent_item plan y)) (excludes_from plan.setup y x (parent_item plan x))

-- the class of a parent that clashes
rival_parent-got : (cs : List ℕ) (rows : List (List ℕ)) (q r : Req) (c p : ℕ) → some_and (id_eq q.number) r.parent ≡ true
    → numbered cs q.number.number ≡ Some p → are_row_rivals rows p c ≡ true → rival_parent cs rows r c ≡ Some p
unfolding rival_parent parent_class
rival_parent-got cs rows q r c p kin is rivals =
    let w : (id : RequestId) × (r.parent ≡ Some id) × (id_eq q.number id ≡ true) = some_and-some (id_eq q.number) r.parent kin in
    let same : q.number.number ≡ w.0.number = eqb-true q.number.number w.0.number w.2 in
    let got : option_and_then (λ (id : RequestId). numbered cs id.number) r.parent ≡ Some p =
    ap (option_and_then (λ (id : RequestId). numbered cs id.number)) w.1 ∙ (ap (numbered cs) (sym same) ∙ is) in
    ap (option_and_then (λ d. then_some (are_row_rivals rows d c) d)) got ∙ ap (λ b. then_some b p) rivals

-- ---- the classes
module _ (plan : Plan) (cs ss ns : List ℕ) (hs : List Head) (sp : List Bool) where
  abbrev made : Classes
  made = record { classes = cs; slots = ss; sizes = ns; rivals = rows_of plan hs hs; excludes_kin = sp }

  class-got : ArePartitioned plan plan.requests cs ss ns hs → (k : ℕ) (r : Req) → slice_get plan.requests k ≡ Some r → slice_get cs k ≡ Some (class_at made r)
  unfolding class_at
  class-got is k r here = place-got cs r.number.number k (number_at plan k r here) (omega (arith, slice_get_within plan.requests k r here, is.each_class))

  class-numbered : ArePartitioned plan plan.requests cs ss ns hs → (r : Req) → Has plan.requests r → numbered cs r.number.number ≡ Some (class_at made r)
  unfolding class_at
  class-numbered is r has =
      let w : (k : ℕ) × (r.number.number ≡ suc k) × (slice_get plan.requests k ≡ Some r) = place_of plan r has in
      numbered-got cs r.number.number w.0 w.1 (omega (arith, slice_get_within plan.requests w.0 r w.2, is.each_class))

  slot-got : ArePartitioned plan plan.requests cs ss ns hs → (k : ℕ) (r : Req) → slice_get plan.requests k ≡ Some r → slice_get ss k ≡ Some (slot_at made r)
  unfolding slot_at
  slot-got is k r here = place-got ss r.number.number k (number_at plan k r here) (omega (arith, slice_get_within plan.requests k r here, is.each_slot))

  of_class-picked : ArePartitioned plan plan.requests cs ss ns hs → (c : ℕ) → of_class plan made c ≡ picked c cs plan.requests
  unfolding of_class
  of_class-picked is c = filter-picked (class_at made) c cs plan.requests is.each_class (class-got is)

  -- the head of the class of a request
  head-got : ArePartitioned plan plan.requests cs ss ns hs → (r : Req) → Has plan.requests r
      → (head : Head) × (slice_get hs (class_at made r) ≡ Some head) × (kind_at plan head ≡ kind_of plan r)
  head-got is r has =
      let w : (k : ℕ) × (r.number.number ≡ suc k) × (slice_get plan.requests k ≡ Some r) = place_of plan r has in
      let got : slice_get cs w.0 ≡ Some (class_at made r) = class-got is w.0 r w.2 in
      let v : (head : Head) × (slice_get hs (class_at made r) ≡ Some head) =
      slice_get-some hs (class_at made r) (omega (arith, is.known w.0 (class_at made r) got, is.each_head)) in
      (v.0, v.1, is.kinds w.0 (class_at made r) r v.0 got w.2 v.1)

  -- its row
  row-got : (c : ℕ) (head : Head) → slice_get hs c ≡ Some head → unwrap_or (slice_get (rows_of plan hs hs) c) [] ≡ row_of plan hs head
  row-got c head here = ap (λ o. unwrap_or o []) (get-mapped (row_of plan hs) hs c head here)

  rivals-made : ArePartitioned plan plan.requests cs ss ns hs → (x y : Req) → Has plan.requests x → Has plan.requests y
      → clash plan x y ≡ list_any (λ z. z == class_at made y) (unwrap_or (slice_get (rows_of plan hs hs) (class_at made x)) [])
  unfolding heads_clash row_of
  rivals-made is x y has_x has_y =
      let a : (head : Head) × (slice_get hs (class_at made x) ≡ Some head) × (kind_at plan head ≡ kind_of plan x) = head-got is x has_x in
      let b : (head : Head) × (slice_get hs (class_at made y) ≡ Some head) × (kind_at plan head ≡ kind_of plan y) = head-got is y has_y in
      let row : list_any (λ z. z == class_at made y) (row_of plan hs a.0) ≡ heads_clash plan a.0 b.0 =
      places-any (heads_clash plan a.0) 0 (class_at made y) (class_at made y) hs b.0 (omega arith) b.1 in
      let kinds : heads_clash plan a.0 b.0 ≡ kinds_clash plan.setup (kind_of plan x) (kind_of plan y) =
      ap (λ k. kinds_clash plan.setup k (kind_at plan b.0)) a.2 ∙ ap (kinds_clash plan.setup (kind_of plan x)) b.2 in
      clash_by_kinds plan x y ∙ (sym kinds ∙ (sym row ∙ ap (list_any (λ z. z == class_at made y)) (sym (row-got (class_at made x) a.0 a.1))))

  rising-made : ArePartitioned plan plan.requests cs ss ns hs → (c : ℕ) → IsTrue (are_rising (length ns) (unwrap_or (slice_get (rows_of plan hs hs) c) []))
  unfolding row_of
  rising-made is c = elim (cases_lt c (length hs)) [
    | inl within ↦
        let v : (head : Head) × (slice_get hs c ≡ Some head) = slice_get-some hs c within in
        ap (are_rising (length ns)) (row-got c v.0 v.1) ∙ places-rising (heads_clash plan v.0) (length ns) 0 hs (omega (arith, is.each_head))
    | inr past ↦
        let none : slice_get (rows_of plan hs hs) c ≡ None = slice_get_past (rows_of plan hs hs) c (rw length-map past) in
        ap (λ o. are_rising (length ns) (unwrap_or o [])) none
  ]

  -- a request whose kin clashes has its class marked
  kin-marked : ArePartitioned plan plan.requests cs ss ns hs → AreKinMarked plan.requests cs (rows_of plan hs hs) sp → (q r : Req)
      → Has plan.requests q → Has plan.requests r → is_kin q r ≡ true → clash plan q r ≡ true → IsMarked sp (class_at made r)
  unfolding is_kin are_row_rivals
  kin-marked is kin_marked q r has_q has_r kin clashes =
      let a : (k : ℕ) × (q.number.number ≡ suc k) × (slice_get plan.requests k ≡ Some q) = place_of plan q has_q in
      let b : (k : ℕ) × (r.number.number ≡ suc k) × (slice_get plan.requests k ≡ Some r) = place_of plan r has_r in
      let down : are_row_rivals (rows_of plan hs hs) (class_at made q) (class_at made r) ≡ true = sym (rivals-made is q r has_q has_r) ∙ clashes in
      let up : are_row_rivals (rows_of plan hs hs) (class_at made r) (class_at made q) ≡ true =
      sym (rivals-made is r q has_r has_q) ∙ (clash-comm plan r q ∙ clashes) in
      elim (or_cases (some_and (id_eq r.number) q.parent) (some_and (id_eq q.number) r.parent) kin) [
        | inl w ↦ kin_marked.parent a.0 (class_at made q) (class_at made r) q a.2 (class-got is a.0 q a.2)
            (rival_parent-got cs (rows_of plan hs hs) r q (class_at made q) (class_at made r) w (class-numbered is r has_r) up)
        | inr w ↦ kin_marked.own b.0 (class_at made r) (class_at made q) r b.2 (class-got is b.0 r b.2)
            (rival_parent-got cs (rows_of plan hs hs) q r (class_at made r) (class_at made q) w (class-numbered is q has_q) down)
      ]

  pub are_classes : ArePartitioned plan plan.requests cs ss ns hs → AreKinMarked plan.requests cs (rows_of plan hs hs) sp → AreClasses plan made
  unfolding rivals_at are_rivals excludes_kin_at
  are_classes is kin_marked = record {
    known = λ r has.
        let w : (k : ℕ) × (r.number.number ≡ suc k) × (slice_get plan.requests k ≡ Some r) = place_of plan r has in
        is.known w.0 (class_at made r) (class-got is w.0 r w.2);
    sized = λ c n e. ap length (of_class-picked is c) ∙ is.sized c n e;
    located = λ r has.
        let w : (k : ℕ) × (r.number.number ≡ suc k) × (slice_get plan.requests k ≡ Some r) = place_of plan r has in
        ap (λ l. slice_get l (slot_at made r)) (of_class-picked is (class_at made r))
        ∙ is.located w.0 (class_at made r) (slot_at made r) r (class-got is w.0 r w.2) (slot-got is w.0 r w.2) w.2;
    rivals = rivals-made is;
    rising = rising-made is;
    kin_marked = λ q r has_q has_r kin free. elim (cases_Bool (clash plan q r)) [
      | inl t ↦
          let marked : unwrap_or (slice_get sp (class_at made r)) true ≡ true = marked-excludes_kin sp (class_at made r) (kin-marked is kin_marked q r has_q has_r kin t) in
          cc
      | inr f ↦ f
    ];
  }

-- what is made of a partition
pub made_of : (plan : Plan) (partition : Partition) (classes : Classes) → IsPartition plan plan.requests partition
    → classes.classes ≡ partition.classes.items → classes.slots ≡ partition.slots.items → classes.sizes ≡ partition.sizes.items
    → classes.rivals ≡ rows_of plan partition.heads.items partition.heads.items
    → AreKinMarked plan.requests partition.classes.items classes.rivals classes.excludes_kin → AreClasses plan classes
made_of plan partition classes is c s n rows kin_marked =
    let located : ArePartitioned plan plan.requests classes.classes classes.slots classes.sizes partition.heads.items = rw (c, s, n) is.located in
    let free : AreKinMarked plan.requests classes.classes (rows_of plan partition.heads.items partition.heads.items) classes.excludes_kin = rw (c, ← rows) kin_marked in
    subst (λ (z : List (List ℕ)). AreClasses plan (record { classes = classes.classes; slots = classes.slots; sizes = classes.sizes; rivals = z; excludes_kin = classes.excludes_kin }))
    (sym rows) (are_classes plan classes.classes classes.slots classes.sizes partition.heads.items classes.excludes_kin located free)
