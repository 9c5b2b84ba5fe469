-- One more request has a class and a slot.
use Rattle.std.proofs.Common.{◌≡◌, ℕ, suc, ◌<◌, ◌≤◌, ◌==◌, true, List, [], ◌∷◌, ◌++◌, length, Some, refl, sym, ◌∙◌, ap, arith, inl, inr}
use Rattle.std.specs.Prelude.{slice_get, slice_set}
use Rattle.std.proofs.lemmas.Bool.{cases_Bool, eq-eqb, eqb-true, ne_eqb}
use Rattle.std.proofs.lemmas.List.{length-append, length-set}
use Rattle.std.proofs.lemmas.Option.{slice_get_within}
use Rattle.conc_types.specs.declared.plan.Plan.{Plan}
use Rattle.conc_types.specs.declared.plan.Req.{Req}
use Rattle.conc_event_classes.specs.declared.kinds.Head.{Head}
use Rattle.conc_event_classes.specs.Kinds.{kind_at, kind_of}
use Rattle.conc_event_classes.specs.Partitions.{ArePartitioned, picked}
use Rattle.conc_event_classes.proofs.Pushes.{get-front, get-one, get-push, get-seam, get-set, set-seam}

-- ---- the requests of a class, and one more

picked-own : (c k : ℕ) (ks : List ℕ) (rs : List Req) (r : Req) → length ks ≡ length rs → k ≡ c
    → picked c (ks ++ k ∷ []) (rs ++ r ∷ []) ≡ picked c ks rs ++ r ∷ []
picked-own c k [] [] r e h = rw (eq-eqb k c h) refl
picked-own c k [] (q ∷ rs) r e h = absurd (omega (arith, e))
picked-own c k (j ∷ ks) [] r e h = absurd (omega (arith, e))
picked-own c k (j ∷ ks) (q ∷ rs) r e h =
    let later : picked c (ks ++ k ∷ []) (rs ++ r ∷ []) ≡ picked c ks rs ++ r ∷ [] = picked-own c k ks rs r (omega (arith, e)) h in
    elim (cases_Bool (j == c)) [
      | inl t ↦ rw t (ap (λ l. q ∷ l) later)
      | inr f ↦ rw f later
    ]

picked-other : (c k : ℕ) (ks : List ℕ) (rs : List Req) (r : Req) → length ks ≡ length rs → (k ≡ c → ⊥)
    → picked c (ks ++ k ∷ []) (rs ++ r ∷ []) ≡ picked c ks rs
picked-other c k [] [] r e h = rw (ne_eqb k c h) refl
picked-other c k [] (q ∷ rs) r e h = absurd (omega (arith, e))
picked-other c k (j ∷ ks) [] r e h = absurd (omega (arith, e))
picked-other c k (j ∷ ks) (q ∷ rs) r e h =
    let later : picked c (ks ++ k ∷ []) (rs ++ r ∷ []) ≡ picked c ks rs = picked-other c k ks rs r (omega (arith, e)) h in
    elim (cases_Bool (j == c)) [
      | inl t ↦ rw t (ap (λ l. q ∷ l) later)
      | inr f ↦ rw f later
    ]

-- a class above all has no request
picked-none : (m : ℕ) (ks : List ℕ) (rs : List Req) → ((i c : ℕ) → slice_get ks i ≡ Some c → c < m) → picked m ks rs ≡ []
picked-none m [] rs h = refl
picked-none m (k ∷ ks) [] h = refl
picked-none m (k ∷ ks) (r ∷ rs) h =
    let below : k < m = h 0 k refl in
    rw (ne_eqb k m (λ e. omega (arith, e, below))) (picked-none m ks rs (λ i c g. h (suc i) c g))

-- those that were there stay
picked-front : (c k s : ℕ) (ks : List ℕ) (rs : List Req) (r q : Req) → length ks ≡ length rs
    → slice_get (picked c ks rs) s ≡ Some q → slice_get (picked c (ks ++ k ∷ []) (rs ++ r ∷ [])) s ≡ Some q
picked-front c k s ks rs r q e h = elim (cases_Bool (k == c)) [
  | inl t ↦ ap (λ l. slice_get l s) (picked-own c k ks rs r e (eqb-true k c t)) ∙ get-front (picked c ks rs) (r ∷ []) s q h
  | inr f ↦ ap (λ l. slice_get l s) (picked-other c k ks rs r e (λ same. let t : (k == c) ≡ true = eq-eqb k c same in cc)) ∙ h
]

-- a class has no more requests than there are
pub picked-few : (c : ℕ) (ks : List ℕ) (rs : List Req) → length (picked c ks rs) ≤ length rs
picked-few c [] rs = omega arith
picked-few c (k ∷ ks) [] = omega arith
picked-few c (k ∷ ks) (r ∷ rs) =
    let later : length (picked c ks rs) ≤ length rs = picked-few c ks rs in
    elim (cases_Bool (k == c)) [ inl t ↦ rw t (omega (arith, later)) | inr f ↦ rw f (omega (arith, later)) ]

-- ---- a request in a class of its kind
module _ (plan : Plan) (rs : List Req) (cs ss ns : List ℕ) (hs : List Head) (r : Req) (c n : ℕ) (head : Head) where
  joined-sized : ArePartitioned plan rs cs ss ns hs → slice_get ns c ≡ Some n → (d m : ℕ) → slice_get (slice_set ns c (suc n)) d ≡ Some m
      → length (picked d (cs ++ c ∷ []) (rs ++ r ∷ [])) ≡ m
  joined-sized was size d m e = elim (get-set ns c d (suc n) m e) [
    | inl w ↦
        let own : length (picked d cs rs) ≡ n = was.sized d n (ap (slice_get ns) w.0 ∙ size) in
        ap length (picked-own d c cs rs r was.each_class (sym w.0)) ∙ omega (arith, length-append (picked d cs rs) (r ∷ []), own, w.1)
    | inr w ↦ ap length (picked-other d c cs rs r was.each_class (λ same. w.0 (sym same))) ∙ was.sized d m w.1
  ]

  joined-located : ArePartitioned plan rs cs ss ns hs → slice_get ns c ≡ Some n → (i d s : ℕ) (q : Req)
      → slice_get (cs ++ c ∷ []) i ≡ Some d → slice_get (ss ++ n ∷ []) i ≡ Some s → slice_get (rs ++ r ∷ []) i ≡ Some q
      → slice_get (picked d (cs ++ c ∷ []) (rs ++ r ∷ [])) s ≡ Some q
  joined-located was size i d s q e f g = elim (get-push cs c (length rs) i d was.each_class e) [
    | inl w ↦ elim (get-push ss n (length rs) i s was.each_slot f) [
      | inl v ↦ elim (get-push rs r (length rs) i q refl g) [
        | inl u ↦ picked-front d c s cs rs r q was.each_class (was.located i d s q w.1 v.1 u.1)
        | inr u ↦ absurd (omega (arith, w.0, u.0))
      ]
      | inr v ↦ absurd (omega (arith, w.0, v.0))
    ]
    | inr w ↦ elim (get-push ss n (length rs) i s was.each_slot f) [
      | inl v ↦ absurd (omega (arith, w.0, v.0))
      | inr v ↦ elim (get-push rs r (length rs) i q refl g) [
        | inl u ↦ absurd (omega (arith, w.0, u.0))
        | inr u ↦
            let own : length (picked d cs rs) ≡ s = was.sized d s (ap (slice_get ns) (sym w.1) ∙ (size ∙ ap (λ z. Some z) v.1)) in
            ap (λ l. slice_get l s) (picked-own d c cs rs r was.each_class w.1)
            ∙ (get-seam (picked d cs rs) r [] s own ∙ ap (λ z. Some z) u.1)
      ]
    ]
  ]

  joined-kinds : ArePartitioned plan rs cs ss ns hs → slice_get hs c ≡ Some head → kind_at plan head ≡ kind_of plan r → (i d : ℕ) (q : Req) (other : Head)
      → slice_get (cs ++ c ∷ []) i ≡ Some d → slice_get (rs ++ r ∷ []) i ≡ Some q → slice_get hs d ≡ Some other → kind_at plan other ≡ kind_of plan q
  joined-kinds was here same i d q other e g h = elim (get-push cs c (length rs) i d was.each_class e) [
    | inl w ↦ elim (get-push rs r (length rs) i q refl g) [
      | inl u ↦ was.kinds i d q other w.1 u.1 h
      | inr u ↦ absurd (omega (arith, w.0, u.0))
    ]
    | inr w ↦ elim (get-push rs r (length rs) i q refl g) [
      | inl u ↦ absurd (omega (arith, w.0, u.0))
      | inr u ↦
          let one : other ≡ head = get-one hs d other head h (ap (slice_get hs) (sym w.1) ∙ here) in
          ap (kind_at plan) one ∙ (same ∙ ap (kind_of plan) u.1)
    ]
  ]

  pub joined : ArePartitioned plan rs cs ss ns hs → slice_get ns c ≡ Some n → slice_get hs c ≡ Some head → kind_at plan head ≡ kind_of plan r
      → ArePartitioned plan (rs ++ r ∷ []) (cs ++ c ∷ []) (ss ++ n ∷ []) (slice_set ns c (suc n)) hs
  joined was size here same = record {
    each_class = omega (arith, length-append cs (c ∷ []), length-append rs (r ∷ []), was.each_class);
    each_slot = omega (arith, length-append ss (n ∷ []), length-append rs (r ∷ []), was.each_slot);
    each_head = was.each_head ∙ sym (length-set ns c (suc n));
    known = λ i d e. rw length-set (elim (get-push cs c (length rs) i d was.each_class e) [
      | inl w ↦ was.known i d w.1
      | inr w ↦ omega (arith, w.1, slice_get_within ns c n size)
    ]);
    sized = joined-sized was size;
    located = joined-located was size;
    kinds = joined-kinds was here same;
  }

-- ---- a request in a class of its own
module _ (plan : Plan) (rs : List Req) (cs ss ns : List ℕ) (hs : List Head) (head : Head) where
  -- a new class has no request
  emptied : ArePartitioned plan rs cs ss ns hs → ArePartitioned plan rs cs ss (ns ++ 0 ∷ []) (hs ++ head ∷ [])
  emptied was = record {
    each_class = was.each_class;
    each_slot = was.each_slot;
    each_head = omega (arith, length-append ns (0 ∷ []), length-append hs (head ∷ []), was.each_head);
    known = λ i d e. omega (arith, length-append ns (0 ∷ []), was.known i d e);
    sized = λ d m e. elim (get-push ns 0 (length ns) d m refl e) [
      | inl w ↦ was.sized d m w.1
      | inr w ↦ ap length (picked-none d cs rs (λ i k g. omega (arith, was.known i k g, w.0))) ∙ w.1
    ];
    located = was.located;
    kinds = λ i d q other e g h. elim (get-push hs head (length ns) d other was.each_head h) [
      | inl w ↦ was.kinds i d q other e g w.1
      | inr w ↦ absurd (omega (arith, was.known i d e, w.0))
    ];
  }

  pub opened : (r : Req) (c : ℕ) → ArePartitioned plan rs cs ss ns hs → c ≡ length hs → kind_at plan head ≡ kind_of plan r
      → ArePartitioned plan (rs ++ r ∷ []) (cs ++ c ∷ []) (ss ++ 0 ∷ []) (ns ++ 1 ∷ []) (hs ++ head ∷ [])
  opened r c was last same =
      let size : slice_get (ns ++ 0 ∷ []) c ≡ Some 0 = get-seam ns 0 [] c (sym was.each_head ∙ sym last) in
      let here : slice_get (hs ++ head ∷ []) c ≡ Some head = get-seam hs head [] c (sym last) in
      rw (sym (set-seam ns 0 1 c (sym was.each_head ∙ sym last)))
      (joined plan rs cs ss (ns ++ 0 ∷ []) (hs ++ head ∷ []) r c 0 head (emptied was) size here same)
