-- The slots of requests in queues, and what is written there.
use Rattle.std.proofs.Common.{◌≡◌, ℕ, zero, suc, ◌+◌, ◌-◌, ◌<◌, ◌≤◌, Bool, List, [], ◌∷◌, ◌++◌, length, get_or, map, set, take, Option, None, Some, refl, sym, ◌∙◌, ap, inl, inr, subst, add-one, arith}
use Rattle.std.specs.Prelude.{slice_get}
use Rattle.std.specs.Bool.{then_some}
use Rattle.std.proofs.lemmas.Bool.{cases_eq}
use Rattle.std.proofs.lemmas.List.{length-map, length-set}
use Rattle.std.proofs.lemmas.Option.{slice_get_within}
use Rattle.conc_types.specs.declared.plan.Plan.{Plan}
use Rattle.conc_types.specs.declared.plan.Req.{Req}
use Rattle.conc_types.specs.Plans.{request}
use Rattle.conc_base_law.specs.Words.{Has}
use Rattle.conc_base_law.proofs.Numbering.{numbered_plan}
use Rattle.conc_base_law.proofs.Positions.{slice_get-some}
use Rattle.conc_event_classes.specs.Classes.{AreClasses, class_at, of_class, slot_at}
use Rattle.conc_event_classes.specs.declared.classes.Classes.{Classes}
use Rattle.conc_event_queue.specs.Least.{vacant}
use Rattle.conc_event_queue.proofs.Maps.{place_of_request, slice_get-set_other, slice_get-set_same}
use Rattle.conc_history_check.specs.Marks.{AreQueues, HasSlot, queue_at, slot_in_class, slot_of}

-- requests of a plan with one number are one
pub same_number : (plan : Plan) (x y : Req) → Has plan.requests x → Has plan.requests y → x.number.number ≡ y.number.number → x ≡ y
same_number plan x y hx hy e =
    let n : x.number ≡ y.number = ap (λ n. record { number = n }) e in
    let p : Some x ≡ Some y = sym (numbered_plan plan x hx) ∙ ap (request plan) n ∙ numbered_plan plan y hy in
    cc

-- ---- a queue of all requests

pub has-slot : (plan : Plan) (queue : List (Option ℕ)) (r : Req) → length queue ≡ length plan.requests → Has plan.requests r → HasSlot queue r
has-slot plan queue r all has =
    let p : (k : ℕ) × (slice_get plan.requests k ≡ Some r) × (r.number.number ≡ k + 1) = place_of_request plan r has in
    let within : p.0 < length plan.requests = slice_get_within plan.requests p.0 r p.1 in
    (omega (arith, p.2), omega (arith, p.2, within, all))

set-at : {T : Type 0} (xs : List T) (i : ℕ) (y : T) → i < length xs → slice_get (set xs i y) i ≡ Some y
set-at {T} xs i y within =
    let w : (x : T) × (slice_get xs i ≡ Some x) = slice_get-some xs i within in
    slice_get-set_same xs i w.0 y w.1

-- what is written stands there
pub slot-set : (queue new : List (Option ℕ)) (r : Req) (key : Option ℕ) → HasSlot queue r → new ≡ set queue (r.number.number - 1) key → slot_of new r ≡ Some key
slot-set queue new r key there is = ap (λ l. slice_get l (r.number.number - 1)) is ∙ set-at queue (r.number.number - 1) key (omega (arith, there.0, there.1))

-- and in the other slots what stood there
pub slot-set_other : (queue new : List (Option ℕ)) (r q : Req) (key : Option ℕ) → 0 < r.number.number → 0 < q.number.number → (q.number.number ≡ r.number.number → ⊥)
    → new ≡ set queue (r.number.number - 1) key → slot_of new q ≡ slot_of queue q
slot-set_other queue new r q key some other ne is =
    ap (λ l. slice_get l (q.number.number - 1)) is
    ∙ slice_get-set_other queue (r.number.number - 1) (q.number.number - 1) key
    (λ (e : q.number.number - 1 ≡ r.number.number - 1). ne (omega (arith, e, some, other)))

pub slot-own : (queue new : List (Option ℕ)) (r : Req) (b : Bool) → HasSlot queue r → new ≡ set queue (r.number.number - 1) (then_some b r.number.number)
    → slot_of new r ≡ Some (then_some b r.number.number)
slot-own queue new r b there is =
    ap (λ l. slice_get l (r.number.number - 1)) is
    ∙ set-at queue (r.number.number - 1) (then_some b r.number.number) (omega (arith, there.0, there.1))

-- the other slots stay
pub slot-other : (queue new : List (Option ℕ)) (r q : Req) (b : Bool) (x : Option (Option ℕ)) → HasSlot queue r → HasSlot queue q → (q.number.number ≡ r.number.number → ⊥)
    → new ≡ set queue (r.number.number - 1) (then_some b r.number.number) → slot_of queue q ≡ x → slot_of new q ≡ x
slot-other queue new r q b x there other ne is was =
    ap (λ l. slice_get l (q.number.number - 1)) is
    ∙ slice_get-set_other queue (r.number.number - 1) (q.number.number - 1) (then_some b r.number.number)
    (λ (e : q.number.number - 1 ≡ r.number.number - 1). ne (omega (arith, e, there.0, other.0)))
    ∙ was

-- ---- queues of classes

-- the queue at a place, by the list of the lengths
queue-there : (queues : List (List (Option ℕ))) (c n : ℕ) → slice_get (map length queues) c ≡ Some n → (c < length queues) × (length (get_or queues c []) ≡ n)
queue-there [] c n h = cc
queue-there (q ∷ queues) zero n h = let same : length q ≡ n = cc in (omega arith, same)
queue-there (q ∷ queues) (suc c) n h =
    let later : (c < length queues) × (length (get_or queues c []) ≡ n) = queue-there queues c n h in
    (omega (arith, later.0), later.1)

-- the class of a request has a queue, in which the request has a slot
pub class-there : (plan : Plan) (classes : Classes) → AreClasses plan classes → (queues : List (List (Option ℕ))) → AreQueues plan classes queues → (r : Req) → Has plan.requests r
    → (class_at classes r < length queues) × (slot_at classes r < length (get_or queues (class_at classes r) []))
class-there plan classes are queues have r has =
    let size : (n : ℕ) × (slice_get classes.sizes (class_at classes r) ≡ Some n) = slice_get-some classes.sizes (class_at classes r) (are.known r has) in
    let own : (class_at classes r < length queues) × (length (get_or queues (class_at classes r) []) ≡ size.0) =
    queue-there queues (class_at classes r) size.0 (ap (λ l. slice_get l (class_at classes r)) have.slots ∙ size.1) in
    let all : length (of_class plan classes (class_at classes r)) ≡ size.0 = are.sized (class_at classes r) size.0 size.1 in
    let inside : slot_at classes r < length (of_class plan classes (class_at classes r)) =
    slice_get_within (of_class plan classes (class_at classes r)) (slot_at classes r) r (are.located r has) in
    (own.0, omega (arith, own.1, all, inside))

get-set : {T : Type 0} (xs : List T) (i : ℕ) (y d : T) → i < length xs → get_or (set xs i y) i d ≡ y
get-set [] i y d within = absurd (omega (arith, within))
get-set (x ∷ xs) zero y d within = refl
get-set (x ∷ xs) (suc i) y d within = get-set xs i y d (omega (arith, within))

get-set_other : {T : Type 0} (xs : List T) (i k : ℕ) (y d : T) → (k ≡ i → ⊥) → get_or (set xs i y) k d ≡ get_or xs k d
get-set_other [] i k y d ne = refl
get-set_other (x ∷ xs) zero zero y d ne = absurd (ne refl)
get-set_other (x ∷ xs) zero (suc k) y d ne = refl
get-set_other (x ∷ xs) (suc i) zero y d ne = refl
get-set_other (x ∷ xs) (suc i) (suc k) y d ne = get-set_other xs i k y d (λ (e : k ≡ i). ne (ap (λ n. suc n) e))

-- the queues with a key written
abbrev pub Put : List (List (Option ℕ)) → List (List (Option ℕ)) → ℕ → ℕ → Option ℕ → Type 0
Put queues new c slot key = new ≡ set queues c (set (get_or queues c []) slot key)

pub class-own : (classes : Classes) (queues new : List (List (Option ℕ))) (r : Req) (key : Option ℕ) → (class_at classes r < length queues) × (slot_at classes r < length (get_or queues (class_at classes r) []))
    → Put queues new (class_at classes r) (slot_at classes r) key → slot_in_class classes new r ≡ Some key
class-own classes queues new r key there is =
    ap (λ l. slice_get (queue_at l (class_at classes r)) (slot_at classes r)) is
    ∙ ap (λ q. slice_get q (slot_at classes r)) (get-set queues (class_at classes r) _ [] there.0)
    ∙ set-at (get_or queues (class_at classes r) []) (slot_at classes r) key there.1

-- no two requests have one slot
slots-apart : (plan : Plan) (classes : Classes) → AreClasses plan classes → (r q : Req) → Has plan.requests r → Has plan.requests q → (q.number.number ≡ r.number.number → ⊥)
    → class_at classes q ≡ class_at classes r → slot_at classes q ≡ slot_at classes r → ⊥
slots-apart plan classes are r q hr hq ne class slot =
    let p : Some q ≡ Some r = sym (are.located q hq) ∙ ap (λ c. slice_get (of_class plan classes c) (slot_at classes q)) class ∙ ap (slice_get (of_class plan classes (class_at classes r))) slot ∙ are.located r hr in
    let same : q ≡ r = cc in
    ne (ap (λ z. z.number.number) same)

pub class-other : (plan : Plan) (classes : Classes) → AreClasses plan classes → (queues new : List (List (Option ℕ))) (r q : Req) (key : Option ℕ) (x : Option (Option ℕ)) → Has plan.requests r → Has plan.requests q
    → (class_at classes r < length queues) × (slot_at classes r < length (get_or queues (class_at classes r) []))
    → (q.number.number ≡ r.number.number → ⊥) → Put queues new (class_at classes r) (slot_at classes r) key → slot_in_class classes queues q ≡ x → slot_in_class classes new q ≡ x
class-other plan classes are queues new r q key x hr hq there ne is was =
    ap (λ l. slice_get (queue_at l (class_at classes q)) (slot_at classes q)) is ∙ elim (cases_eq (class_at classes q) (class_at classes r)) [
      | inl same ↦
          ap (λ c. slice_get (queue_at (set queues (class_at classes r) (set (get_or queues (class_at classes r) []) (slot_at classes r) key)) c) (slot_at classes q)) same
          ∙ ap (λ l. slice_get l (slot_at classes q)) (get-set queues (class_at classes r) _ [] there.0)
          ∙ slice_get-set_other (get_or queues (class_at classes r) []) (slot_at classes r) (slot_at classes q) key (slots-apart plan classes are r q hr hq ne same)
          ∙ ap (λ c. slice_get (queue_at queues c) (slot_at classes q)) (sym same)
          ∙ was
      | inr other ↦ ap (λ l. slice_get l (slot_at classes q)) (get-set_other queues (class_at classes r) (class_at classes q) _ [] other) ∙ was
    ]

-- a key that is written changes no length
lengths-put : (queues : List (List (Option ℕ))) (c slot : ℕ) (key : Option ℕ) → map length (set queues c (set (get_or queues c []) slot key)) ≡ map length queues
lengths-put [] c slot key = refl
lengths-put (q ∷ queues) zero slot key = ap (λ n. n ∷ map length queues) (length-set q slot key)
lengths-put (q ∷ queues) (suc c) slot key = ap (λ l. length q ∷ l) (lengths-put queues c slot key)

-- the key of a request may be written
pub queues-put : (plan : Plan) (classes : Classes) → AreClasses plan classes → (queues new : List (List (Option ℕ))) (r : Req) (key : Option ℕ) → AreQueues plan classes queues → Has plan.requests r
    → Put queues new (class_at classes r) (slot_at classes r) key → AreQueues plan classes new
queues-put plan classes are queues new r key have has is = record {
  slots = ap (map length) is ∙ lengths-put queues (class_at classes r) (slot_at classes r) key ∙ have.slots;
  own = λ c slot k at. elim (cases_eq c (class_at classes r)) [
    | inl same ↦ elim (cases_eq slot (slot_at classes r)) [
      | inl here ↦ (r, has, sym same, sym here)
      | inr other ↦ have.own c slot k (
          ap (λ d. slice_get (queue_at queues d) slot) same
          ∙ sym (slice_get-set_other (get_or queues (class_at classes r) []) (slot_at classes r) slot key other)
          ∙ sym (ap (λ l. slice_get l slot) (get-set queues (class_at classes r) _ [] (class-there plan classes are queues have r has).0))
          ∙ sym (ap (λ d. slice_get (queue_at (set queues (class_at classes r) (set (get_or queues (class_at classes r) []) (slot_at classes r) key)) d) slot) same)
          ∙ sym (ap (λ l. slice_get (queue_at l c) slot) is)
          ∙ at)
    ]
    | inr other ↦ have.own c slot k (
        sym (ap (λ l. slice_get l slot) (get-set_other queues (class_at classes r) c _ [] other))
        ∙ sym (ap (λ l. slice_get (queue_at l c) slot) is)
        ∙ at)
  ];
}

-- ---- no keys

abbrev pub AreKeyless : List (List (Option ℕ)) → Type 0
AreKeyless queues = (c slot key : ℕ) → slice_get (queue_at queues c) slot ≡ Some (Some key) → ⊥

vacant-keyless : (n slot key : ℕ) → slice_get (vacant n) slot ≡ Some (Some key) → ⊥
unfolding vacant
vacant-keyless zero slot key at = cc
vacant-keyless (suc n) zero key at = cc
vacant-keyless (suc n) (suc slot) key at = vacant-keyless n slot key at

pub keyless-none : AreKeyless []
keyless-none c slot key at = cc

-- one vacant queue more
pub keyless-more : (queues : List (List (Option ℕ))) (q : List (Option ℕ)) (n : ℕ) → AreKeyless queues → q ≡ vacant n → AreKeyless (queues ++ q ∷ [])
keyless-more [] q n none is zero slot key at = vacant-keyless n slot key (ap (λ l. slice_get l slot) (sym is) ∙ at)
keyless-more [] q n none is (suc c) slot key at = cc
keyless-more (x ∷ xs) q n none is zero slot key at = none 0 slot key at
keyless-more (x ∷ xs) q n none is (suc c) slot key at = keyless-more xs q n (λ d. none (suc d)) is c slot key at

pub length-vacant : (n : ℕ) → length (vacant n) ≡ n
unfolding vacant
length-vacant zero = refl
length-vacant (suc n) = ap (λ k. suc k) (length-vacant n)

pub lengths-more : (queues : List (List (Option ℕ))) (q : List (Option ℕ)) → map length (queues ++ q ∷ []) ≡ map length queues ++ length q ∷ []
lengths-more [] q = refl
lengths-more (x ∷ xs) q = ap (λ l. length x ∷ l) (lengths-more xs q)

sizes-next : (sizes : List ℕ) (k : ℕ) → k < length sizes → take k sizes ++ get_or sizes k 0 ∷ [] ≡ take (k + 1) sizes
sizes-next sizes k within = rw (add-one k) (at sizes k within) where
  at : (sizes : List ℕ) (k : ℕ) → k < length sizes → take k sizes ++ get_or sizes k 0 ∷ [] ≡ take (suc k) sizes
  at [] k within = absurd (omega (arith, within))
  at (x ∷ xs) zero within = refl
  at (x ∷ xs) (suc k) within = ap (λ l. x ∷ l) (at xs k (omega (arith, within)))

take-whole : (n : ℕ) (xs : List ℕ) → length xs ≤ n → take n xs ≡ xs
take-whole zero [] h = refl
take-whole (suc n) [] h = refl
take-whole zero (x ∷ xs) h = absurd (omega (arith, h))
take-whole (suc n) (x ∷ xs) h = ap (λ l. x ∷ l) (take-whole n xs (omega (arith, h)))

-- the queues of the first classes have the lengths that they need, and no keys
abbrev pub AreVacantTo : Classes → ℕ → List (List (Option ℕ)) → Type 0
AreVacantTo classes n queues = (map length queues ≡ take n classes.sizes) × AreKeyless queues

pub vacant-start : (classes : Classes) (queues : List (List (Option ℕ))) → queues ≡ [] → AreVacantTo classes 0 queues
vacant-start classes queues is = (ap (map length) is, subst AreKeyless (sym is) keyless-none)

pub vacant-more : (classes : Classes) (n : ℕ) (queues new : List (List (Option ℕ))) → n < length classes.sizes → AreVacantTo classes n queues
    → new ≡ queues ++ vacant (get_or classes.sizes n 0) ∷ [] → AreVacantTo classes (n + 1) new
vacant-more classes n queues new within are is =
    let size = get_or classes.sizes n 0 in (
      ap (map length) is
          ∙ lengths-more queues (vacant size)
          ∙ ap (λ l. l ++ length (vacant size) ∷ []) are.0
          ∙ ap (λ k. take n classes.sizes ++ k ∷ []) (length-vacant size)
          ∙ sizes-next classes.sizes n within,
      subst AreKeyless (sym is) (keyless-more queues (vacant size) size are.1 refl),
    )

pub vacant-all : (plan : Plan) (classes : Classes) (n : ℕ) (queues : List (List (Option ℕ))) → length classes.sizes ≤ n → AreVacantTo classes n queues → AreQueues plan classes queues
vacant-all plan classes n queues all are = record {
  slots = are.0 ∙ take-whole n classes.sizes all;
  own = λ c slot key at. absurd (are.1 c slot key at);
}
