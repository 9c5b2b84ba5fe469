-- The least number in the queue of a class is that of a live request of it, and there is one where one is live.
use Rattle.std.proofs.Common.{◌≡◌, ℕ, zero, suc, ◌≤◌, Bool, true, false, List, [], ◌∷◌, Option, None, Some, refl, sym, ◌∙◌, ap, inl, inr, arith}
use Rattle.std.specs.Prelude.{if◌then◌else◌, is_some, slice_get}
use Rattle.std.specs.Bool.{then_some}
use Rattle.std.specs.Option.{option_and_then}
use Rattle.std.proofs.lemmas.Bool.{cases_lt, le-ltb, lt-ltb}
use Rattle.conc_types.specs.declared.facts.State.{State}
use Rattle.conc_types.specs.declared.plan.Plan.{Plan}
use Rattle.conc_types.specs.declared.plan.Req.{Req}
use Rattle.conc_base_law.specs.State.{facts_at, is_live}
use Rattle.conc_base_law.specs.Words.{Has}
use Rattle.conc_event_classes.specs.Classes.{class_at, slot_at}
use Rattle.conc_event_classes.specs.declared.classes.Classes.{Classes}
use Rattle.conc_event_queue.specs.Least.{least, lesser}
use Rattle.conc_history_check.specs.Live.{AreLive, IsLiveOf, noted}
use Rattle.conc_history_check.specs.Marks.{AreMarks, queue_at, slot_in_class}
use Rattle.conc_history_check.specs.declared.marks.Marks.{Marks}

-- ---- the least key of a queue

-- it stands in a slot
pub least-slot : (queue : List (Option ℕ)) (k : ℕ) → least queue ≡ Some k → (i : ℕ) × (slice_get queue i ≡ Some (Some k))
unfolding least
least-slot [] k h = cc
least-slot (x ∷ xs) k h = by x (least xs) refl (least-slot xs k) h where
  earlier : (i : ℕ) × (slice_get xs i ≡ Some (Some k)) → (x' : Option ℕ) → (i : ℕ) × (slice_get (x' ∷ xs) i ≡ Some (Some k))
  earlier (i, at) x' = (suc i, at)

  by : (x' o : Option ℕ) → least xs ≡ o → (least xs ≡ Some k → (i : ℕ) × (slice_get xs i ≡ Some (Some k))) → lesser x' o ≡ Some k → (i : ℕ) × (slice_get (x' ∷ xs) i ≡ Some (Some k))
  by None o is rest e = earlier (rest (is ∙ e)) None
  by (Some a) None is rest e = (0, ap (λ (o : Option ℕ). Some o) e)
  by (Some a) (Some b) is rest e = elim (cases_lt b a) [
    | inl less ↦
        let same : ◌≡◌ {A = Option ℕ} (Some b) (Some k) = ap (λ (t : Bool). Some (if t then b else a)) (sym (lt-ltb b a less)) ∙ e in
        earlier (rest (is ∙ same)) (Some a)
    | inr more ↦
        let same : ◌≡◌ {A = Option ℕ} (Some a) (Some k) = ap (λ (t : Bool). Some (if t then b else a)) (sym (le-ltb b a more)) ∙ e in
        (0, ap (λ (o : Option ℕ). Some o) same)
  ]

-- there is one where a slot has a key, and it is no greater
pub least-of : (queue : List (Option ℕ)) (i k : ℕ) → slice_get queue i ≡ Some (Some k) → (m : ℕ) × (least queue ≡ Some m) × (m ≤ k)
unfolding least
least-of [] i k at = cc
least-of (x ∷ xs) zero k at = let same : x ≡ Some k = cc in by x (least xs) same where
  by : (x' o : Option ℕ) → x' ≡ Some k → (m : ℕ) × (lesser x' o ≡ Some m) × (m ≤ k)
  by None o e = cc
  by (Some a) None e = let own : a ≡ k = cc in (a, refl, omega (arith, own))
  by (Some a) (Some b) e = let own : a ≡ k = cc in elim (cases_lt b a) [
    | inl less ↦ (b, ap (λ (t : Bool). Some (if t then b else a)) (lt-ltb b a less), omega (arith, own, less))
    | inr more ↦ (a, ap (λ (t : Bool). Some (if t then b else a)) (le-ltb b a more), omega (arith, own))
  ]
least-of (x ∷ xs) (suc i) k at = by x (least xs) (least-of xs i k at) where
  by : (x' o : Option ℕ) → (m : ℕ) × (o ≡ Some m) × (m ≤ k) → (m : ℕ) × (lesser x' o ≡ Some m) × (m ≤ k)
  by None o later = later
  by (Some a) None later = let none : ◌≡◌ {A = Option ℕ} None (Some later.0) = later.1 in cc
  by (Some a) (Some b) later = let own : b ≡ later.0 = (let e : ◌≡◌ {A = Option ℕ} (Some b) (Some later.0) = later.1 in cc) in elim (cases_lt b a) [
    | inl less ↦ (b, ap (λ (t : Bool). Some (if t then b else a)) (lt-ltb b a less), omega (arith, own, later.2))
    | inr more ↦ (a, ap (λ (t : Bool). Some (if t then b else a)) (le-ltb b a more), omega (arith, own, later.2, more))
  ]

-- the least of the queue at a place, where there is one
pub noted-queue : (live : List (List (Option ℕ))) (c : ℕ) → option_and_then least (slice_get live c) ≡ least (queue_at live c)
unfolding least
noted-queue [] c = refl
noted-queue (x ∷ xs) zero = refl
noted-queue (x ∷ xs) (suc c) = noted-queue xs c

-- ---- live requests

-- a key that stands there is the number of a request that passes
pub key-passes : (b : Bool) (n k : ℕ) → ◌≡◌ {A = Option (Option ℕ)} (Some (then_some b n)) (Some (Some k)) → (b ≡ true) × (n ≡ k)
key-passes true n k h = (refl, let same : ◌≡◌ {A = Option ℕ} (Some n) (Some k) = cc in cc)
key-passes false n k h = cc

pub lives : (plan : Plan) (classes : Classes) (s : State) (marks : Marks) → AreMarks plan classes s marks → AreLive plan classes s marks.live.items
unfolding noted
lives plan classes s marks are = record {
  known = λ q has live.
      let there : slot_in_class classes marks.live.items q ≡ Some (Some q.number.number) =
      (are.all q has).live ∙ ap (λ b. Some (then_some b q.number.number)) live in
      let l : (m : ℕ) × (least (queue_at marks.live.items (class_at classes q)) ≡ Some m) × (m ≤ q.number.number) =
      least-of (queue_at marks.live.items (class_at classes q)) (slot_at classes q) q.number.number there in
      ap is_some (noted-queue marks.live.items (class_at classes q) ∙ l.1);
  own = λ c number is.
      let at : (i : ℕ) × (slice_get (queue_at marks.live.items c) i ≡ Some (Some number)) = least-slot (queue_at marks.live.items c) number (sym (noted-queue marks.live.items c) ∙ is) in
      owned c number at.0 at.1 (are.room.live.own c at.0 number at.1);
} where
  owned : (c number i : ℕ) → slice_get (queue_at marks.live.items c) i ≡ Some (Some number)
      → (r : Req) × Has plan.requests r × (class_at classes r ≡ c) × (slot_at classes r ≡ i) → IsLiveOf plan classes s c number
  owned c number i at (r, has, class, slot) =
      let own : Some (then_some (is_live (facts_at s r)) r.number.number) ≡ Some (Some number) =
      sym (are.all r has).live
      ∙ ap (λ d. slice_get (queue_at marks.live.items d) (slot_at classes r)) class
      ∙ ap (slice_get (queue_at marks.live.items c)) slot ∙ at in
      let p : (is_live (facts_at s r) ≡ true) × (r.number.number ≡ number) = key-passes (is_live (facts_at s r)) r.number.number number own in
      (r, has, p.1, p.0, class)
