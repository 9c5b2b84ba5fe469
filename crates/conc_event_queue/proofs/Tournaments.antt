-- A tournament after a write, and its first node.
use Rattle.std.proofs.Common.{◌≡◌, ℕ, zero, suc, ◌+◌, ◌*◌, ◌/◌, ◌-◌, ◌<◌, ◌≤◌, ◌⊎◌, List, [], ◌∷◌, length, get_or, set, drop, Option, None, Some, refl, sym, ◌∙◌, ap, inl, inr, arith, length-drop}
use Rattle.std.proofs.lemmas.Bool.{cases_eq, cases_lt, le-ltb, lt-ltb}
use Rattle.std.proofs.lemmas.List.{get_or-drop, get_or-set_other}
use Rattle.std.proofs.Math.ListN.{length-set}
use Rattle.conc_event_queue.specs.Least.{least, lesser}
use Rattle.conc_event_queue.specs.Tournament.{IsTournament, IsTournamentBut, node, played}

-- ---- a write

-- the two below a node stay where the node that is written is none of them
played-set_other : (nodes : List (Option ℕ)) (i j : ℕ) (key : Option ℕ) → (j ≡ i / 2 → ⊥) → 1 ≤ j → played (set nodes i key) j ≡ played nodes j
played-set_other nodes i j key ne pos =
    let left : node (set nodes i key) (j * 2) ≡ node nodes (j * 2) = get_or-set_other nodes i (j * 2) key None (λ (e : j * 2 ≡ i). ne (omega arith)) in
    let right : node (set nodes i key) (j * 2 + 1) ≡ node nodes (j * 2 + 1) = get_or-set_other nodes i (j * 2 + 1) key None (λ (e : j * 2 + 1 ≡ i). ne (omega arith)) in
    cc

-- a slot is written: but at the node above it the tournament stays
pub slot_written : (slots : ℕ) (nodes : List (Option ℕ)) (slot : ℕ) (key : Option ℕ) → IsTournament slots nodes
    → IsTournamentBut slots (set nodes (slots + slot) key) ((slots + slot) / 2)
slot_written slots nodes slot key t = record {
  size = length-set nodes (slots + slot) key ∙ t.size;
  inner = λ i pos within ne.
      get_or-set_other nodes (slots + slot) i key None (λ (e : i ≡ slots + slot). absurd (omega arith))
      ∙ t.inner i pos within
      ∙ sym (played-set_other nodes (slots + slot) i key ne pos);
}

-- ---- the lesser of two

-- x is no greater than y; none is greater than all
abbrev AtMost : Option ℕ → Option ℕ → Type 0
AtMost x None = Unit
AtMost None (Some b) = ⊥
AtMost (Some a) (Some b) = a ≤ b

at_most-self : (x : Option ℕ) → AtMost x x
at_most-self None = tt
at_most-self (Some a) = omega arith

at_most-through : (x y z : Option ℕ) → AtMost x y → AtMost y z → AtMost x z
at_most-through x y None h k = tt
at_most-through x None (Some c) h k = absurd k
at_most-through None (Some b) (Some c) h k = absurd h
at_most-through (Some a) (Some b) (Some c) h k = omega arith

at_most-both : (x y : Option ℕ) → AtMost x y → AtMost y x → x ≡ y
at_most-both None None h k = refl
at_most-both None (Some b) h k = absurd h
at_most-both (Some a) None h k = absurd k
at_most-both (Some a) (Some b) h k = let e : a ≡ b = omega arith in ap (λ n. Some n) e

-- the lesser of two is one of them, and no greater than each
lesser-parts : (x y : Option ℕ) → ((lesser x y ≡ x) ⊎ (lesser x y ≡ y)) × AtMost (lesser x y) x × AtMost (lesser x y) y
lesser-parts None y = (inr refl, tt, at_most-self y)
lesser-parts (Some a) None = (inl refl, at_most-self (Some a), tt)
lesser-parts (Some a) (Some b) = elim (cases_lt b a) [
  | inl less ↦ rw (lt-ltb b a less) (inr refl, omega arith, omega arith)
  | inr more ↦ rw (le-ltb b a more) (inl refl, omega arith, omega arith)
]

-- ---- the least of a list

-- the least is no greater than each
least-below : (xs : List (Option ℕ)) (k : ℕ) → k < length xs → AtMost (least xs) (get_or xs k None)
unfolding least
least-below [] k h = absurd (omega arith)
least-below (x ∷ xs) zero h = (lesser-parts x (least xs)).1
least-below (x ∷ xs) (suc k) h =
    at_most-through (lesser x (least xs)) (least xs) (get_or xs k None) (lesser-parts x (least xs)).2 (least-below xs k (omega arith))

-- what is no greater than each is no greater than the least
below-least : (xs : List (Option ℕ)) (m : Option ℕ) → ((k : ℕ) → k < length xs → AtMost m (get_or xs k None)) → AtMost m (least xs)
unfolding least
below-least [] m h = tt
below-least (x ∷ xs) m h = elim (lesser-parts x (least xs)).0 [
  | inl e ↦ rw e (h 0 (omega arith))
  | inr e ↦ rw e (below-least xs m (λ k within. h (suc k) (omega arith)))
]

-- an element that is no greater than each is the least
least-is : (xs : List (Option ℕ)) (m : Option ℕ) (k : ℕ) → ((j : ℕ) → j < length xs → AtMost m (get_or xs j None)) → k < length xs → m ≡ get_or xs k None
    → least xs ≡ m
least-is xs m k h within e = at_most-both (least xs) m (rw e (least-below xs k within)) (below-least xs m h)

-- ---- the first node

-- the first node is no greater than each
first-below : (slots : ℕ) (nodes : List (Option ℕ)) → IsTournament slots nodes
    → (most i : ℕ) → i ≤ most → 1 ≤ i → i < slots * 2 → AtMost (node nodes 1) (node nodes i)
first-below slots nodes t zero i le pos within = absurd (omega arith)
first-below slots nodes t (suc most) i le pos within = elim (cases_eq i 1) [
  | inl e ↦ rw e (at_most-self (node nodes 1))
  | inr ne ↦
      let half : AtMost (node nodes 1) (node nodes (i / 2)) = first-below slots nodes t most (i / 2) (omega arith) (omega arith) (omega arith) in
      let right : node nodes (i / 2) ≡ played nodes (i / 2) = t.inner (i / 2) (omega arith) (omega arith) in
      let below : AtMost (node nodes 1) (played nodes (i / 2)) = rw right at half in
      elim (cases_eq i (i / 2 * 2)) [
        | inl e ↦ rw e (at_most-through (node nodes 1) (played nodes (i / 2)) (node nodes (i / 2 * 2)) below
            (lesser-parts (node nodes (i / 2 * 2)) (node nodes (i / 2 * 2 + 1))).1)
        | inr odd ↦ let e : i ≡ i / 2 * 2 + 1 = omega arith in
            rw e (at_most-through (node nodes 1) (played nodes (i / 2)) (node nodes (i / 2 * 2 + 1)) below
            (lesser-parts (node nodes (i / 2 * 2)) (node nodes (i / 2 * 2 + 1))).2)
      ]
]

-- each node has the key of a slot
key_of_slot : (slots : ℕ) (nodes : List (Option ℕ)) → IsTournament slots nodes
    → (more i : ℕ) → slots * 2 ≤ i + more → 1 ≤ i → i < slots * 2 → (k : ℕ) × (k < slots) × (node nodes i ≡ node nodes (slots + k))
key_of_slot slots nodes t zero i le pos within = absurd (omega arith)
key_of_slot slots nodes t (suc more) i le pos within = elim (cases_lt i slots) [
  | inr slot ↦ let e : i ≡ slots + (i - slots) = omega arith in (i - slots, omega arith, ap (node nodes) e)
  | inl before ↦
      let right : node nodes i ≡ played nodes i = t.inner i pos before in
      let left : (k : ℕ) × (k < slots) × (node nodes (i * 2) ≡ node nodes (slots + k)) =
      key_of_slot slots nodes t more (i * 2) (omega arith) (omega arith) (omega arith) in
      let other : (k : ℕ) × (k < slots) × (node nodes (i * 2 + 1) ≡ node nodes (slots + k)) =
      key_of_slot slots nodes t more (i * 2 + 1) (omega arith) (omega arith) (omega arith) in
      elim (lesser-parts (node nodes (i * 2)) (node nodes (i * 2 + 1))).0 [
        | inl e ↦ (left.0, left.1, right ∙ e ∙ left.2)
        | inr e ↦ (other.0, other.1, right ∙ e ∙ other.2)
      ]
]

-- the first node is the least of the slots
pub first_least : (slots : ℕ) (nodes : List (Option ℕ)) → IsTournament slots nodes → 1 ≤ slots → least (drop slots nodes) ≡ node nodes 1
first_least slots nodes t pos =
    let many : length (drop slots nodes) ≡ slots = omega (arith, length-drop slots nodes, t.size) in
    let k : (k : ℕ) × (k < slots) × (node nodes 1 ≡ node nodes (slots + k)) = key_of_slot slots nodes t (slots * 2) 1 (omega arith) (omega arith) (omega arith) in
    least-is (drop slots nodes) (node nodes 1) k.0
    (λ j within. rw (get_or-drop slots nodes j None) (first-below slots nodes t (slots + j) (slots + j) (omega arith) (omega arith) (omega arith)))
    (omega (arith, k.1))
    (k.2 ∙ sym (get_or-drop slots nodes k.0 None))

-- without slots there is no key
pub none_least : (slots : ℕ) (nodes : List (Option ℕ)) → length nodes ≡ 0 → least (drop slots nodes) ≡ None
unfolding least
none_least zero [] e = refl
none_least (suc slots) [] e = refl
none_least slots (x ∷ xs) e = absurd (omega arith)

-- ---- how many slots

-- without slots the list of them is empty
pub no_slots : (slots : ℕ) (nodes : List (Option ℕ)) → IsTournament slots nodes → slots ≡ 0 → drop slots nodes ≡ []
no_slots slots nodes t e = by (drop slots nodes) (omega (arith, length-drop slots nodes, t.size)) where
  by : (xs : List (Option ℕ)) → length xs ≡ 0 → xs ≡ []
  by [] h = refl
  by (x ∷ xs) h = absurd (omega arith)

-- where the list of the slots is empty there is none
pub no_list : (slots : ℕ) (nodes : List (Option ℕ)) → IsTournament slots nodes → drop slots nodes ≡ [] → slots ≡ 0
no_list slots nodes t e = omega (arith, length-drop slots nodes, t.size, ap length e)
