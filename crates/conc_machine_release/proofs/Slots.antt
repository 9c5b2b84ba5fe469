-- Each request has a slot in the queue of its class, and each class that excludes another one has a count.
use Rattle.std.proofs.Common.{◌≡◌, ℕ, zero, suc, ◌<◌, Bool, true, All, List, [], ◌∷◌, length, get_or, map, Option, Some, refl, sym, ◌∙◌, ap, inl, inr, arith}
use Rattle.std.specs.Prelude.{slice_get}
use Rattle.std.specs.Bool.{then_some}
use Rattle.std.specs.Option.{option_map}
use Rattle.std.proofs.lemmas.Bool.{and_parts, cases_lt, ltb-true}
use Rattle.std.proofs.lemmas.List.{length-map, length-set}
use Rattle.std.proofs.lemmas.List.FromFn.{length-map-range_with_len}
use Rattle.std.proofs.lemmas.Option.{slice_get-map, slice_get_past, slice_get_within}
use Rattle.conc_types.specs.declared.facts.State.{State}
use Rattle.conc_types.specs.declared.plan.Plan.{Plan}
use Rattle.conc_types.specs.declared.plan.Req.{Req}
use Rattle.conc_base_law.specs.Words.{Has}
use Rattle.conc_event_queue.specs.Turns.{turn, turns_of}
use Rattle.conc_event_classes.specs.Classes.{are_rising, AreClasses, class_at, of_class, rivals_at, slot_at}
use Rattle.conc_event_classes.specs.declared.classes.Classes.{Classes}
use Rattle.conc_base_law.specs.Next.{is_ready}
use Rattle.conc_machine_release.specs.Candidates.{candidate}
use Rattle.conc_machine_release.specs.Lets.{AreLets, live_rivals}
use Rattle.conc_machine_release.specs.Refresh.{HaveSlots, put_in, queues_of}
use Rattle.conc_machine_release.specs.declared.lets.Lets.{Lets}
use Rattle.conc_machine_release.proofs.Lists.{map_range-get, place-some, same_list}

-- ---- slots

-- the queue at a place, by the list of the lengths
queue-there : (queues : List (List (Option ℕ))) (c n : ℕ) → slice_get (map length queues) c ≡ Some n → (c < length queues) × (length (get_or queues c []) ≡ n)
queue-there [] c n h = cc
queue-there (q ∷ queues) zero n h = let same : length q ≡ n = cc in (omega arith, same)
queue-there (q ∷ queues) (suc c) n h =
    let later : (c < length queues) × (length (get_or queues c []) ≡ n) = queue-there queues c n h in
    (omega (arith, later.0), later.1)

-- the class of a request has a queue, in which the request has a slot
pub slot-there : (plan : Plan) (classes : Classes) → AreClasses plan classes → (queues : List (List (Option ℕ))) → HaveSlots classes queues → (r : Req) → Has plan.requests r
    → (class_at classes r < length queues) × (slot_at classes r < length (get_or queues (class_at classes r) []))
slot-there plan classes are queues have r has =
    let size : (n : ℕ) × (slice_get classes.sizes (class_at classes r) ≡ Some n) = place-some classes.sizes (class_at classes r) (are.known r has) in
    let own : (class_at classes r < length queues) × (length (get_or queues (class_at classes r) []) ≡ size.0) =
    queue-there queues (class_at classes r) size.0 (ap (λ l. slice_get l (class_at classes r)) have ∙ size.1) in
    let all : length (of_class plan classes (class_at classes r)) ≡ size.0 = are.sized (class_at classes r) size.0 size.1 in
    let inside : slot_at classes r < length (of_class plan classes (class_at classes r)) =
    slice_get_within (of_class plan classes (class_at classes r)) (slot_at classes r) r (are.located r has) in
    (own.0, omega (arith, own.1, all, inside))

-- a key that is put in changes no length
lengths-put_in : (queues : List (List (Option ℕ))) (c slot : ℕ) (key : Option ℕ) → map length (put_in queues c slot key) ≡ map length queues
lengths-put_in [] c slot key = refl
lengths-put_in (q ∷ queues) zero slot key = ap (λ n. n ∷ map length queues) (length-set q slot key)
lengths-put_in (q ∷ queues) (suc c) slot key = ap (λ l. length q ∷ l) (lengths-put_in queues c slot key)

pub HaveSlots-put_in : (classes : Classes) (queues : List (List (Option ℕ))) (c slot : ℕ) (key : Option ℕ) → HaveSlots classes queues → HaveSlots classes (put_in queues c slot key)
HaveSlots-put_in classes queues c slot key have = lengths-put_in queues c slot key ∙ have

-- the queues of the requests that pass have a slot for each request
HaveSlots-queues_of : (plan : Plan) (classes : Classes) → AreClasses plan classes → (test : Req → Bool) → HaveSlots classes (queues_of plan classes test)
unfolding queues_of turns_of
HaveSlots-queues_of plan classes are test = same_list _ _ (λ k. elim (cases_lt k (length classes.sizes)) [
  | inr past ↦
      slice_get_past (map length (queues_of plan classes test)) k
      (omega (arith, past, length-map (queues_of plan classes test) (length {A = Option ℕ}), length-map-range_with_len (λ c. turns_of test (of_class plan classes c)) 0 (length classes.sizes)))
      ∙ sym (slice_get_past classes.sizes k past)
  | inl inside ↦
      let size : (n : ℕ) × (slice_get classes.sizes k ≡ Some n) = place-some classes.sizes k inside in
      slice_get-map length (queues_of plan classes test) k
      ∙ ap (λ o. option_map length o) (map_range-get (λ c. turns_of test (of_class plan classes c)) 0 (length classes.sizes) k k (omega arith) inside)
      ∙ ap (λ n. Some n) (length-map (of_class plan classes k) (λ r. then_some (test r) (turn r)) ∙ are.sized k size.0 size.1)
      ∙ sym size.1
])

-- so have those that are kept
pub HaveSlots-kept : (plan : Plan) (classes : Classes) (s : State) (lets : Lets) → AreClasses plan classes → AreLets plan classes s lets → HaveSlots classes lets.ready.items
unfolding queues_of
HaveSlots-kept plan classes s lets classes-are are = ap (map length) are.ready ∙ HaveSlots-queues_of plan classes classes-are (is_ready plan s)

-- ---- counts

-- there is a count for each class
pub length-kept : (plan : Plan) (classes : Classes) (s : State) (lets : Lets) → AreLets plan classes s lets → length lets.rivals ≡ length classes.sizes
length-kept plan classes s lets are = ap length are.rivals ∙ length-map-range_with_len (live_rivals plan classes s) 0 (length classes.sizes)

-- and a candidate
pub length-candidates : (plan : Plan) (classes : Classes) (s : State) (lets : Lets) → AreLets plan classes s lets → length lets.candidates ≡ length classes.sizes
length-candidates plan classes s lets are = ap length are.candidates ∙ length-map-range_with_len (candidate lets.ready.items lets.rivals) 0 (length classes.sizes)

rising-below : (most : ℕ) (xs : List ℕ) → are_rising most xs ≡ true → All (λ x. x < most) xs
rising-below most [] h k d within = absurd (omega (arith, within))
rising-below most (x ∷ xs) h zero d within = ltb-true x most (and_parts _ _ h).0
rising-below most (x ∷ xs) h (suc k) d within = rising-below most xs (and_parts _ _ (and_parts _ _ h).1).1 k d (omega (arith, within))

-- each class that excludes another one is a class
pub rivals-known : (plan : Plan) (classes : Classes) → AreClasses plan classes → (c : ℕ) → All (λ x. x < length classes.sizes) (rivals_at classes c)
rivals-known plan classes are c = rising-below (length classes.sizes) (rivals_at classes c) (are.rising c)

-- and there is a count for it
pub rivals-counted : (plan : Plan) (classes : Classes) (s : State) (lets : Lets) → AreClasses plan classes → AreLets plan classes s lets → (c : ℕ)
    → All (λ x. x < length lets.rivals) (rivals_at classes c)
rivals-counted plan classes s lets classes-are are c k d within =
    omega (arith, rivals-known plan classes classes-are c k d within, length-kept plan classes s lets are)
