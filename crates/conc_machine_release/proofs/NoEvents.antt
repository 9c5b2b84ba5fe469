-- What is kept before the first event.
use Rattle.std.proofs.Common.{◌≡◌, ℕ, zero, suc, ◌+◌, ◌<◌, ◌≤◌, Bool, true, false, ◌==◌, List, [], ◌∷◌, get_or, length, map, Option, None, Some, if◌then◌else◌, refl, sym, ◌∙◌, ap, inl, inr, arith}
use Rattle.std.specs.Prelude.{slice_get, slice_index}
use Rattle.std.specs.Bool.{then_some}
use Rattle.std.specs.List.{range_with_len}
use Rattle.std.proofs.lemmas.Bool.{and_left}
use Rattle.std.proofs.lemmas.List.FromFn.{get_or-map-range_with_len}
use Rattle.std.proofs.lemmas.Option.{get_or_from_slice_get}
use Rattle.conc_types.specs.declared.plan.Plan.{Plan}
use Rattle.conc_types.specs.declared.plan.Req.{Req}
use Rattle.conc_base_law.specs.State.{is_live, state}
use Rattle.conc_base_law.specs.Words.{Has}
use Rattle.conc_event_queue.specs.Least.{least, vacant}
use Rattle.conc_event_queue.specs.Turns.{turn, turns_of}
use Rattle.conc_event_classes.specs.Classes.{AreClasses, of_class}
use Rattle.conc_event_classes.specs.declared.classes.Classes.{Classes}
use Rattle.conc_base_law.specs.Next.{is_ready}
use Rattle.conc_base_law.proofs.FirstEvent.{facts_at-none}
use Rattle.conc_machine_release.specs.Candidates.{candidate}
use Rattle.conc_machine_release.specs.Lets.{all_classes, is_live_rival, live_rivals}
use Rattle.conc_machine_release.proofs.Lists.{length-filter_none, map_range-within, place-some}
use Rattle.conc_machine_release.proofs.Queues.{of_class-has}

-- none is ready
ready-none : (plan : Plan) (r : Req) → Has plan.requests r → is_ready plan (state plan []) r ≡ false
unfolding is_ready
ready-none plan r has = and_left _ _ (ap (λ f. f.entered) (facts_at-none plan r))

-- none is live
pub live-none : (plan : Plan) (classes : Classes) (c : ℕ) → live_rivals plan classes (state plan []) c ≡ 0
unfolding live_rivals is_live_rival
live-none plan classes c = length-filter_none (is_live_rival classes (state plan []) c) plan.requests
    (λ q has. and_left _ _ (ap (λ f. is_live f) (facts_at-none plan q)))

vacant-turns : (test : Req → Bool) (xs : List Req) → ((y : Req) → Has xs y → test y ≡ false) → vacant (length xs) ≡ turns_of test xs
unfolding vacant turns_of
vacant-turns test [] h = refl
vacant-turns test (x ∷ xs) h = ap (λ l. None ∷ l) (vacant-turns test xs (λ y has. h y (inr has))) ∙ ap (λ b. then_some b (turn x) ∷ turns_of test xs) (sym (h x (inl refl)))

-- vacant queues are those of no events
pub queues-none : (plan : Plan) (classes : Classes) → AreClasses plan classes → (n : ℕ) → n ≡ length classes.sizes
    → map (λ c. vacant (slice_index classes.sizes c)) (range_with_len 0 n)
    ≡ map (λ c. turns_of (is_ready plan (state plan [])) (of_class plan classes c)) (all_classes classes)
queues-none plan classes are n e =
    ap (λ m. map (λ c. vacant (slice_index classes.sizes c)) (range_with_len 0 m)) e
    ∙ map_range-within (λ c. vacant (slice_index classes.sizes c)) (λ c. turns_of (is_ready plan (state plan [])) (of_class plan classes c)) 0 (length classes.sizes)
    (λ c le within.
    let size : (m : ℕ) × (slice_get classes.sizes c ≡ Some m) = place-some classes.sizes c (omega (arith, within)) in
    ap vacant (get_or_from_slice_get classes.sizes c size.0 0 size.1)
    ∙ ap vacant (sym (are.sized c size.0 size.1))
    ∙ vacant-turns (is_ready plan (state plan [])) (of_class plan classes c) (λ y has. ready-none plan y (of_class-has plan classes c y has).0))

-- where no request has a key, no class has a candidate
least-vacant : (n : ℕ) → least (vacant n) ≡ None
unfolding least vacant
least-vacant zero = refl
least-vacant (suc n) = least-vacant n

vacant-map : (f : ℕ → Option ℕ) (n a : ℕ) → ((d : ℕ) → a ≤ d → d < a + n → f d ≡ None) → vacant n ≡ map f (range_with_len a n)
unfolding vacant
vacant-map f zero a none = refl
vacant-map f (suc n) a none =
    ap (λ l. None ∷ l) (vacant-map f n (a + 1) (λ d (le : a + 1 ≤ d) (lt : d < a + 1 + n). none d (omega arith) (omega arith)))
    ∙ ap (λ o. o ∷ map f (range_with_len (a + 1) n)) (sym (none a (omega arith) (omega arith)))

pub candidates-none : (classes : Classes) (n : ℕ) → n ≡ length classes.sizes → (queues : List (List (Option ℕ))) (counts : List ℕ)
    → queues ≡ map (λ c. vacant (slice_index classes.sizes c)) (range_with_len 0 n) → vacant n ≡ map (candidate queues counts) (all_classes classes)
candidates-none classes n e queues counts is =
    vacant-map (candidate queues counts) n 0 (λ c le within.
    ap (λ l. if get_or counts c 0 == 0 then least l else None)
    (ap (λ l. get_or l c []) is ∙ get_or-map-range_with_len (λ d. vacant (slice_index classes.sizes d)) 0 n c c [] (omega (arith, within)) (omega arith))
    ∙ ap (λ o. if get_or counts c 0 == 0 then o else None) (least-vacant (slice_index classes.sizes c))
    ∙ neither (get_or counts c 0 == 0) None)
    ∙ ap (λ m. map (candidate queues counts) (range_with_len 0 m)) e
  where
    neither : (b : Bool) (o : Option ℕ) → (if b then o else o) ≡ o
    neither true o = refl
    neither false o = refl

-- zeros are the counts of no events
pub zeros-none : (plan : Plan) (classes : Classes) (n : ℕ) → n ≡ length classes.sizes
    → map (λ (c : ℕ). 0) (range_with_len 0 n) ≡ map (live_rivals plan classes (state plan [])) (all_classes classes)
zeros-none plan classes n e =
    ap (λ m. map (λ (c : ℕ). 0) (range_with_len 0 m)) e
    ∙ map_range-within (λ (c : ℕ). 0) (live_rivals plan classes (state plan [])) 0 (length classes.sizes) (λ c le within. sym (live-none plan classes c))
