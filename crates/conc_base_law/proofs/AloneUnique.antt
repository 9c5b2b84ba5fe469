-- From one beginning a run without workers makes one history.
use Rattle.std.proofs.Common.{◌≡◌, ℕ, zero, suc, ◌+◌, ◌<◌, ◌≤◌, Bool, true, false, not, ◌&&◌, List, [], ◌∷◌, ◌++◌, length, reverse, take, Option, None, Some, is_none, refl, sym, ◌∙◌, ap, inl, inr, arith}
use Rattle.std.specs.Prelude.{slice_get}
use Rattle.std.specs.List.{find, list_any}
use Rattle.std.proofs.lemmas.Bool.{and_left, and_parts, cases_order, not-true, or_parts}
use Rattle.std.proofs.lemmas.List.{take_all}
use Rattle.conc_types.specs.declared.event.Event.{Event}
use Rattle.conc_types.specs.declared.facts.State.{State}
use Rattle.conc_types.specs.declared.plan.Plan.{Plan}
use Rattle.conc_types.specs.declared.script.Reading.{Reading}
use Rattle.conc_base_law.specs.Alone.{Alone, choice, first_end, first_start, Follows, next_alone, next_tick, opening}
use Rattle.conc_base_law.specs.Law.{Finished}
use Rattle.conc_base_law.specs.Next.{forced, is_at_rest, may_start_somewhere, runs_somewhere}
use Rattle.conc_base_law.specs.Plans.{precedes}
use Rattle.conc_base_law.specs.Readings.{next_reading}
use Rattle.conc_base_law.specs.State.{state}
use Rattle.conc_base_law.proofs.AloneHistory.{length-alone, take-opening}
use Rattle.conc_base_law.proofs.Positions.{slice_get-some, take-suc_at}

-- ---- where a history is finished nothing comes next

-- an option that passes the test for none is none
none_from_is_none : {T : Type 0} (o : Option T) → is_none o ≡ true → o ≡ None
none_from_is_none None h = refl
none_from_is_none (Some x) h = cc

-- a search for less than what no element passes finds nothing
find-none : {T : Type 0} (test less : T → Bool) (xs : List T) → list_any test xs ≡ false → ((x : T) → test x ≡ false → less x ≡ false) → find less xs ≡ None
find-none test less [] h k = refl
find-none test less (x ∷ xs) h k =
    let p : (test x ≡ false) × (list_any test xs ≡ false) = or_parts (test x) (list_any test xs) h in
    let miss : less x ≡ false = k x p.0 in
    rw miss (find-none test less xs p.1 k)

-- where nothing runs nothing ends
first_end-none : (plan : Plan) (s : State) → list_any (runs_somewhere s) plan.requests ≡ false → first_end plan s ≡ None
unfolding first_end
first_end-none plan s h = rw (find-none (runs_somewhere s) (runs_somewhere s) plan.requests h (λ r k. k))

-- where nothing may start nothing starts
first_start-none : (plan : Plan) (s : State) → list_any (may_start_somewhere plan s) plan.requests ≡ false → first_start plan s ≡ None
unfolding first_start
first_start-none plan s h =
    rw (find-none (may_start_somewhere plan s) (λ x. may_start_somewhere plan s x && not (list_any (λ y. may_start_somewhere plan s y && precedes y x) plan.requests)) plan.requests h (λ r k. and_left _ _ k))

-- without a reading there is no tick
next_tick-none : (plan : Plan) (s : State) (next : Option Reading) → next ≡ None → next_tick plan s next ≡ None
unfolding next_tick
next_tick-none plan s next h = rw h

-- at rest and without a reading nothing is chosen
choice-none : (plan : Plan) (s : State) (next : Option Reading) → is_at_rest plan s ≡ true → next ≡ None → choice plan s next ≡ None
unfolding choice is_at_rest
choice-none plan s next rest none =
    let p : (is_none (forced plan s) ≡ true) × ((not (list_any (runs_somewhere s) plan.requests) && not (list_any (may_start_somewhere plan s) plan.requests)) ≡ true) = and_parts _ _ rest in
    let q : (not (list_any (runs_somewhere s) plan.requests) ≡ true) × (not (list_any (may_start_somewhere plan s) plan.requests) ≡ true) = and_parts _ _ p.1 in
    let a : forced plan s ≡ None = none_from_is_none (forced plan s) p.0 in
    let b : first_end plan s ≡ None = first_end-none plan s (not-true _ q.0) in
    let c : first_start plan s ≡ None = first_start-none plan s (not-true _ q.1) in
    let d : next_tick plan s next ≡ None = next_tick-none plan s next none in
    rw (a, b, c, d)

-- where a history is finished nothing comes next
pub next_alone-finished : (plan : Plan) (readings : List Reading) (history : List Event) → Finished plan readings history → next_alone plan readings (reverse history) ≡ None
unfolding next_alone
next_alone-finished plan readings history h =
    choice-none plan (state plan (reverse history)) (next_reading readings (reverse history)) h.0 (none_from_is_none (next_reading readings (reverse history)) h.1)

-- ---- two that begin alike are alike

-- two that begin alike, and go on by what comes next, agree up to each position of both
agree_to : (plan : Plan) (readings : List Reading) (n : ℕ) (one another : List Event) → take n one ≡ take n another → Follows plan readings n one → Follows plan readings n another
    → (k : ℕ) → n + k ≤ length one → n + k ≤ length another → take (n + k) one ≡ take (n + k) another
agree_to plan readings n one another start f g zero h k =
    let same : n + zero ≡ n = omega arith in ap (λ i. take i one) same ∙ start ∙ ap (λ i. take i another) (sym same)
agree_to plan readings n one another start f g (suc i) h k =
    let before : take (n + i) one ≡ take (n + i) another = agree_to plan readings n one another start f g i (omega arith) (omega arith) in
    let p : (e : Event) × (slice_get one (n + i) ≡ Some e) = slice_get-some one (n + i) (omega arith) in
    let q : slice_get another (n + i) ≡ Some p.0 =
    g (n + i) (omega arith) (omega arith) ∙ ap (λ l. next_alone plan readings (reverse l)) (sym before) ∙ sym (f (n + i) (omega arith) (omega arith)) ∙ p.1 in
    let same : n + suc i ≡ suc (n + i) = omega arith in
    ap (λ j. take j one) same ∙ take-suc_at one (n + i) p.0 p.1 ∙ ap (λ l. l ++ p.0 ∷ []) before
    ∙ sym (take-suc_at another (n + i) p.0 q) ∙ ap (λ j. take j another) (sym same)

-- none is longer than another that is finished
not_longer : (plan : Plan) (readings : List Reading) (n : ℕ) (one another : List Event) → n ≤ length one → take (length one) another ≡ one → Finished plan readings one → Follows plan readings n another
    → length one < length another → ⊥
not_longer plan readings n one another from same finished g h =
    let p : (e : Event) × (slice_get another (length one) ≡ Some e) = slice_get-some another (length one) h in
    let none : next_alone plan readings (reverse (take (length one) another)) ≡ None =
    ap (λ l. next_alone plan readings (reverse l)) same ∙ next_alone-finished plan readings one finished in
    let some : slice_get another (length one) ≡ None = g (length one) from h ∙ none in
    absurd (cc (p.1, some))

-- from one beginning a run without workers makes one history
pub alone_unique : (plan : Plan) (readings : List Reading) (found one another : List Event) → Alone plan readings found one → Alone plan readings found another → one ≡ another
alone_unique plan readings found one another f g =
    let n : ℕ = length (opening found) in
    let a : length one ≡ n + length f.begins.0 = length-alone plan readings found one f in
    let b : length another ≡ n + length g.begins.0 = length-alone plan readings found another g in
    let start : take n one ≡ take n another = take-opening plan readings found one f ∙ sym (take-opening plan readings found another g) in
    elim (cases_order (length one) (length another)) [
      | inl same ↦
          sym (take_all (n + length f.begins.0) one (omega arith))
          ∙ agree_to plan readings n one another start f.each g.each (length f.begins.0) (omega arith) (omega arith)
          ∙ take_all (n + length f.begins.0) another (omega arith)
      | inr apart ↦ elim apart [
        | inl shorter ↦
            let alike : take (length one) another ≡ one =
            ap (λ i. take i another) a ∙ sym (agree_to plan readings n one another start f.each g.each (length f.begins.0) (omega arith) (omega arith))
            ∙ take_all (n + length f.begins.0) one (omega arith) in
            absurd (not_longer plan readings n one another (omega arith) alike f.finished g.each shorter)
        | inr longer ↦
            let alike : take (length another) one ≡ another =
            ap (λ i. take i one) b ∙ agree_to plan readings n one another start f.each g.each (length g.begins.0) (omega arith) (omega arith)
            ∙ take_all (n + length g.begins.0) another (omega arith) in
            absurd (not_longer plan readings n another one (omega arith) alike g.finished f.each longer)
      ]
    ]
