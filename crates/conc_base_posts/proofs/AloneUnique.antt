-- From one beginning a run without workers makes one history, where programs post.
use Rattle.std.proofs.Common.{◌≡◌, ℕ, zero, suc, ◌+◌, ◌<◌, ◌≤◌, true, false, not, List, [], ◌∷◌, ◌++◌, length, reverse, take, Option, None, Some, refl, sym, ◌∙◌, ap, inl, inr, arith}
use Rattle.std.specs.Prelude.{is_none, slice_get}
use Rattle.std.specs.List.{find, list_any}
use Rattle.std.specs.Option.{option_and_then, option_or}
use Rattle.std.proofs.lemmas.Bool.{and_parts, both_ways, cases_order, not-true}
use Rattle.std.proofs.lemmas.List.{take_all}
use Rattle.conc_types.specs.declared.event.Event.{Event}
use Rattle.conc_types.specs.declared.facts.State.{State}
use Rattle.conc_types.specs.declared.plan.Plan.{Plan}
use Rattle.conc_types.specs.declared.plan.Req.{Req}
use Rattle.conc_types.specs.declared.script.Reading.{Reading}
use Rattle.conc_base_law.specs.Alone as law
use Rattle.conc_base_law.specs.Alone.{first_start, next_tick, opening}
use Rattle.conc_base_law.specs.Law.{Finished}
use Rattle.conc_base_law.specs.Next.{forced, is_at_rest, may_start_somewhere, runs_somewhere}
use Rattle.conc_base_law.specs.Readings.{next_reading}
use Rattle.conc_base_law.specs.State.{state}
use Rattle.conc_base_law.proofs.AloneUnique as law_proofs
use Rattle.conc_base_law.proofs.FirstBy.{any-some, find-some}
use Rattle.conc_base_law.proofs.Positions.{slice_get-some, take-suc_at}
use Rattle.conc_base_posts.specs.Alone.{Alone, choice, end_of, first_end, Follows, next_alone}
use Rattle.conc_base_posts.proofs.AloneHistory.{length-alone, take-opening}
use Rattle.conc_base_posts.proofs.Finishes.{or-none}

-- ---- where a history is finished nothing comes next

-- at rest nothing ends
rest-no_end : (plan : Plan) (past : List Event) (s : State) → is_at_rest plan s ≡ true → first_end plan past s ≡ None
unfolding first_end is_at_rest
rest-no_end plan past s rest = by (find (runs_somewhere s) plan.requests) refl where
  none : list_any (runs_somewhere s) plan.requests ≡ false
  none = not-true _ (and_parts _ (not (list_any (may_start_somewhere plan s) plan.requests)) (and_parts (is_none (forced plan s)) _ rest).1).0

  by : (o : Option Req) → find (runs_somewhere s) plan.requests ≡ o → option_and_then (end_of plan past s) o ≡ None
  by None is = refl
  by (Some r) is =
      let f = find-some (runs_somewhere s) plan.requests r is in
      absurd (both_ways _ none (any-some (runs_somewhere s) plan.requests r f.1 f.0))

-- where a history is finished nothing comes next
next_alone-finished : (plan : Plan) (readings : List Reading) (history : List Event) → Finished plan readings history → next_alone plan readings (reverse history) ≡ None
unfolding next_alone choice law.next_alone law.choice
next_alone-finished plan readings history h =
    let past : List Event = reverse history in
    let s : State = state plan past in
    let later : Option Event = option_or (first_start plan s) (next_tick plan s (next_reading readings past)) in
    let a : (forced plan s ≡ None) × (option_or (law.first_end plan s) later ≡ None) = or-none _ _ (law_proofs.next_alone-finished plan readings history h) in
    let b : (law.first_end plan s ≡ None) × (later ≡ None) = or-none _ _ a.1 in
    rw (a.0, rest-no_end plan past s h.0) b.1

-- ---- two that begin alike are alike

-- two that begin alike, and go on by what comes next, agree up to each position of both
agree_to : (plan : Plan) (readings : List Reading) (n : ℕ) (one another : List Event) → take n one ≡ take n another → Follows plan readings n one → Follows plan readings n another
    → (k : ℕ) → n + k ≤ length one → n + k ≤ length another → take (n + k) one ≡ take (n + k) another
agree_to plan readings n one another start f g zero h k =
    let same : n + zero ≡ n = omega arith in ap (λ i. take i one) same ∙ start ∙ ap (λ i. take i another) (sym same)
agree_to plan readings n one another start f g (suc i) h k =
    let before : take (n + i) one ≡ take (n + i) another = agree_to plan readings n one another start f g i (omega arith) (omega arith) in
    let p : (e : Event) × (slice_get one (n + i) ≡ Some e) = slice_get-some one (n + i) (omega arith) in
    let q : slice_get another (n + i) ≡ Some p.0 =
    g (n + i) (omega arith) (omega arith) ∙ ap (λ l. next_alone plan readings (reverse l)) (sym before) ∙ sym (f (n + i) (omega arith) (omega arith)) ∙ p.1 in
    let same : n + suc i ≡ suc (n + i) = omega arith in
    ap (λ j. take j one) same ∙ take-suc_at one (n + i) p.0 p.1 ∙ ap (λ l. l ++ p.0 ∷ []) before
    ∙ sym (take-suc_at another (n + i) p.0 q) ∙ ap (λ j. take j another) (sym same)

-- none is longer than another that is finished
not_longer : (plan : Plan) (readings : List Reading) (n : ℕ) (one another : List Event) → n ≤ length one → take (length one) another ≡ one → Finished plan readings one → Follows plan readings n another
    → length one < length another → ⊥
not_longer plan readings n one another from same finished g h =
    let p : (e : Event) × (slice_get another (length one) ≡ Some e) = slice_get-some another (length one) h in
    let none : next_alone plan readings (reverse (take (length one) another)) ≡ None =
    ap (λ l. next_alone plan readings (reverse l)) same ∙ next_alone-finished plan readings one finished in
    let some : slice_get another (length one) ≡ None = g (length one) from h ∙ none in
    absurd (cc (p.1, some))

-- from one beginning a run without workers makes one history
pub alone_unique : (plan : Plan) (readings : List Reading) (found one another : List Event) → Alone plan readings found one → Alone plan readings found another → one ≡ another
alone_unique plan readings found one another f g =
    let n : ℕ = length (opening found) in
    let a : length one ≡ n + length f.begins.0 = length-alone plan readings found one f in
    let b : length another ≡ n + length g.begins.0 = length-alone plan readings found another g in
    let start : take n one ≡ take n another = take-opening plan readings found one f ∙ sym (take-opening plan readings found another g) in
    elim (cases_order (length one) (length another)) [
      | inl same ↦
          sym (take_all (n + length f.begins.0) one (omega arith))
          ∙ agree_to plan readings n one another start f.each g.each (length f.begins.0) (omega arith) (omega arith)
          ∙ take_all (n + length f.begins.0) another (omega arith)
      | inr apart ↦ elim apart [
        | inl shorter ↦
            let alike : take (length one) another ≡ one =
            ap (λ i. take i another) a ∙ sym (agree_to plan readings n one another start f.each g.each (length f.begins.0) (omega arith) (omega arith))
            ∙ take_all (n + length f.begins.0) one (omega arith) in
            absurd (not_longer plan readings n one another (omega arith) alike f.finished g.each shorter)
        | inr longer ↦
            let alike : take (length another) one ≡ another =
            ap (λ i. take i one) b ∙ agree_to plan readings n one another start f.each g.each (length g.begins.0) (omega arith) (omega arith)
            ∙ take_all (n + length g.begins.0) another (omega arith) in
            absurd (not_longer plan readings n another one (omega arith) alike g.finished f.each longer)
      ]
    ]
