-- A history of a run without workers, one event longer.
use Rattle.std.proofs.Common.{◌≡◌, ℕ, zero, suc, ◌+◌, ◌<◌, true, false, List, [], ◌∷◌, ◌++◌, length, reverse, Some, refl, sym, ◌∙◌, ap, inl, inr, arith}
use Rattle.std.specs.Prelude.{slice_get}
use Rattle.std.proofs.lemmas.Bool.{and_from, cases_lt, cond-false}
use Rattle.std.proofs.lemmas.List.{length-append, take_at, take-append-le}
use Rattle.conc_types.specs.declared.event.Event.{Event}
use Rattle.conc_types.specs.declared.plan.Plan.{Plan}
use Rattle.conc_types.specs.declared.script.Reading.{Reading}
use Rattle.conc_base_law.specs.Alone.{Follows, next_alone}
use Rattle.conc_base_law.specs.Kinds.{is_resume}
use Rattle.conc_base_law.specs.Law.{is_lawful, may_follow}

-- an element of the front is one of the whole
slice_get-append_left : (xs ys : List Event) (i : ℕ) → i < length xs → slice_get (xs ++ ys) i ≡ slice_get xs i
slice_get-append_left [] ys i h = absurd (omega arith)
slice_get-append_left (x ∷ xs) ys zero h = refl
slice_get-append_left (x ∷ xs) ys (suc i) h = slice_get-append_left xs ys i (omega arith)

-- the last element
slice_get-append_at : (xs : List Event) (e : Event) → slice_get (xs ++ e ∷ []) (length xs) ≡ Some e
slice_get-append_at [] e = refl
slice_get-append_at (x ∷ xs) e = slice_get-append_at xs e

-- the one event that comes next may be added
pub Follows-push : (plan : Plan) (readings : List Reading) (n : ℕ) (history : List Event) (e : Event)
    → Follows plan readings n history → next_alone plan readings (reverse history) ≡ Some e → Follows plan readings n (history ++ e ∷ [])
Follows-push plan readings n history e before next = λ i from below. elim (cases_lt i (length history)) [
  | inl lt ↦
      slice_get-append_left history (e ∷ []) i lt ∙ before i from lt
      ∙ ap (λ l. next_alone plan readings (reverse l)) (sym (take-append-le i history (e ∷ []) (omega arith)))
  | inr ge ↦
      let long : length (history ++ e ∷ []) ≡ length history + 1 = length-append history (e ∷ []) in
      let last : i ≡ length history = omega arith in
      ap (slice_get (history ++ e ∷ [])) last ∙ slice_get-append_at history e ∙ sym next
      ∙ ap (λ l. next_alone plan readings (reverse l)) (sym (take_at history (e ∷ []) i (sym last)))
]

-- an event that may follow and is no resume leaves a history lawful
pub is_lawful-more : (plan : Plan) (readings : List Reading) (past : List Event) (e : Event) → is_resume e ≡ false
    → is_lawful plan readings past ≡ true → may_follow plan (Some readings) past e ≡ true → is_lawful plan readings (e ∷ past) ≡ true
unfolding is_lawful
is_lawful-more plan readings past e n l m = and_from _ _ (cond-false (is_resume e) _ _ n ∙ l) m
