-- From each lawful history a run without workers goes on to an end, where programs post.
use Rattle.std.proofs.Common.{◌≡◌, ℕ, zero, suc, ◌+◌, ◌<◌, true, List, [], ◌∷◌, ◌++◌, length, reverse, Option, None, Some, refl, sym, ◌∙◌, ap, inl, inr, ◌⊎◌, arith}
use Rattle.std.specs.Prelude.{slice_get}
use Rattle.std.proofs.lemmas.List.{append_assoc, append-nil, length-append, take_at, take-append-le}
use Rattle.conc_types.specs.declared.event.Event.{Event}
use Rattle.conc_types.specs.declared.plan.Plan.{Plan}
use Rattle.conc_types.specs.declared.script.Reading.{Reading}
use Rattle.conc_types.specs.Scripts.{are_in_order}
use Rattle.conc_base_law.specs.Alone.{opening}
use Rattle.conc_base_law.specs.Law.{is_lawful, is_lawful_so_far}
use Rattle.conc_base_law.specs.Remaining.{remaining}
use Rattle.conc_base_law.proofs.AloneHistory.{opening-lawful}
use Rattle.conc_base_law.proofs.LawfulSoFar.{lawful_is_lawful_so_far}
use Rattle.conc_base_law.proofs.Positions.{reverse-push}
use Rattle.conc_base_law.proofs.Remaining.{remaining_less}
use Rattle.conc_base_posts.specs.Alone.{Alone, Follows, next_alone}
use Rattle.conc_base_posts.proofs.AloneHistory.{next_lawful}
use Rattle.conc_base_posts.proofs.AloneLawful.{next_alone-follows}
use Rattle.conc_base_posts.proofs.Finishes.{next_alone-none}

-- ---- one element more

-- what stands in front of a last element
get-front : {T : Type 0} (xs : List T) (x : T) (i : ℕ) → i < length xs → slice_get (xs ++ x ∷ []) i ≡ slice_get xs i
get-front [] x i h = absurd (omega arith)
get-front (y ∷ ys) x zero h = refl
get-front (y ∷ ys) x (suc i) h = get-front ys x i (omega arith)

-- the last element
get-last : {T : Type 0} (xs : List T) (x : T) (i : ℕ) → i ≡ length xs → slice_get (xs ++ x ∷ []) i ≡ Some x
get-last [] x zero h = refl
get-last [] x (suc i) h = absurd (omega arith)
get-last (y ∷ ys) x zero h = absurd (omega arith)
get-last (y ∷ ys) x (suc i) h = get-last ys x i (omega arith)

-- a position of the longer list is one of the shorter, or the last
in-front_or-last : (i n : ℕ) → i < n + 1 → (i < n) ⊎ (i ≡ n)
in-front_or-last i n h = grind arith

-- ---- one event more

module _ (plan : Plan) (readings : List Reading) (n : ℕ) (history : List Event) (e : Event) where
  -- what goes on by what comes next does so with the event that comes next
  follows-more : Follows plan readings n history → next_alone plan readings (reverse history) ≡ Some e → Follows plan readings n (history ++ e ∷ [])
  follows-more each next i from to =
      let long : length (history ++ e ∷ []) ≡ length history + 1 = length-append history (e ∷ []) in
      elim (in-front_or-last i (length history) (omega (arith, long, to))) [
        | inl front ↦
            get-front history e i front ∙ each i from front
            ∙ ap (λ l. next_alone plan readings (reverse l)) (sym (take-append-le i history (e ∷ []) (omega (arith, front))))
        | inr last ↦
            get-last history e i last ∙ sym next
            ∙ ap (λ l. next_alone plan readings (reverse l)) (sym (take_at history (e ∷ []) i (sym last)))
      ]

-- ---- until nothing comes next

-- a run without workers, as far as it has come
record SoFar (plan : Plan) (readings : List Reading) (found history : List Event) : Type 0 where
  begins : (rest : List Event) × (history ≡ opening found ++ rest)
  each : Follows plan readings (length (opening found)) history
  lawful : is_lawful plan readings (reverse history) ≡ true

-- it goes on with the event that comes next
so-far-more : (plan : Plan) (readings : List Reading) (found history : List Event) (e : Event) → SoFar plan readings found history
    → next_alone plan readings (reverse history) ≡ Some e → SoFar plan readings found (history ++ e ∷ [])
so-far-more plan readings found history e h next = record {
  begins = (h.begins.0 ++ e ∷ [], ap (λ l. l ++ e ∷ []) h.begins.1 ∙ append_assoc (opening found) h.begins.0 (e ∷ []));
  each = follows-more plan readings (length (opening found)) history e h.each next;
  lawful = ap (is_lawful plan readings) (reverse-push history e) ∙ next_lawful plan readings (reverse history) e h.lawful next;
}

-- the option has a value or none
cases_Option : {T : Type 0} (o : Option T) → (o ≡ None) ⊎ ((x : T) × (o ≡ Some x))
cases_Option None = inl refl
cases_Option (Some x) = inr (x, refl)

-- it ends after at most this many more events
goes-on : (plan : Plan) (readings : List Reading) (found : List Event) → are_in_order readings ≡ true → (left : ℕ) (history : List Event) → SoFar plan readings found history
    → remaining plan readings (reverse history) < left → (whole : List Event) × Alone plan readings found whole
goes-on plan readings found order zero history h few = absurd (omega (arith, few))
goes-on plan readings found order (suc left) history h few =
    let so_far : is_lawful_so_far plan (reverse history) ≡ true = lawful_is_lawful_so_far plan readings (reverse history) order h.lawful in
    elim (cases_Option (next_alone plan readings (reverse history))) [
      | inl none ↦ (history, record { begins = h.begins; each = h.each; finished = next_alone-none plan readings history so_far none })
      | inr some ↦
          let p = next_alone-follows plan readings (reverse history) some.0 some.1 in
          let less = remaining_less plan readings (reverse history) some.0 so_far p.1 p.0 in
          let same : remaining plan readings (reverse (history ++ some.0 ∷ [])) ≡ remaining plan readings (some.0 ∷ reverse history) = ap (remaining plan readings) (reverse-push history some.0) in
          goes-on plan readings found order left (history ++ some.0 ∷ []) (so-far-more plan readings found history some.0 h some.1) (omega (arith, few, less, same))
    ]

-- from a history that is lawful so far a run without workers goes on to an end
pub alone_exists : (plan : Plan) (readings : List Reading) (found : List Event) → are_in_order readings ≡ true → is_lawful_so_far plan (reverse found) ≡ true
    → (history : List Event) × Alone plan readings found history
alone_exists plan readings found order h =
    let start : SoFar plan readings found (opening found) = record {
      begins = ([], sym (append-nil (opening found)));
      each = λ i from to. absurd (omega (arith, from, to));
      lawful = opening-lawful plan readings found h;
    } in
    goes-on plan readings found order (suc (remaining plan readings (reverse (opening found)))) (opening found) start (omega arith)
