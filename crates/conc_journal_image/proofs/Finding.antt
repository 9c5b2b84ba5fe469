-- Step by step through records.
use Rattle.std.proofs.Common.{◌≡◌, ℕ, zero, suc, ◌+◌, ◌-◌, ◌<◌, Bool, true, false, List, [], ◌∷◌, ◌++◌, Some, None, drop, refl, sym, ap, ◌∙◌, arith, IsTrue, IsFalse}
use Rattle.std.specs.Prelude.{not}
use Rattle.std.specs.Bool.{then_some}
use Rattle.std.proofs.lemmas.List.{append-nil, append_assoc}
use Rattle.conc_types.specs.declared.event.Event.{Event}
use Rattle.conc_journal_image.specs.Image.{breaks_here, ends_here, found_from, found_in, is_closed, whole_record, with_event, with_events}

-- ---- one record

pub found_from-closed : (more number : ℕ) (bytes : List ℕ) → IsTrue (is_closed bytes) → found_from more number bytes ≡ ends_here
unfolding found_from
found_from-closed zero number bytes h = rw h refl
found_from-closed (suc more) number bytes h = rw h refl

pub found_from-full : (number : ℕ) (bytes : List ℕ) → IsFalse (is_closed bytes) → found_from 0 number bytes ≡ breaks_here number
unfolding found_from
found_from-full number bytes h = rw h refl

pub found_from-taken : (more number : ℕ) (bytes : List ℕ) (e : Event) → IsFalse (is_closed bytes) → whole_record bytes ≡ Some e
    → found_from (suc more) number bytes ≡ with_event e (found_from more (number + 1) (drop 32 bytes))
unfolding found_from
found_from-taken more number bytes e open_gate whole = rw open_gate (rw whole refl)

pub found_from-broken : (more number : ℕ) (bytes : List ℕ) → IsFalse (is_closed bytes) → whole_record bytes ≡ None → found_from (suc more) number bytes ≡ breaks_here number
unfolding found_from
found_from-broken more number bytes open_gate whole = rw open_gate (rw whole refl)

-- ---- a loop over records

-- the number of the first record that is too many
abbrev pub too_many : ℕ
too_many = 1048577

pub all-found : (image : List ℕ) → with_events [] (found_from (too_many - 1) 1 (drop 64 image)) ≡ found_in image
unfolding found_in
all-found image = refl

pub loop-closed : (events : List Event) (more number : ℕ) (bytes : List ℕ) → IsTrue (is_closed bytes) → with_events events (found_from more number bytes) ≡ record { events = events; broken = None }
loop-closed events more number bytes h =
    ap (λ found. with_events events found) (found_from-closed more number bytes h)
    ∙ ap (λ es. record { events = es; broken = None }) (append-nil events)

pub loop-broken : (events : List Event) (number : ℕ) (bytes : List ℕ) → number < too_many → IsFalse (is_closed bytes) → whole_record bytes ≡ None
    → with_events events (found_from (too_many - number) number bytes) ≡ record { events = events; broken = Some number }
loop-broken events number bytes below open_gate whole =
    let left : too_many - number ≡ suc (too_many - (number + 1)) = omega arith in
    ap (λ more. with_events events (found_from more number bytes)) left
    ∙ ap (λ found. with_events events found) (found_from-broken (too_many - (number + 1)) number bytes open_gate whole)
    ∙ ap (λ es. record { events = es; broken = Some number }) (append-nil events)

pub loop-taken : (events : List Event) (number : ℕ) (bytes : List ℕ) (e : Event) → number < too_many → IsFalse (is_closed bytes) → whole_record bytes ≡ Some e
    → with_events events (found_from (too_many - number) number bytes)
    ≡ with_events (events ++ e ∷ []) (found_from (too_many - (number + 1)) (number + 1) (drop 32 bytes))
loop-taken events number bytes e below open_gate whole =
    let left : too_many - number ≡ suc (too_many - (number + 1)) = omega arith in
    let rest = found_from (too_many - (number + 1)) (number + 1) (drop 32 bytes) in
    ap (λ more. with_events events (found_from more number bytes)) left
    ∙ ap (λ found. with_events events found) (found_from-taken (too_many - (number + 1)) number bytes e open_gate whole)
    ∙ ap (λ es. record { events = es; broken = rest.broken }) (sym (append_assoc events (e ∷ []) rest.events))

loop-full : (events : List Event) (bytes : List ℕ) → IsFalse (is_closed bytes) → with_events events (found_from 0 too_many bytes) ≡ record { events = events; broken = Some too_many }
loop-full events bytes open_gate =
    ap (λ found. with_events events found) (found_from-full too_many bytes open_gate)
    ∙ ap (λ es. record { events = es; broken = Some too_many }) (append-nil events)

pub loop-ended : (events : List Event) (number : ℕ) (bytes : List ℕ) → number ≡ too_many
    → with_events events (found_from (too_many - number) number bytes) ≡ record { events = events; broken = then_some (not (is_closed bytes)) too_many }
loop-ended events number bytes end =
    ap (λ n. with_events events (found_from (too_many - n) n bytes)) end ∙ by (is_closed bytes) refl where
      by : (b : Bool) → is_closed bytes ≡ b → with_events events (found_from 0 too_many bytes) ≡ record { events = events; broken = then_some (not b) too_many }
      by true h = loop-closed events 0 too_many bytes h
      by false h = loop-full events bytes h
