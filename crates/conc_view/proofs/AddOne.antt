-- The step that adds an event keeps the rule of the book.
use Rattle.std.proofs.Common.{◌≡◌, ℕ, ◌+◌, ◌<◌, ◌==◌, Bool, true, false, List, [], ◌∷◌, ◌++◌, length, refl, ap, sym, subst, arith, inl, length-append, None}
use Rattle.std.proofs.lemmas.List.{append-nil}
use Rattle.std.proofs.lemmas.Bool.Decides.{nat_tests}
use mathlib.Core.List.{IsPrefix}
use prog.Atomic.{either}
use Rattle.logbook.specs.Pages.{Cell, cell, keeps, no_nib, step, Moves, Goes}
use Rattle.conc_types.specs.declared.event.Event.{Event}
use Rattle.conc_view.specs.Book.{AddsOne, IsCounted}
use Rattle.conc_view.proofs.Beginnings.{prefix_whole}

abbrev pub shown : List Event → List Event
shown _ = []

abbrev pub moved : List Event → List Event → ℕ → Type 0
moved _ _ _ = Unit {0}

adds_goes : (log seen : List Event) (e : Event) (old : ℕ) → length seen ≡ old → IsPrefix seen log → (b : Bool) → (length log == old) ≡ b
    → Goes IsCounted shown moved 0 (seen, (no_nib, None)) (λ n. either (n == old) (old + 1) n) (AddsOne (step 0 old (old + 1) e) (seen, (no_nib, None))) ((length log, true) ∷ (0, true) ∷ []) log
adds_goes log seen e old len pre true is =
    let here : length log ≡ old = grind (arith, nat_tests) in
    let same : seen ≡ log = prefix_whole seen log pre (omega arith) in
    let n : either (length log == old) (old + 1) (length log) ≡ length (log ++ e ∷ []) = rw is (omega (arith, length-append log (e ∷ []))) in (
      keeps,
      e ∷ [],
      None,
      tt,
      ap (λ (k : ℕ). (k, true) ∷ (0, true) ∷ []) n,
      inl (refl, refl),
      rw is (ap (λ w. w ++ e ∷ []) (sym same)),
    )
adds_goes log seen e old len pre false is =
    let all : log ++ [] ≡ log = append-nil log in
    let n : either (length log == old) (old + 1) (length log) ≡ length (log ++ []) = rw is (ap length (sym all)) in (
      keeps,
      [],
      None,
      tt,
      ap (λ (k : ℕ). (k, true) ∷ (0, true) ∷ []) n,
      inl (refl, refl),
      rw is (ap length all),
    )

-- whatever the book is, the step adds the event to all that was seen, or finds that the book has more
pub adds_moves : (seen : List Event) (e : Event) (old : ℕ) → length seen ≡ old
    → Moves IsCounted shown moved 0 (seen, (no_nib, None)) (λ n. either (n == old) (old + 1) n) (AddsOne (step 0 old (old + 1) e) (seen, (no_nib, None)))
adds_moves seen e old len cells log kept pre away =
    let P : List Cell → Type 0 = λ c. (0 < length c) × ((cell c 0).1 ≡ true) × Goes IsCounted shown moved 0 (seen, (no_nib, None)) (λ n. either (n == old) (old + 1) n) (AddsOne (step 0 old (old + 1) e) (seen, (no_nib, None))) c log in
    subst P (sym kept) (omega arith, refl, adds_goes log seen e old len pre (length log == old) refl)
