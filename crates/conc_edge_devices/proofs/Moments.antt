-- The moments of a trace: what a crash since one of them may have left, and how this goes on.
use Rattle.std.proofs.Common.{◌≡◌, ◌⊎◌, inl, inr, ⊎_elim, ℕ, ◌+◌, ◌<◌, ◌≤◌, List, [], ◌∷◌, ◌++◌, length, take, sym, subst, le_refl, arith, length-append}
use Rattle.std.proofs.lemmas.Bool.{cases_lt}
use Rattle.std.proofs.lemmas.List.{take_all, take-append-le}
use Rattle.conc_disk.specs.Disk.{IsLater}
use Rattle.conc_edge_devices.specs.Memory.{exposed}
use Rattle.conc_edge_devices.specs.Trace.{Leaves, LeavesSince}
use Rattle.conc_edge_devices.specs.declared.trace.Change.{Change}

-- ---- time goes on

pub later-same : (xs : List Change) (start old new : List ℕ) (before now : ℕ) → before ≤ now → IsLater (exposed start old xs before) (exposed start new xs now)
later-same xs start old new before now le = record {
  faults = le;
  moment = le_refl (length xs);
  earlier_stay = λ t c at left. left;
  nothing_else = λ t c at left. inl left;
}

module _ (xs : List Change) (y : Change) (start : List ℕ) where
  shorter : (k : ℕ) → k ≤ length xs → take k (xs ++ y ∷ []) ≡ take k xs
  shorter k le = take-append-le k xs (y ∷ []) le

  longer : length (xs ++ y ∷ []) ≡ length xs + 1
  longer = length-append xs (y ∷ [])

  pub keeps-push : (t : ℕ) (c : List ℕ) → LeavesSince xs start t c → LeavesSince (xs ++ y ∷ []) start t c
  keeps-push t c left =
      (left.0, left.1, omega (arith, left.2, longer), subst (λ (l : List Change). Leaves l start start c) (sym (shorter left.0 left.2)) left.3)

  pub else-push : (t : ℕ) (c : List ℕ) → LeavesSince (xs ++ y ∷ []) start t c → LeavesSince xs start t c ⊎ Leaves (xs ++ y ∷ []) start start c
  else-push t c left = ⊎_elim
      (λ (now : length xs < left.0). inr (subst (λ (l : List Change). Leaves l start start c) (take_all left.0 (xs ++ y ∷ []) (omega (arith, now, longer))) left.3))
      (λ (before : left.0 ≤ length xs). inl (left.0, left.1, before, subst (λ (l : List Change). Leaves l start start c) (shorter left.0 before) left.3))
      (cases_lt (length xs) left.0)

  pub later-push : (old new : List ℕ) (before now : ℕ) → before ≤ now → IsLater (exposed start old xs before) (exposed start new (xs ++ y ∷ []) now)
  later-push old new before now le = record {
    faults = le;
    moment = omega (arith, longer);
    earlier_stay = λ t c at left. keeps-push t c left;
    nothing_else = λ t c at left. else-push t c left;
  }
