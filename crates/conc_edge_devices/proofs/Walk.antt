-- A walk over the changes of a trace, one step on.
use Rattle.std.proofs.Common.{◌≡◌, ℕ, zero, suc, ◌+◌, ◌<◌, List, [], ◌∷◌, ◌++◌, length, get_or, take, IsTrue, sym, ◌∙◌, ap, subst, arith}
use Rattle.std.proofs.lemmas.List.{take_more}
use Rattle.conc_edge_devices.specs.Laws.{both-first, both-second}
use Rattle.conc_edge_devices.specs.Trace.{act_fits, ActLeaves, after, after_act, all_fit, Leaves}
use Rattle.conc_edge_devices.specs.declared.trace.Change.{Change}
use Rattle.conc_edge_devices.proofs.Changes.{after-push, leaves-add}

pub fit-at : (xs : List Change) (i : ℕ) (d : Change) (s : List ℕ) → i < length xs → IsTrue (all_fit xs s) → IsTrue (act_fits (get_or xs i d).act (after (take i xs) s))
fit-at [] i d s within fit = absurd (omega arith)
fit-at (x ∷ xs) zero d s within fit = both-first (act_fits x.act s) (all_fit xs (after_act x.act s)) fit
fit-at (x ∷ xs) (suc i) d s within fit = fit-at xs i d (after_act x.act s) (omega arith) (both-second (act_fits x.act s) (all_fit xs (after_act x.act s)) fit)

module _ (xs : List Change) (i : ℕ) (x : Change) (s : List ℕ) (within : i < length xs) (is : x ≡ get_or xs i x) where
  more : take (i + 1) xs ≡ take i xs ++ x ∷ []
  more = take_more xs i x within ∙ ap (λ (y : Change). take i xs ++ y ∷ []) (sym is)

  pub fit-here : IsTrue (all_fit xs s) → IsTrue (act_fits x.act (after (take i xs) s))
  fit-here fit = subst (λ (y : Change). IsTrue (act_fits y.act (after (take i xs) s))) (sym is) (fit-at xs i x s within fit)

  pub after-more : after (take (i + 1) xs) s ≡ after_act x.act (after (take i xs) s)
  after-more = ap (λ (l : List Change). after l s) more ∙ after-push (take i xs) x s

  pub leaves-more : (d e c : List ℕ) → Leaves (take i xs) s d e → ActLeaves x.act (after (take i xs) s) e c → Leaves (take (i + 1) xs) s d c
  leaves-more d e c left step = subst (λ (l : List Change). Leaves l s d c) (sym more) (leaves-add (take i xs) x s d e c left step)
