-- One more change at the end of a trace.
use Rattle.std.proofs.Common.{◌≡◌, ℕ, List, [], ◌∷◌, ◌++◌, Vec, Option, Some, None, IsSome, if◌then◌else◌, ◌∙◌, Bool, true, false, IsTrue, refl, sym, subst, ap}
use Rattle.conc_edge_devices.specs.Trace.{act_fits, ActLeaves, after, after_act, all_fit, Leaves, start_of}
use Rattle.std.specs.declared.alloc.Global.{Global}
use Rattle.conc_edge_devices.specs.Laws.{both, both-first, both-second}
use Rattle.conc_edge_devices.specs.declared.trace.Change.{Change}

pub after-push : (xs : List Change) (y : Change) (s : List ℕ) → after (xs ++ y ∷ []) s ≡ after_act y.act (after xs s)
after-push [] y s = refl
after-push (x ∷ xs) y s = after-push xs y (after_act x.act s)

pub fit-push : (xs : List Change) (y : Change) (s : List ℕ) → IsTrue (all_fit xs s) → IsTrue (act_fits y.act (after xs s)) → IsTrue (all_fit (xs ++ y ∷ []) s)
fit-push [] y s fit fits = both (act_fits y.act s) true fits refl
fit-push (x ∷ xs) y s fit fits =
    let after_x = after_act x.act s in
    both (act_fits x.act s) (all_fit (xs ++ y ∷ []) after_x)
    (both-first (act_fits x.act s) (all_fit xs after_x) fit)
    (fit-push xs y after_x (both-second (act_fits x.act s) (all_fit xs after_x) fit) fits)

-- an image after the last change is one before it that took the step
pub leaves-push : (xs : List Change) (y : Change) (s d c : List ℕ) → Leaves (xs ++ y ∷ []) s d c → (e : List ℕ) × Leaves xs s d e × ActLeaves y.act (after xs s) e c
leaves-push [] y s d c left = (d, refl, subst (λ (e : List ℕ). ActLeaves y.act s d e) (sym left.2) left.1)
leaves-push (x ∷ xs) y s d c left =
    let rest = leaves-push xs y (after_act x.act s) left.0 c left.2 in (rest.0, (left.0, left.1, rest.1), rest.2)

pub leaves-add : (xs : List Change) (y : Change) (s d e c : List ℕ) → Leaves xs s d e → ActLeaves y.act (after xs s) e c → Leaves (xs ++ y ∷ []) s d c
leaves-add [] y s d e c left step = (c, subst (λ (b : List ℕ). ActLeaves y.act s b c) left step, refl)
leaves-add (x ∷ xs) y s d e c left step = (left.0, left.1, leaves-add xs y (after_act x.act s) left.0 e c left.2 step)

-- ---- what a trace keeps

-- a copy stays while the bytes change
pub copy-stays : (first : Option (Vec ℕ Global)) (old new : List ℕ) → IsSome first → start_of first new ≡ start_of first old
copy-stays None old new some = cc
copy-stays (Some v) old new some = refl

pub replays-push : (xs ys : List Change) (y : Change) (s t old new : List ℕ) → old ≡ after xs s → t ≡ s → ys ≡ xs ++ y ∷ [] → new ≡ after_act y.act old → new ≡ after ys t
replays-push xs ys y s t old new replays same more is =
    is ∙ ap (after_act y.act) replays ∙ sym (after-push xs y s) ∙ ap (λ (l : List Change). after l s) (sym more) ∙ ap (after ys) (sym same)

pub fit-more : (xs ys : List Change) (y : Change) (s t old : List ℕ) → old ≡ after xs s → IsTrue (all_fit xs s) → t ≡ s → ys ≡ xs ++ y ∷ [] → IsTrue (act_fits y.act old) → IsTrue (all_fit ys t)
fit-more xs ys y s t old replays fit same more fits =
    subst (λ (l : List ℕ). IsTrue (all_fit ys l)) (sym same)
    (subst (λ (l : List Change). IsTrue (all_fit l s)) (sym more)
    (fit-push xs y s fit (subst (λ (l : List ℕ). IsTrue (act_fits y.act l)) replays fits)))

-- the same where the change may not have been taken, and what is read stays
pub replays-if : (b : Bool) (xs ys : List Change) (y : Change) (s old : List ℕ) → after_act y.act old ≡ old → old ≡ after xs s → ys ≡ (if b then xs ++ y ∷ [] else xs) → old ≡ after ys s
replays-if true xs ys y s old same replays more = replays-push xs ys y s s old old replays refl more (sym same)
replays-if false xs ys y s old same replays more = replays ∙ ap (λ (l : List Change). after l s) (sym more)

pub fit-if : (b : Bool) (xs ys : List Change) (y : Change) (s old : List ℕ) → old ≡ after xs s → IsTrue (all_fit xs s) → ys ≡ (if b then xs ++ y ∷ [] else xs) → IsTrue (act_fits y.act old) → IsTrue (all_fit ys s)
fit-if true xs ys y s old replays fit more fits = fit-more xs ys y s s old replays fit refl more fits
fit-if false xs ys y s old replays fit more fits = subst (λ (l : List Change). IsTrue (all_fit l s)) (sym more) fit
