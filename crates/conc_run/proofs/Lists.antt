-- Lists that begin with the events found.
use Rattle.std.proofs.Common.{◌≡◌, ◌⊎◌, inl, inr, ℕ, zero, suc, ◌≤◌, List, [], ◌∷◌, ◌++◌, length, length-append, reverse, Option, None, Some, refl, sym, ◌∙◌, ap, subst, append_assoc, arith}
use Rattle.std.specs.Prelude.{slice_get}
use Rattle.std.proofs.lemmas.List.{reverse-append}
use Rattle.std.proofs.lemmas.List.Sums.{sum_by-append}
use Rattle.conc_types.specs.declared.event.Event.{Event}
use Rattle.conc_types.specs.declared.event.Event.TheVariants as event
use Rattle.conc_types.specs.declared.event.Extent.{Extent}
use Rattle.conc_types.specs.declared.event.Outcome.{Outcome}
use Rattle.conc_types.specs.declared.event.RequestId.{RequestId}
use Rattle.conc_types.specs.declared.plan.Plan.{Plan}
use Rattle.conc_base_law.specs.Alone.{opening}
use Rattle.conc_base_law.specs.Kinds.{extent_length}
use Rattle.conc_base_law.specs.State.{used}
use Rattle.conc_base_law.proofs.Positions.{reverse-push}
use Rattle.conc_run_state.specs.Lists.{IsPrefix}
use Rattle.conc_run_state.specs.Stored.{AreStored}
use Rattle.conc_run_state.specs.Works.{with_pending}
use Rattle.conc_run_state.proofs.Prefixes.{prefix-opening, prefix-self, prefix-twice}

-- ---- beginnings

-- without its last event a list begins with what it began with, if that was shorter
prefix-less : (front list : List Event) (e r : Event) (rest : List Event) → list ++ e ∷ [] ≡ front ++ r ∷ rest → IsPrefix front list
prefix-less [] list e r rest is = (list, refl)
prefix-less (x ∷ xs) [] e r rest is = absurd (omega (arith, ap length is, length-append xs (r ∷ rest)))
prefix-less (x ∷ xs) (y ∷ ys) e r rest is =
    let behind : ys ++ e ∷ [] ≡ xs ++ r ∷ rest = cc in
    let less = prefix-less xs ys e r rest behind in
    let same : y ≡ x = cc in
    (less.0, ap (λ (l : List Event). y ∷ l) less.1 ∙ ap (λ (z : Event). z ∷ (xs ++ less.0)) same)

-- what was acknowledged begins with the events found
pub prefix-acknowledged : (found acknowledged last : List Event) → IsPrefix (opening found) last → (last ≡ acknowledged) ⊎ ((e : Event) × (last ≡ acknowledged ++ e ∷ [])) → IsPrefix found acknowledged
prefix-acknowledged found acknowledged last begins (inl same) = subst (λ (l : List Event). IsPrefix found l) same (prefix-twice found (opening found) last (prefix-opening found) begins)
prefix-acknowledged [] acknowledged last begins (inr more) = (acknowledged, refl)
prefix-acknowledged (x ∷ xs) acknowledged last begins (inr more) =
    prefix-less (x ∷ xs) acknowledged more.0 event.Resume begins.0 (sym more.1 ∙ begins.1 ∙ append_assoc (x ∷ xs) (event.Resume ∷ []) begins.0)

-- the opening is the list found, or has the resume behind it
pub opening-adds : (found : List Event) → (opening found ≡ found) ⊎ ((e : Event) × (opening found ≡ found ++ e ∷ []))
opening-adds [] = inl refl
opening-adds (e ∷ es) = inr (event.Resume, refl)

pub prefix-with_pending : (pending : Option Event) (list : List Event) → IsPrefix list (with_pending pending list)
prefix-with_pending None list = prefix-self list
prefix-with_pending (Some e) list = (e ∷ [], refl)

-- ---- the bytes of their texts

-- no fewer than those of a beginning
pub used-prefix : (front list : List Event) → IsPrefix front list → used (reverse front) ≤ used (reverse list)
unfolding used
used-prefix front list begins =
    omega (arith, ap (λ (l : List Event). used (reverse l)) begins.1, ap used (reverse-append front begins.0), sum_by-append extent_length (reverse begins.0) (reverse front))

-- a resume has none
pub used-opening : (found : List Event) → used (reverse (opening found)) ≡ used (reverse found)
unfolding used
used-opening [] = refl
used-opening (e ∷ es) = ap used (reverse-push (e ∷ es) event.Resume)

-- ---- the texts

-- a resume has none
end-found : (found : List Event) (i : ℕ) (id : RequestId) (o : Outcome) (x : Extent) → slice_get (found ++ event.Resume ∷ []) i ≡ Some (event.Ended id o (Some x)) → slice_get found i ≡ Some (event.Ended id o (Some x))
end-found [] zero id o x is = cc
end-found [] (suc i) id o x is = is
end-found (e ∷ es) zero id o x is = is
end-found (e ∷ es) (suc i) id o x is = end-found es i id o x is

pub stored-opening : (plan : Plan) (from : ℕ) (found : List Event) (bytes : List ℕ) → AreStored plan from found bytes → AreStored plan from (opening found) bytes
stored-opening plan from [] bytes stored = stored
stored-opening plan from (e ∷ es) bytes stored = λ i id o x le is. stored i id o x le (end-found (e ∷ es) i id o x is)
