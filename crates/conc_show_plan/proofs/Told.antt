-- What is told of requests, one by one.
use Rattle.std.proofs.Common.{◌≡◌, refl, sym, ◌∙◌, ap, ◌<◌, ◌≤◌, ◌+◌, ℕ, zero, suc, true, false, List, [], ◌∷◌, ◌++◌, append_assoc, drop, get_or, length}
use Rattle.std.specs.Prelude.{is_some, slice_get, Option, None, Some}
use Rattle.std.proofs.lemmas.List.{append-nil, at_drop_all, at_drop_more, drop-drop}
use Rattle.conc_types.specs.declared.event.RequestId.{RequestId}
use Rattle.conc_show_model.specs.declared.model.Planned.{Planned}
use Rattle.conc_show_plan.specs.Plans.{planned_from}

-- so many requests are told of, and so many commands are taken, the last one by this command's number
pub IsTold : List (Option RequestId) → List ℕ → List Planned → ℕ → ℕ → Option ℕ → Type 0
IsTold sets submits planned i taken command =
    planned_from sets submits None ≡ planned ++ planned_from (drop i sets) (drop taken submits) command

first_left : (submits : List ℕ) (taken : ℕ) → slice_get (drop taken submits) 0 ≡ slice_get submits taken
first_left [] zero = refl
first_left [] (suc taken) = refl
first_left (x ∷ submits) zero = refl
first_left (x ∷ submits) (suc taken) = first_left submits taken

own_more : (set : Option RequestId) (sets : List (Option RequestId)) (submits : List ℕ) (last : Option ℕ) → is_some set ≡ false
    → planned_from (set ∷ sets) submits last ≡ record { set = set; command = slice_get submits 0 } ∷ planned_from sets (drop 1 submits) (slice_get submits 0)
unfolding planned_from
own_more None sets submits last e = refl
own_more (Some set) sets submits last e = absurd cc

member_more : (set : Option RequestId) (sets : List (Option RequestId)) (submits : List ℕ) (last : Option ℕ) → is_some set ≡ true
    → planned_from (set ∷ sets) submits last ≡ record { set = set; command = last } ∷ planned_from sets submits last
unfolding planned_from
member_more None sets submits last e = absurd cc
member_more (Some set) sets submits last e = refl

at_index : (sets : List (Option RequestId)) (submits : List ℕ) (last : Option ℕ) (i : ℕ) (set : Option RequestId) → i < length sets → set ≡ get_or sets i None
    → planned_from (drop i sets) submits last ≡ planned_from (set ∷ drop (i + 1) sets) submits last
at_index sets submits last i set l is =
    at_drop_more (λ (x : List (Option RequestId)). planned_from x submits last) sets i None l ∙ ap (λ (x : Option RequestId). planned_from (x ∷ drop (i + 1) sets) submits last) (sym is)

pushed : (planned more rest : List Planned) (p : Planned) → more ≡ planned ++ p ∷ [] → planned ++ p ∷ rest ≡ more ++ rest
pushed planned more rest p m = sym (append_assoc planned (p ∷ []) rest) ∙ ap (λ (x : List Planned). x ++ rest) (sym m)

-- a request without a set
pub told_own : (sets : List (Option RequestId)) (submits : List ℕ) (planned more : List Planned) (i taken next : ℕ) (command now : Option ℕ) (set : Option RequestId)
    → IsTold sets submits planned i taken command → i < length sets → set ≡ get_or sets i None → is_some set ≡ false → now ≡ slice_get submits taken → next ≡ taken + 1
    → more ≡ planned ++ record { set = set; command = now } ∷ [] → IsTold sets submits more (i + 1) next now
unfolding IsTold
told_own sets submits planned more i taken next command now set told l is none n t m =
    let left = drop taken submits in
    let own : slice_get left 0 ≡ now = first_left submits taken ∙ sym n in
    let rest : drop 1 left ≡ drop next submits = drop-drop 1 taken submits ∙ ap (λ (k : ℕ). drop k submits) (sym t) in
    let step : planned_from (drop i sets) left command ≡ record { set = set; command = now } ∷ planned_from (drop (i + 1) sets) (drop next submits) now =
    at_index sets left command i set l is ∙ (own_more set (drop (i + 1) sets) left command none
    ∙ (ap (λ (x : Option ℕ). record { set = set; command = x } ∷ planned_from (drop (i + 1) sets) (drop 1 left) x) own
    ∙ ap (λ (x : List ℕ). record { set = set; command = now } ∷ planned_from (drop (i + 1) sets) x now) rest)) in
    told ∙ (ap (λ (x : List Planned). planned ++ x) step ∙ pushed planned more _ _ m)

-- a member
pub told_member : (sets : List (Option RequestId)) (submits : List ℕ) (planned more : List Planned) (i taken : ℕ) (command : Option ℕ) (set : Option RequestId)
    → IsTold sets submits planned i taken command → i < length sets → set ≡ get_or sets i None → is_some set ≡ true
    → more ≡ planned ++ record { set = set; command = command } ∷ [] → IsTold sets submits more (i + 1) taken command
unfolding IsTold
told_member sets submits planned more i taken command set told l is some m =
    let left = drop taken submits in
    let step : planned_from (drop i sets) left command ≡ record { set = set; command = command } ∷ planned_from (drop (i + 1) sets) left command =
    at_index sets left command i set l is ∙ member_more set (drop (i + 1) sets) left command some in
    told ∙ (ap (λ (x : List Planned). planned ++ x) step ∙ pushed planned more _ _ m)

none_left : (submits : List ℕ) (last : Option ℕ) → planned_from [] submits last ≡ []
unfolding planned_from
none_left submits last = refl

pub told_none : (sets : List (Option RequestId)) (submits : List ℕ) (planned : List Planned) → planned ≡ [] → IsTold sets submits planned 0 0 None
unfolding IsTold
told_none sets submits planned e = rw e refl

pub told_all : (sets : List (Option RequestId)) (submits : List ℕ) (planned : List Planned) (i taken : ℕ) (command : Option ℕ) → IsTold sets submits planned i taken command → length sets ≤ i
    → planned ≡ planned_from sets submits None
unfolding IsTold
told_all sets submits planned i taken command told l =
    sym (told ∙ (ap (λ (x : List Planned). planned ++ x) (at_drop_all (λ (x : List (Option RequestId)). planned_from x (drop taken submits) command) sets i l ∙ none_left (drop taken submits) command) ∙ append-nil planned))
