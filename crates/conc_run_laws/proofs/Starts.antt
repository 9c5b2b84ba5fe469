-- A life starts nothing that was completed before it.
use Rattle.std.proofs.Common.{◌≡◌, ℕ, suc, ◌+◌, ◌-◌, ◌++◌, true, List, [], ◌∷◌, length, reverse, take, drop, Some, sym, ◌∙◌, ap, subst, arith}
use Rattle.std.specs.Prelude.{slice_get}
use Rattle.std.proofs.lemmas.Bool.{both_ways}
use Rattle.std.proofs.lemmas.List.{reverse-append, take-append-drop}
use Rattle.conc_types.specs.declared.event.Event.{Event}
use Rattle.conc_types.specs.declared.event.Event.TheVariants as event
use Rattle.conc_types.specs.declared.plan.Plan.{Plan}
use Rattle.conc_types.specs.declared.plan.Req.{Req}
use Rattle.conc_base_law.specs.Facts.{was_completed}
use Rattle.conc_base_law.specs.Law.{is_lawful_so_far}
use Rattle.conc_base_law.specs.Words.{Has}
use Rattle.conc_base_law.proofs.Completed.{start_not_completed, was_completed-more}
use Rattle.conc_base_law.proofs.Positions.{take-suc_at}
use Rattle.conc_base_law.proofs.Prefixes.{is_lawful_so_far-prefix}
use Rattle.conc_run_laws.specs.Lives.{StartsNoMore}

-- what is completed stays so, however many events come
completed-later : (plan : Plan) (later past : List Event) (r : Req) → was_completed plan past r ≡ true → was_completed plan (later ++ past) r ≡ true
completed-later plan [] past r done = done
completed-later plan (e ∷ later) past r done = was_completed-more plan (later ++ past) r e (completed-later plan later past r done)

completed-behind : (plan : Plan) (found more : List Event) (r : Req) → was_completed plan (reverse found) r ≡ true → was_completed plan (reverse (found ++ more)) r ≡ true
completed-behind plan found more r done = ap (λ (l : List Event). was_completed plan l r) (reverse-append found more) ∙ completed-later plan (reverse more) (reverse found) r done

-- the first events of a list that begins with others
take-behind : (found rest : List Event) (k : ℕ) → take (length found + k) (found ++ rest) ≡ found ++ take k rest
take-behind [] rest k = let same : 0 + k ≡ k = omega arith in ap (λ (i : ℕ). take i rest) same
take-behind (e ∷ es) rest k =
    let same : length (e ∷ es) + k ≡ suc (length es + k) = omega arith in
    ap (λ (i : ℕ). take i (e ∷ es ++ rest)) same ∙ ap (λ (l : List Event). e ∷ l) (take-behind es rest k)

-- the events up to a start are lawful
upto-lawful : (plan : Plan) (list : List Event) (i : ℕ) (e : Event) → is_lawful_so_far plan (reverse list) ≡ true → slice_get list i ≡ Some e
    → is_lawful_so_far plan (reverse (take i list ++ e ∷ [])) ≡ true
upto-lawful plan list i e lawful there =
    let whole = subst (λ (l : List Event). is_lawful_so_far plan (reverse l) ≡ true) (sym (take-append-drop (suc i) list)) lawful in
    subst (λ (l : List Event). is_lawful_so_far plan (reverse l) ≡ true) (take-suc_at list i e there) (is_lawful_so_far-prefix plan (take (suc i) list) (drop (suc i) list) whole)

pub starts-no_more : (plan : Plan) (found list rest : List Event) (r : Req) → Has plan.requests r → is_lawful_so_far plan (reverse list) ≡ true → list ≡ found ++ rest
    → was_completed plan (reverse found) r ≡ true → StartsNoMore found list r.number
starts-no_more plan found list rest r has lawful is done i place from there =
    let k : ℕ = i - length found in
    let long : length found + k ≡ i = omega (arith, from) in
    let front : take i list ≡ found ++ take k rest =
    ap (λ (l : List Event). take i l) is ∙ ap (λ (j : ℕ). take j (found ++ rest)) (sym long) ∙ take-behind found rest k in
    let not_done = start_not_completed plan (take i list) r place has (upto-lawful plan list i (event.Started r.number place) lawful there) in
    let is_done = subst (λ (l : List Event). was_completed plan (reverse l) r ≡ true) (sym front) (completed-behind plan found (take k rest) r done) in
    absurd (both_ways (was_completed plan (reverse (take i list)) r) not_done is_done)
