-- Each command of a list that is lawful so far stands in the plan, with a stamp.
use Rattle.std.proofs.Common.{◌≡◌, true, ℕ, ◌+◌, List, ◌∷◌, ◌++◌, reverse, take, drop, Some, sym, ◌∙◌, ap, arith}
use Rattle.std.specs.Prelude.{slice_get}
use Rattle.std.proofs.lemmas.Bool.{and_parts}
use Rattle.std.proofs.lemmas.List.{take-append-drop}
use Rattle.std.proofs.lemmas.Option.{slice_get_within}
use Rattle.conc_types.specs.Plans.{stamp}
use Rattle.conc_types.specs.declared.event.Event.{Event}
use Rattle.conc_types.specs.declared.event.Event.TheVariants as event
use Rattle.conc_types.specs.declared.plan.Plan.{Plan}
use Rattle.conc_base_law.specs.Law.{is_lawful_so_far, LawfulSoFar}
use Rattle.conc_base_law.proofs.Numbering.{numbered-at}
use Rattle.conc_base_law.proofs.Positions.{reverse-push, slice_get-some}
use Rattle.conc_base_law.proofs.Prefixes.{is_lawful_so_far-prefix}
use Rattle.conc_base_law.proofs.Firsts.{command_next}
use Rattle.conc_base_law.proofs.Fronts.{enumerated-at}
use Rattle.conc_run_open.proofs.Scripting.{front-more}

-- of a command that may follow
followed : (plan : Plan) (past : List Event) (n : ℕ) → is_lawful_so_far plan (event.Command n ∷ past) ≡ true → (found : ℕ) × (stamp plan n ≡ Some found)
unfolding is_lawful_so_far
followed plan past n lawful =
    let next = command_next plan past n (and_parts (is_lawful_so_far plan past) _ lawful).1 in
    let place = enumerated-at 1 plan.script.commands next.order next.element in
    let long = plan.stamped in
    let found = slice_get-some plan.stamps place.0 (omega (arith, long, slice_get_within plan.script.commands place.0 next.order.1 place.2)) in
    (found.0, numbered-at plan.stamps n place.0 (sym next.number ∙ place.1) ∙ found.1)

-- of one of the list
pub stands : (plan : Plan) (events : List Event) (i n : ℕ) → LawfulSoFar plan events → slice_get events i ≡ Some (event.Command n) → (found : ℕ) × (stamp plan n ≡ Some found)
stands plan events i n lawful here =
    let all : is_lawful_so_far plan (reverse (take (i + 1) events ++ drop (i + 1) events)) ≡ true = ap (λ (l : List Event). is_lawful_so_far plan (reverse l)) (take-append-drop (i + 1) events) ∙ lawful in
    let front : reverse (take (i + 1) events) ≡ event.Command n ∷ reverse (take i events) = ap (λ (l : List Event). reverse l) (front-more events i (event.Command n) here) ∙ reverse-push (take i events) (event.Command n) in
    followed plan (reverse (take i events)) n (sym (ap (is_lawful_so_far plan) front) ∙ is_lawful_so_far-prefix plan (take (i + 1) events) (drop (i + 1) events) all)
