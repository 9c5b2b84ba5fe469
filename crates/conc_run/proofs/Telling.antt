-- A teller is told of the resume.
use Rattle.std.proofs.Common.{◌≡◌, List, Option, None, Some, IfSome, refl, sym, subst}
use Rattle.std.specs.Prelude.{◌↔◌, IsNone, IsSome}
use Rattle.conc_types.specs.declared.event.Event.{Event}
use Rattle.conc_types.specs.declared.plan.Plan.{Plan}
use Rattle.conc_types.specs.declared.script.Reading.{Reading}
use Rattle.conc_journal.specs.Receipts.{event_of, IsNextOf, list_with}
use Rattle.conc_journal.specs.declared.receipt.Receipt.{Receipt}
use Rattle.conc_base_law.specs.Law.{LawfulSoFar}
use Rattle.conc_run_state.specs.Machines.{readings_of}
use Rattle.conc_run_state.specs.Works.{list_in}
use Rattle.conc_run_state.specs.declared.work.Work.{Work}
use Rattle.conc_run_steps.specs.Steps.{plan_in}
use Rattle.conc_run_steps.specs.Told.{IsTold, IsUntold}
use Rattle.conc_run_steps.proofs.Telling.{next-of, told-more}
use Rattle.conc_run_steps.proofs.Underway.{by-own}
use Rattle.conc_run.specs.Telling.{list_resumed}

-- what a teller that stands at the events found may be told
pub resume-next : (resumed : Option Receipt) (told : Option (List Event)) (takes : List Event → Type 0) (plan : Plan) (found list : List Event) → IsTold told takes plan found → LawfulSoFar plan list
    → IfSome resumed (IsNextOf (Some found) (λ l. l ≡ list)) → IfSome resumed (IsNextOf told takes)
resume-next None told takes plan found list is past next = tt
resume-next (Some receipt) told takes plan found list is past next = next-of told takes plan found list receipt is past next

-- with the resume it was told all
pub resume-told : (resumed : Option Receipt) (told : Option (List Event)) (takes : List Event → Type 0) (plan : Plan) (found list : List Event) → IsTold told takes plan found
    → IfSome resumed (IsNextOf (Some found) (λ l. l ≡ list)) → (IsNone resumed → list ≡ found) → IsTold (list_resumed resumed told) takes plan list
resume-told None told takes plan found list is next still = subst (λ (l : List Event). IsTold told takes plan l) (sym (still refl)) is
resume-told (Some receipt) told takes plan found list is next still = told-more told (list_with receipt told) takes takes plan found list is (λ events. (λ x. x, λ x. x)) receipt refl next.1

-- it was not told of the resume
pub resume-untold : (resumed : Option Receipt) (told told' : Option (List Event)) (takes : List Event → Type 0) (plan : Plan) (list : List Event) → IsSome resumed → told' ≡ told → IsTold (list_resumed resumed told) takes plan list → IsUntold told' list
resume-untold None told told' takes plan list some same is = cc some
resume-untold (Some receipt) told told' takes plan list some same is = subst (λ (t : Option (List Event)). IsUntold t list) (sym same) (go told is.at) where
  go : (t : Option (List Event)) → IfSome (list_with receipt t) (λ l. l ≡ list) → IsUntold t list
  go None at = tt
  go (Some l) at = (event_of receipt, sym at)

-- a teller with the same list, which takes the same, was told the same
pub told-as : (told told' : Option (List Event)) (takes takes' : List Event → Type 0) (plan : Plan) (list : List Event) → told' ≡ told → ((events : List Event) → takes' events ↔ takes events) → IsTold told takes plan list
    → IsTold told' takes' plan list
told-as told told' takes takes' plan list same both is = record {
  at = subst (λ (t : Option (List Event)). IfSome t (λ l. l ≡ list)) (sym same) is.at;
  takes_all = λ events past. (both events).1 (is.takes_all events past);
}

-- a teller that stands at the events found was told the list of the work that was begun, the resume too
pub own-told : (plan : Plan) (readings : List Reading) (work : Work) → plan_in work ≡ plan → readings_of work.machine ≡ Some readings → (resumed : Option Receipt) (told told' : Option (List Event)) (takes takes' : List Event → Type 0) (found : List Event)
    → told' ≡ list_resumed resumed told → ((events : List Event) → takes' events ↔ takes events) → IsTold told takes plan found → IfSome resumed (IsNextOf (Some found) (λ l. l ≡ list_in work)) → (IsNone resumed → list_in work ≡ found)
    → IsTold told' takes' (plan_in work) (list_in work)
own-told plan readings work same known resumed told told' takes takes' found all both stood next still =
    by-own plan readings work same known (λ p _. IsTold told' takes' p (list_in work))
    (told-as (list_resumed resumed told) told' takes takes' plan (list_in work) all both (resume-told resumed told takes plan found (list_in work) stood next still))
