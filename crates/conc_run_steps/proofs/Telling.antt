-- A teller is told each event.
use Rattle.std.proofs.Common.{◌≡◌, ◌+◌, List, [], ◌∷◌, ◌++◌, length, Option, None, Some, IfSome, sym, ◌∙◌, ap, subst}
use Rattle.std.specs.Prelude.{◌↔◌}
use Rattle.conc_types.specs.declared.event.Event.{Event}
use Rattle.conc_types.specs.declared.plan.Plan.{Plan}
use Rattle.conc_journal.specs.Receipts.{event_of, IsNextOf, list_with}
use Rattle.conc_journal.specs.declared.receipt.Receipt.{Receipt}
use Rattle.conc_base_law.specs.Law.{LawfulSoFar}
use Rattle.conc_run_steps.specs.Told.{IsTold, IsUntold}

-- the receipt of the next event is the next one for a teller that was told all
pub next-of : (told : Option (List Event)) (takes : List Event → Type 0) (plan : Plan) (list list' : List Event) (receipt : Receipt) → IsTold told takes plan list → LawfulSoFar plan list'
    → IsNextOf (Some list) (λ l. l ≡ list') receipt → IsNextOf told takes receipt
next-of None takes plan list list' receipt is past next = tt
next-of (Some l) takes plan list list' receipt is past next =
    (next.0 ∙ ap (λ (x : List Event). length x + 1) (sym is.at), subst takes (sym (ap (λ (x : List Event). x ++ event_of receipt ∷ []) is.at ∙ next.1)) (is.takes_all list' past))

module _ (told told' : Option (List Event)) (takes takes' : List Event → Type 0) (plan : Plan) (list list' : List Event) (is : IsTold told takes plan list) (same : (events : List Event) → takes' events ↔ takes events) where
  -- it was told the event of the receipt
  pub told-more : (receipt : Receipt) → told' ≡ list_with receipt told → list ++ event_of receipt ∷ [] ≡ list' → IsTold told' takes' plan list'
  told-more receipt more added = record {
    at = subst (λ (t : Option (List Event)). IfSome t (λ l. l ≡ list')) (sym more) (go told is.at);
    takes_all = λ events past. (same events).1 (is.takes_all events past);
  }
    where
      go : (t : Option (List Event)) → IfSome t (λ l. l ≡ list) → IfSome (list_with receipt t) (λ l. l ≡ list')
      go None at = tt
      go (Some l) at = ap (λ (x : List Event). x ++ event_of receipt ∷ []) at ∙ added

-- it was not
pub untold : (told told' : Option (List Event)) (takes : List Event → Type 0) (plan : Plan) (list list' : List Event) (e : Event) → IsTold told takes plan list → told' ≡ told → list' ≡ list ++ e ∷ [] → IsUntold told' list'
untold told told' takes plan list list' e is stays added = subst (λ (t : Option (List Event)). IsUntold t list') (sym stays) (go told is.at) where
  go : (t : Option (List Event)) → IfSome t (λ l. l ≡ list) → IsUntold t list'
  go None at = tt
  go (Some l) at = (e, added ∙ ap (λ (x : List Event). x ++ e ∷ []) (sym at))
