-- A machine that follows a list, and one more event.
use Rattle.std.proofs.Common.{◌≡◌, ℕ, ◌+◌, List, [], ◌∷◌, ◌++◌, length, None, reverse, true, sym, ◌∙◌, ap, subst, refl, arith, length-append}
use Rattle.std.proofs.lemmas.Bool.{and_from}
use Rattle.conc_types.specs.declared.event.Event.{Event}
use Rattle.conc_base_law.proofs.Positions.{reverse-push}
use Rattle.conc_base_law.specs.Law.{is_lawful_so_far, LawfulSoFar, may_follow}
use Rattle.conc_machine.specs.StandsFor.{plan_of, readings_of, StandsFor}
use Rattle.conc_machine.specs.declared.machine.Machine.{Machine}
use Rattle.conc_test_view.specs.Follows.{Follows}

-- a new machine follows no event
pub follows_none : (machine : Machine) → readings_of machine ≡ None → StandsFor machine [] → Follows machine []
unfolding is_lawful_so_far
follows_none machine unread stands = record { unread = unread; stands = stands; lawful = refl }

-- an event that it judges lawful may follow
pub lawful_more : (machine : Machine) (events : List Event) (e : Event) → Follows machine events
    → may_follow (plan_of machine) (readings_of machine) (reverse events) e ≡ true → LawfulSoFar (plan_of machine) (events ++ e ∷ [])
unfolding is_lawful_so_far
lawful_more machine events e h may =
    let known : may_follow (plan_of machine) None (reverse events) e ≡ true = ap (λ r. may_follow (plan_of machine) r (reverse events) e) (sym h.unread) ∙ may in
    ap (is_lawful_so_far (plan_of machine)) (reverse-push events e) ∙ and_from _ _ h.lawful known

-- and then it follows the list with the event
pub follows_more : (old new : Machine) (events : List Event) (e : Event) → Follows old events
    → may_follow (plan_of old) (readings_of old) (reverse events) e ≡ true
    → plan_of new ≡ plan_of old → readings_of new ≡ readings_of old → StandsFor new (e ∷ reverse events) → Follows new (events ++ e ∷ [])
follows_more old new events e h may same readings stands = record {
  unread = readings ∙ h.unread;
  stands = subst (StandsFor new) (sym (reverse-push events e)) stands;
  lawful = subst (λ plan. LawfulSoFar plan (events ++ e ∷ [])) (sym same) (lawful_more old events e h may);
}

-- the receipt of an event that follows a list is that of the next event of a teller that was told the list
pub next_of : (told list more : List Event) (number : ℕ) (e got : Event) (takes : List Event → Type 0) → told ≡ list → more ≡ list ++ e ∷ [] → number ≡ length more → got ≡ e
    → takes (list ++ e ∷ []) → (number ≡ length told + 1) × takes (told ++ got ∷ [])
next_of told list more number e got takes is appended count same ok = (
  omega (arith, count, ap length appended, ap length is, length-append list (e ∷ [])),
  subst (λ (l : List Event). takes (l ++ got ∷ [])) (sym is) (subst (λ (x : Event). takes (list ++ x ∷ [])) (sym same) ok),
)
