-- What a machine that a desk lends tells of its list.
use Rattle.std.proofs.Common.{◌≡◌, ◌++◌, [], ◌∷◌, Bool, true, false, List, reverse, Option, Some, refl, sym, ◌∙◌, ap, subst}
use Rattle.conc_types.specs.declared.event.Event.{Event}
use Rattle.conc_types.specs.declared.event.Event.TheVariants as event
use Rattle.conc_types.specs.declared.script.Reading.{Reading}
use Rattle.conc_base_law.specs.Kinds.{is_resume}
use Rattle.conc_base_law.specs.Law.{is_lawful, Lawful, may_follow}
use Rattle.conc_base_law.proofs.Positions.{reverse-push}
use Rattle.conc_machine.specs.StandsFor.{plan_of, readings_of, StandsFor}
use Rattle.conc_machine.specs.declared.machine.Machine.{Machine}
use Rattle.conc_run_choice.proofs.Pushes.{is_lawful-more}
use Rattle.conc_run_steps.specs.Steps.{readings_in}
use Rattle.conc_run_desk.specs.Desks.{list_at, plan_at}
use Rattle.conc_run_desk.specs.State.{DeskState}
use Rattle.conc_test_desk.specs.Driven.{IsPlain}

pub plain-no_resume : (e : Event) → IsPlain e → is_resume e ≡ false
plain-no_resume event.Resume plain = absurd plain
plain-no_resume _ plain = refl

module _ (desk : DeskState) (machine : Machine) (is : machine ≡ desk.work.machine) (stands : StandsFor machine (reverse (list_at desk))) where
  pub judged : (e : Event) (ok : Bool) → readings_of machine ≡ Some (readings_in desk.work) → Lawful (plan_at desk) (readings_in desk.work) (list_at desk) → is_resume e ≡ false
      → ((past : List Event) → StandsFor machine past → ok ≡ may_follow (plan_of machine) (readings_of machine) past e) → ok ≡ true
      → Lawful (plan_at desk) (readings_in desk.work) (list_at desk ++ e ∷ [])
  judged e ok known lawful none answers so =
      let past = reverse (list_at desk) in
      let readings = readings_in desk.work in
      let may : may_follow (plan_of machine) (Some readings) past e ≡ true =
      ap (λ (r : Option (List Reading)). may_follow (plan_of machine) r past e) (sym known) ∙ (sym (answers past stands) ∙ so) in
      ap (is_lawful (plan_at desk) readings) (reverse-push (list_at desk) e)
      ∙ is_lawful-more (plan_at desk) readings past e none lawful (subst (λ (m : Machine). may_follow (plan_of m) (Some readings) past e ≡ true) is may)
