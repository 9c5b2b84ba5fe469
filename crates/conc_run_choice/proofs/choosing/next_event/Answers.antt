use Rattle.std.proofs.Common.{◌≡◌, sym, subst}
use Rattle.conc_machine.specs.StandsFor.{plan_of}
use Rattle.conc_run_choice.specs.Choices.{HasItsText}
use Rattle.conc_run_choice.proofs.Parts.{forced-no_text}
use Rattle.conc_run_choice.proofs.choosing.next_event.Goals as goal

pub returns-in-Some-clause-text : goal.returns-in-Some-clause-text
returns-in-Some-clause-text c = λ past stands x same.
    let plan = plan_of c.args.machine.now in
    let none : _ = forced-no_text plan _ c.in-Some.e (sym (c.in-Some.ensures past stands)) in
    let is : c.without_text.result ≡ x = cc in
    subst (λ n. HasItsText plan n.event n.text) is
    (subst (λ e. HasItsText plan e c.without_text.result.text) (sym c.without_text.ensures.event)
    (subst (HasItsText plan c.in-Some.e) (sym c.without_text.ensures.text) none))
