use Rattle.std.proofs.Common.{◌≡◌, subst}
use Rattle.conc_run_choice.specs.Choices.{HasItsText}
use Rattle.conc_run_choice.proofs.Parts.{stored_next}
use Rattle.conc_run_choice.proofs.choosing.end_by.Goals as goal

pub returns-in-Some-2-clause-text : goal.returns-in-Some-2-clause-text
returns-in-Some-2-clause-text c = λ found x same.
    let stored : HasItsText c.args.plan.now c.reported_end.result.event c.reported_end.result.text =
    stored_next c.args.plan.now c.args.r.now c.in-Some-2.made c.in-Some.offset c.reported_end.result _ found c.in_ok-made.ensures.made (cc)
    c.reported_end.ensures.event c.reported_end.ensures.text in
    let is : c.reported_end.result ≡ x = cc in
    subst (λ n. HasItsText c.args.plan.now n.event n.text) is stored
