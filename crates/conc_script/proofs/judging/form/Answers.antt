use Rattle.std.proofs.Common.{refl, sym}
use Rattle.std.proofs.lemmas.Bool.{and_from}
use Rattle.conc_script.specs.Fields.{list_of}
use Rattle.conc_script.proofs.Forms.{form_kept, form_without_start}
use Rattle.conc_script.proofs.judging.form.Goals as goal

pub returns-in_err-start-clause-form : goal.returns-in_err-start-clause-form
returns-in_err-start-clause-form c = rw c.from_residual-in_err-start.ensures (form_without_start c.args.at (list_of c.args.fields.now) (sym c.in_err-start.ensures))

pub invariant_of-result : goal.invariant_of-result
invariant_of-result c = record { user_named = sym c.if-not-is_name.ensures; domain_named = c.in_ok-domain.ensures.named }

pub returns-clause-form : goal.returns-clause-form
returns-clause-form c =
    let priority = sym c.in_ok-priority.ensures.value in
    let start = sym c.in_ok-start.ensures in
    let domain = sym c.in_ok-domain.ensures.value in
    form_kept c.args.at (list_of c.args.fields.now) (sym c.if-not-is_name.ensures) (rw priority refl) (rw start refl) (rw domain refl) (sym c.if-not-is_text.ensures)

pub returns-clause-fits : goal.returns-clause-fits
returns-clause-fits c = and_from _ _ c.in_ok-priority.ensures.within (sym c.if-not-is_text.ensures)
