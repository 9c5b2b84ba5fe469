use Rattle.std.proofs.Common.{◌∙◌, sym, ◌+◌}
use Rattle.std.proofs.lemmas.Result.{err_from_is_err_and}
use Rattle.conc_script.specs.Fields.{list_of}
use Rattle.conc_script.proofs.ActionRules.{act_of_request, act_of_submit, entered_by_request, entered_by_submit, rules_of_request, rules_of_submit}
use Rattle.conc_script.proofs.judging.action.Goals as goal

pub returns-in_err-submission-clause-rules : goal.returns-in_err-submission-clause-rules
returns-in_err-submission-clause-rules c =
    let p = err_from_is_err_and c.from_residual.result c.from_residual.ensures.1 in
    rw (p.1, p.2) (rules_of_submit c.args.setup.now c.args.entered (list_of c.args.fields.now) (sym c.if-is_submit.ensures) ∙ c.in_err-submission.ensures.rules)

pub returns-then-is_submit-clause-rules : goal.returns-then-is_submit-clause-rules
returns-then-is_submit-clause-rules c = rules_of_submit c.args.setup.now c.args.entered (list_of c.args.fields.now) (sym c.if-is_submit.ensures) ∙ c.in_ok-submission.ensures.rules

pub returns-then-is_submit-clause-said : goal.returns-then-is_submit-clause-said
returns-then-is_submit-clause-said c = act_of_submit c.args.setup.now c.args.at (list_of c.args.fields.now) c.in_ok-submission.submission (sym c.if-is_submit.ensures) c.in_ok-submission.ensures.said

pub returns-then-is_submit-clause-fits : goal.returns-then-is_submit-clause-fits
returns-then-is_submit-clause-fits c = c.in_ok-submission.ensures.fits (c.args.entered + 1)

pub returns-then-is_submit-clause-enters : goal.returns-then-is_submit-clause-enters
returns-then-is_submit-clause-enters c = entered_by_submit c.args.setup.now (list_of c.args.fields.now) c.in_ok-submission.submission (sym c.if-is_submit.ensures) c.in_ok-submission.ensures.item

pub returns-in_err-request-clause-rules : goal.returns-in_err-request-clause-rules
returns-in_err-request-clause-rules c =
    let known = sym c.verb_of.ensures ∙ c.in_ok-verb.ensures.ok_part in
    let p = err_from_is_err_and c.from_residual-in_err-request.result c.from_residual-in_err-request.ensures.1 in
    rw (p.1, p.2) (rules_of_request c.args.setup.now c.args.entered (list_of c.args.fields.now) c.in_ok-verb.verb (sym c.if-is_submit.ensures) known ∙ c.in_err-request.ensures.rules)

pub returns-clause-rules : goal.returns-clause-rules
returns-clause-rules c = rules_of_request c.args.setup.now c.args.entered (list_of c.args.fields.now) c.in_ok-verb.verb (sym c.if-is_submit.ensures) (sym c.verb_of.ensures ∙ c.in_ok-verb.ensures.ok_part) ∙ c.in_ok-request.ensures.rules

pub returns-clause-said : goal.returns-clause-said
returns-clause-said c = act_of_request c.args.setup.now c.args.at (list_of c.args.fields.now) c.in_ok-verb.verb c.in_ok-request.request (sym c.if-is_submit.ensures) (sym c.verb_of.ensures ∙ c.in_ok-verb.ensures.ok_part) c.in_ok-request.ensures.said

pub returns-clause-enters : goal.returns-clause-enters
returns-clause-enters c = entered_by_request c.args.setup.now (list_of c.args.fields.now) c.in_ok-verb.verb c.in_ok-request.request (sym c.if-is_submit.ensures)
