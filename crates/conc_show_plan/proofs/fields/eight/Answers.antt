use Rattle.conc_show_plan.proofs.EightFields.{many_fields}
use Rattle.conc_show_plan.proofs.fields.eight.Goals as goal

pub returns-in-Some : goal.returns-in-Some
returns-in-Some c =
    many_fields c.args.line.now
    c.in_ok-rest.field-0.now c.in_ok-rest-2.field-0.now c.in_ok-rest-3.field-0.now c.in_ok-rest-4.field-0.now
    c.in_ok-rest-5.field-0.now c.in_ok-rest-6.field-0.now c.in_ok-rest-7.field-0.now c.in-Some.field-0.now
    c.split_field.result.0.now c.split_field-2.result.0.now c.split_field-3.result.0.now c.split_field-4.result.0.now
    c.split_field-5.result.0.now c.split_field-6.result.0.now c.split_field-7.result.0.now c.split_field-8.result.0.now
    (rw c.in_ok-rest.was at c.split_field.ensures) (rw c.in_ok-rest-2.was at c.split_field-2.ensures)
    (rw c.in_ok-rest-3.was at c.split_field-3.ensures) (rw c.in_ok-rest-4.was at c.split_field-4.ensures)
    (rw c.in_ok-rest-5.was at c.split_field-5.ensures) (rw c.in_ok-rest-6.was at c.split_field-6.ensures)
    (rw c.in_ok-rest-7.was at c.split_field-7.ensures) (rw c.in-Some.is at c.split_field-8.ensures)
