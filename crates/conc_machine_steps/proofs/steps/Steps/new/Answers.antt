use Rattle.std.proofs.Common.{◌∙◌, ap}
use Rattle.conc_event_queue.specs.Least.{vacant}
use Rattle.conc_machine_steps.proofs.Fresh.{none_due}
use Rattle.conc_machine_steps.proofs.steps.Steps.new.Goals as goal

pub returns : goal.returns
returns c = none_due c.args.plan.now record { due = c.in_ok-new.field-0 } (c.in_ok-new.ensures ∙ ap vacant c.len.ensures)
