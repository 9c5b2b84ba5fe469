use Rattle.std.proofs.Common.{◌∙◌, ap}
use Rattle.conc_event_queue.specs.Least.{vacant}
use Rattle.conc_machine_steps.proofs.Fresh.{none_run}
use Rattle.conc_machine_steps.proofs.running.Running.new.Goals as goal

pub returns : goal.returns
returns c =
    none_run c.args.plan.now record { all = c.in_ok-new.field-0; left = c.in_ok-new-2.field-0 }
    (c.in_ok-new.ensures ∙ ap vacant c.len.ensures) (c.in_ok-new-2.ensures ∙ ap vacant c.len-2.ensures)
