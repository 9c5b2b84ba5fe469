use Rattle.std.proofs.Common.{◌∙◌, ap, sym}
use Rattle.std.specs.Option.{option_and_then}
use Rattle.conc_event_queue.specs.Least.{least}
use Rattle.conc_machine_starts.proofs.LeastTurns.{least-closed, least-open}
use Rattle.conc_machine_starts.proofs.starts.Starts.least_turn_at.Goals as goal

pub returns-in_err-queue_at : goal.returns-in_err-queue_at
returns-in_err-queue_at c = λ plan s are.
    c.from_residual.ensures ∙ ap (option_and_then least) c.in_err-queue_at.ensures ∙ sym (least-open plan s c.args.self.now c.args.place are (sym c.if-is_open.ensures))

pub returns-in_ok-queue_at : goal.returns-in_ok-queue_at
returns-in_ok-queue_at c = λ plan s are.
    c.least.ensures ∙ ap (option_and_then least) c.in_ok-queue_at.ensures ∙ sym (least-open plan s c.args.self.now c.args.place are (sym c.if-is_open.ensures))

pub returns-else-is_open : goal.returns-else-is_open
returns-else-is_open c = λ plan s are. sym (least-closed plan s c.args.self.now c.args.place are (sym c.if-is_open.ensures))
