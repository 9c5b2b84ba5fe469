use Rattle.std.proofs.Common.{sym, ◌∙◌}
use Rattle.conc_history_check.proofs.Places.{occupied, unusable}
use Rattle.conc_history_check.proofs.starts.one_may_start_at.Goals as goal

pub returns-then-not-is_usable_now : goal.returns-then-not-is_usable_now
returns-then-not-is_usable_now c =
    sym (unusable c.args.position.plan.now c.args.position.state.now c.args.place (sym c.is_usable_now.ensures ∙ c.if-not-is_usable_now.true))

pub returns-then-is_taken : goal.returns-then-is_taken
returns-then-is_taken c =
    sym (occupied c.args.position.plan.now c.args.position.state.now c.args.place (sym c.is_taken.ensures ∙ c.if-is_taken.true))
