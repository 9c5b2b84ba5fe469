-- The end that a desk keeps.
use Rattle.std.proofs.Common.{◌≡◌, false, List, None, Some, refl, subst}
use Rattle.conc_types.specs.declared.event.Event.{Event}
use Rattle.conc_types.specs.declared.event.Event.TheVariants as event
use Rattle.conc_types.specs.declared.event.RequestId.{RequestId}
use Rattle.conc_types.specs.declared.plan.Plan.{Plan}
use Rattle.conc_types.specs.Plans.{request}
use Rattle.conc_base_law.specs.Alone.{end_of}
use Rattle.conc_base_law.specs.Kinds.{is_resume}
use Rattle.conc_base_law.specs.State.{facts_at, is_stopping, state}
use Rattle.conc_base_law.proofs.Options.{and_then-some}
use Rattle.conc_disk.specs.Disk.{DiskState}
use Rattle.conc_run_choice.specs.Choices.{HasItsText}
use Rattle.conc_run_state.specs.Works.{HasPendingText}
use Rattle.conc_run_steps.specs.Going.{TellsReport}
use Rattle.conc_run_desk.specs.Keeping.{end_in}
use Rattle.conc_run_desk.specs.Logging.{IsItsTurn}
use Rattle.conc_run_desk.proofs.Ends.{ends_it}

-- it is no resume
pub end-no_resume : (plan : Plan) (past : List Event) (r : RequestId) (e : Event) → end_in plan past r ≡ Some e → is_resume e ≡ false
end-no_resume plan past r e is =
    let x = and_then-some (end_of plan (state plan past)) (request plan r) e is in
    let its = ends_it (state plan past) plan x.0 e (is_stopping (facts_at (state plan past) x.0)) x.2 in
    subst (λ (d : Event). is_resume d ≡ false) its.2 refl

-- it tells its report
pub pending-tells : (plan : Plan) (list : List Event) (spool : DiskState) (e : Event) → HasPendingText plan list spool (Some e) → TellsReport plan e
pending-tells plan list spool (event.Ended id o (Some x)) pending = pending.reported
pending-tells plan list spool e pending = tt

-- ---- an event that is no end

pub plain-tells : (plan : Plan) (e : Event) → IsItsTurn None e → TellsReport plan e
plain-tells plan (event.Ended id o x) turn = absurd turn
plain-tells plan e turn = tt

pub plain-text : (plan : Plan) (e : Event) → IsItsTurn None e → HasItsText plan e None
plain-text plan (event.Ended id o x) turn = absurd turn
plain-text plan e turn = refl
