-- What a desk holds, and what is true of it between two calls.
use Rattle.std.specs.Prelude.{◌≡◌, ℕ, Bool, Option, reverse}
use Rattle.conc_types.specs.declared.event.Event.{Event}
use Rattle.conc_types.specs.declared.plan.Plan.{Plan}
use Rattle.conc_board.specs.declared.lead.Lead.{Lead}
use Rattle.conc_run_steps.specs.Steps.{any_disk, IsTied, plan_in}
use Rattle.conc_run_state.specs.Works.{list_in}
use Rattle.conc_run_state.specs.declared.work.Work.{Work}
use Rattle.conc_run_desk.specs.Kept.{MayBeKept}
use Rattle.conc_run_desk.specs.Seated.{IsSeated}
use Rattle.conc_run_desk.specs.Ties.{LeadStatesGoWith}

-- A desk as contracts see it: its plan, the lead, the work, the end that is kept, how many events the list had when it was made, and
-- whether an end could not be kept.
pub record DeskState : Type 0 where
  pub plan : Plan
  pub lead : Lead
  pub work : Work
  pub kept : Option Event
  pub begun_with : ℕ
  pub failed : Bool

-- The lead is seated. Machine, journal and spool stand for one list, with the end that is kept behind it. The lead's view
-- of each request goes with that list, and the end may be kept.
pub record IsDesk (plan : Plan) (lead : Lead) (work : Work) (kept : Option Event) : Type 0 where
  pub plan_is : plan ≡ plan_in work
  pub seated : IsSeated (plan_in work) lead
  pub parts : IsTied kept work any_disk any_disk
  pub tied : LeadStatesGoWith (plan_in work) (reverse (list_in work)) lead
  pub may_be_kept : MayBeKept kept work lead
