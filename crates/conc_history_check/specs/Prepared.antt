-- What of a plan alone is used at each position.
use Rattle.std.specs.Prelude.{◌≡◌, map}
use Rattle.conc_types.specs.declared.plan.Plan.{Plan}
use Rattle.conc_base_law.specs.Next.{can_run}
use Rattle.conc_history_replay.specs.Entries.{AreEntries}
use Rattle.conc_event_classes.specs.Classes.{AreClasses}
use Rattle.conc_event_reach.specs.Spans.{AreSpans}
use Rattle.conc_history_check.specs.declared.prepared.Prepared.{Prepared}

-- where its requests stand, what its commands enter, the classes of its requests, and for each whether it can run at all
pub record IsPrepared (plan : Plan) (prepared : Prepared) : Type 0 where
  pub spans : AreSpans plan prepared.spans
  pub entries : AreEntries plan prepared.entries
  pub classes : AreClasses plan prepared.classes
  pub runnable : prepared.runnable ≡ map (can_run plan) plan.requests
