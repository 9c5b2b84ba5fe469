-- Plans for which the table of a finished run does not depend on who runs the requests.
use Rattle.std.specs.Prelude.{◌≡◌, Bool, true, false, List, reverse, Some, IsTrue, IsFalse}
use Rattle.std.specs.List.{list_all}
use Rattle.conc_types.specs.declared.event.Event.{Event}
use Rattle.conc_types.specs.declared.event.Moment.{Moment}
use Rattle.conc_types.specs.declared.event.PlaceId.{PlaceId}
use Rattle.conc_types.specs.declared.manager.Manager.{Manager}
use Rattle.conc_types.specs.declared.plan.Plan.{Plan}
use Rattle.conc_types.specs.declared.plan.Req.{Req}
use Rattle.conc_types.specs.declared.script.Act.{Act}
use Rattle.conc_types.specs.declared.script.Act.TheVariants as act
use Rattle.conc_types.specs.declared.script.Reading.{Reading}
use Rattle.conc_base_law.specs.Ends.{AreReported}
use Rattle.conc_base_law.specs.Kinds.{is_resume}
use Rattle.conc_base_law.specs.Law.{Finished, Lawful}
use Rattle.conc_base_law.specs.Before.{occurs}
use Rattle.conc_base_law.specs.Places.{all_places, is_usable, Place, place_of}
use Rattle.conc_base_law.specs.Plans.{are_exclusive}
use Rattle.conc_base_law.specs.Words.{Has, is_set}

abbrev pub is_submission : Act → Bool
is_submission (act.Submit what user priority start domain argument) = true
is_submission _ = false

-- the manager has a place that may be used at the moment
pub record HasUsablePlace (plan : Plan) (manager : Manager) (t : Moment) : Type 0 where
  pub place : PlaceId
  pub element : Has (all_places plan) place
  pub found : Place
  pub here : place_of plan place ≡ Some found
  pub owner : found.manager ≡ manager
  pub usable : IsTrue (is_usable plan t place)

-- submissions only; each manager has a usable place at each reading; and no request excludes the request of a set
pub record Steady (plan : Plan) (readings : List Reading) : Type 0 where
  pub submissions : IsTrue (list_all (λ order. is_submission order.act) plan.script.commands)
  pub usable : (manager : Manager) (q : Reading) → Has plan.setup.managers manager → Has readings q → HasUsablePlace plan manager q.moment
  pub sets_apart : (r set : Req) → Has plan.requests r → Has plan.requests set → IsTrue (is_set set.item) → IsFalse (are_exclusive plan r set)

-- one life that is lawful and finished, and whose ends tell what the reports of their requests say
pub record IsWhole (plan : Plan) (readings : List Reading) (history : List Event) : Type 0 where
  pub lawful : Lawful plan readings history
  pub finished : Finished plan readings history
  pub one_life : IsFalse (occurs is_resume (reverse history))
  pub reported : AreReported plan 0 history
