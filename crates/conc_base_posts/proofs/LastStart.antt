-- The report at a last start, event by event.
use Rattle.std.proofs.Common.{◌≡◌, true, false, List, ◌∷◌, refl, ap}
use Rattle.std.specs.Option.{option_and_then}
use Rattle.std.proofs.lemmas.Bool.{cond-false, cond-true}
use Rattle.conc_types.specs.declared.event.Event.{Event}
use Rattle.conc_types.specs.declared.event.Event.TheVariants as event
use Rattle.conc_types.specs.declared.event.PlaceId.{PlaceId}
use Rattle.conc_types.specs.declared.event.RequestId.{RequestId}
use Rattle.conc_types.specs.declared.plan.Plan.{Plan}
use Rattle.conc_types.specs.Plans.{request}
use Rattle.conc_base_law.specs.Kinds.{starts}
use Rattle.conc_base_law.specs.Words.{id_eq}
use Rattle.conc_base_law.proofs.EqualEvents.{eqb-refl, id_same}
use Rattle.conc_base_posts.specs.Positions.{book, books_after, last_report, posts_after, report_after}

-- a start of a request is an event of that request, at some place
pub starts-event : (id : RequestId) (e : Event) → starts id e ≡ true → (place : PlaceId) × (e ≡ event.Started id place)
starts-event id (event.Started q place) h = (place, ap (λ x. event.Started x place) (id_same q id h))
starts-event id _ h = cc

-- a start makes the report of its request
pub last_report-start : (plan : Plan) (past : List Event) (id : RequestId) (place : PlaceId)
    → last_report plan (event.Started id place ∷ past) id ≡ option_and_then (report_after plan past) (request plan id)
unfolding last_report books_after book report_after posts_after
last_report-start plan past id place = cond-true (id_eq id id) _ _ (eqb-refl id.number)

-- an event that does not start a request leaves its report
pub last_report-other : (plan : Plan) (past : List Event) (id : RequestId) (e : Event) → starts id e ≡ false
    → last_report plan (e ∷ past) id ≡ last_report plan past id
unfolding last_report books_after book
last_report-other plan past id (event.Started q place) h = cond-false (id_eq q id) _ _ h
last_report-other plan past id _ h = refl
