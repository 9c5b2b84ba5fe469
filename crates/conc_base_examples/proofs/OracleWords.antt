-- The words with which random plans and histories are written.
use Rattle.std.proofs.Common.{ℕ, Bool, List, [], ◌∷◌, map, length, Option, Some}
use Rattle.std.specs.List.{filter}
use Rattle.conc_types.specs.declared.event.Event.{Event}
use Rattle.conc_types.specs.declared.event.Event.TheVariants as event
use Rattle.conc_types.specs.declared.event.Moment.{Moment}
use Rattle.conc_types.specs.declared.event.Outcome.{Outcome}
use Rattle.conc_types.specs.declared.event.Phase.{Phase}
use Rattle.conc_types.specs.declared.event.PlaceId.{PlaceId}
use Rattle.conc_types.specs.declared.event.RequestId.{RequestId}
use Rattle.conc_types.specs.declared.event.Status.{Status}
use Rattle.conc_types.specs.declared.facts.Facts.{Facts}
use Rattle.conc_types.specs.declared.facts.State.{State}
use Rattle.conc_types.specs.declared.item.Item.{Item}
use Rattle.conc_types.specs.declared.plan.Plan.{Plan}
use Rattle.conc_types.specs.declared.plan.Req.{Req}
use Rattle.conc_base_law.specs.Next.{forced, is_at_rest, is_left_running, may_start}
use Rattle.conc_base_law.specs.Places.{all_places}
use Rattle.conc_base_law.specs.Stages.{set_step}
use Rattle.conc_base_law.specs.State.{facts_at, is_live, is_running, is_stopping, is_waiting, state}
use Rattle.conc_base_law.specs.Status.{status_of}
use Rattle.conc_base_law.specs.Words.{is_set}
use Rattle.conc_base_examples.proofs.Plans.{id, moment, start}

abbrev pub ended : ℕ → Outcome → ℕ → ℕ → Event
ended r o offset length = event.Ended (id r) o (Some (record { offset = offset; length = length }))

-- what is forced, whether the system is at rest, and the statuses of all requests
abbrev pub answers : Plan → List Event → Option Event × (Bool × List (Option (Phase × Status)))
answers plan past = (
  forced plan (state plan past),
  (is_at_rest plan (state plan past), map (status_of plan (state plan past)) plan.requests),
)

-- the facts of a request
abbrev pub tests : Plan → State → Facts → Req → List Bool
tests plan s f r =
    f.entered ∷ f.held ∷ f.opened ∷ f.let_out ∷ is_running f ∷ is_stopping f ∷ is_live f ∷ is_waiting plan s r
    ∷ is_left_running s r ∷ f.started ∷ []

abbrev pub facts : Plan → List Event → Req → List Bool
facts plan past r = tests plan (state plan past) (facts_at (state plan past) r) r

abbrev pub values : Facts → (Option Outcome × Option ℕ) × (Option PlaceId × ℕ)
values f = ((f.outcome, f.stage), (f.place, f.begun.bits))

abbrev pub more_facts : Plan → List Event → Req → (Option Outcome × Option ℕ) × (Option PlaceId × ℕ)
more_facts plan past r = values (facts_at (state plan past) r)

-- what the state says of no single request
abbrev pub overall : Plan → List Event → (Bool × Option Moment) × (Option ℕ × List Bool)
overall plan past =
    (((state plan past).empty, (state plan past).time), ((state plan past).used, (state plan past).done))

abbrev pub all_facts : Plan → List Event → List (List Bool)
all_facts plan past = map (facts plan past) plan.requests

abbrev pub all_values : Plan → List Event → List ((Option Outcome × Option ℕ) × (Option PlaceId × ℕ))
all_values plan past = map (more_facts plan past) plan.requests

-- which request may start at which place
abbrev pub starts : Plan → List Event → List (List Bool)
starts plan past = map (λ q. map (may_start plan (state plan past) q) (all_places plan)) plan.requests

-- what each set does next, if it is open
abbrev pub steps : Plan → List Event → List (Option Event)
steps plan past = map (set_step plan (state plan past)) (filter (λ r. is_set r.item) plan.requests)

abbrev pub request_by : ℕ → ℕ → Item → List ℕ → List ℕ → ℕ → ℕ → List ℕ → List ℕ → Option RequestId → ℕ → Req
request_by number command what user request_type priority start domain argument parent stage = record {
  number = id number;
  command = command;
  item = what;
  user = user;
  request_type = request_type;
  priority = priority;
  start = moment start;
  domain = domain;
  argument = argument;
  parent = parent;
  stage = stage;
}
