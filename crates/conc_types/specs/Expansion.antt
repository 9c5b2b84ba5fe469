-- The requests that the commands of a script enter, numbered from 1.
use Rattle.std.specs.Prelude.{ℕ, ◌+◌, ◌==◌, if◌then◌else◌, List, [], ◌∷◌, ◌++◌, length, map, None, Some, slice_get}
use Rattle.std.specs.List.{enumerate_from, flat_map}
use Rattle.std.specs.Option.{option_map_or}
use Rattle.conc_types.specs.declared.plan.Req.{Req}
use Rattle.conc_types.specs.declared.script.Act.{Act}
use Rattle.conc_types.specs.declared.script.Act.TheVariants as act
use Rattle.conc_types.specs.declared.script.Order.{Order}
use Rattle.conc_types.specs.declared.item.Item.{Item}
use Rattle.conc_types.specs.declared.item.Item.TheVariants as item
use Rattle.conc_types.specs.declared.setup.Setup.{Setup}
use Rattle.conc_types.specs.declared.stage.Stage.{Stage}

-- an item that is submitted, with the number of its stage: from 1 for a member, and 0 for what the command names
abbrev pub Part : Type 0
Part = ℕ × Item

-- the members of a stage, in the order of its list
abbrev pub members_of : ℕ × Stage → List Part
members_of stage = map (λ program. (stage.0, item.Program program)) stage.1.members

-- what a submission enters: the program; or the set, and then its members stage by stage
abbrev pub parts : Setup → Item → List Part
parts setup (item.Program n) = (0, item.Program n) ∷ []
parts setup (item.Set n) =
    (0, item.Set n) ∷ option_map_or (λ s. flat_map members_of (enumerate_from 1 s.stages)) (slice_get setup.sets n) []

-- the request type of an item is its program's
abbrev pub type_of : Setup → Item → List ℕ
type_of setup (item.Program n) = option_map_or (λ p. p.request_type) (slice_get setup.programs n) []
type_of setup (item.Set n) = []

-- the request with this number that a command enters for a part. The set's request has the first number
abbrev pub request_by : Setup → ℕ → ℕ → Act → ℕ × Part → List Req
request_by setup command first (act.Submit what user priority start domain argument) part = record {
  number = record { number = part.0 };
  command = command;
  item = part.1.1;
  user = user;
  request_type = type_of setup part.1.1;
  priority = priority;
  start = start;
  domain = domain;
  argument = argument;
  parent = if part.1.0 == 0 then None else Some (record { number = first });
  stage = part.1.0;
} ∷ []
request_by setup command first _ part = []

abbrev pub parts_by : Setup → Act → List Part
parts_by setup (act.Submit what user priority start domain argument) = parts setup what
parts_by setup _ = []

-- the requests that one command enters, from a number on
abbrev pub entered : Setup → ℕ → ℕ × Order → List Req
entered setup first order =
    flat_map (request_by setup order.0 first order.1.act) (enumerate_from first (parts_by setup order.1.act))

-- the requests that commands enter, from a number on
abbrev pub expansion_from : Setup → ℕ → List (ℕ × Order) → List Req
expansion_from setup first [] = []
expansion_from setup first (order ∷ orders) =
    entered setup first order ++ expansion_from setup (first + length (parts_by setup order.1.act)) orders

-- all requests of a script
abbrev pub expansion : Setup → List Order → List Req
expansion setup orders = expansion_from setup 1 (enumerate_from 1 orders)
