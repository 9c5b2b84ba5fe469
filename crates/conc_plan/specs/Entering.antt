-- The requests that a command enters for some parts of what it submits.
use Rattle.std.specs.Prelude.{ℕ, List, [], slice_get}
use Rattle.std.specs.List.{enumerate_from, flat_map}
use Rattle.std.specs.Option.{option_map_or}
use Rattle.conc_types.specs.declared.plan.Req.{Req}
use Rattle.conc_types.specs.declared.script.Act.{Act}
use Rattle.conc_types.specs.declared.setup.Setup.{Setup}
use Rattle.conc_types.specs.declared.stage.Stage.{Stage}
use Rattle.conc_types.specs.Expansion.{Part, members_of, request_by}
use Rattle.conc_plan.specs.declared.entering.Command.{Command}

-- the requests for these parts, numbered from a number on, of a command with its own number and that of its first request
abbrev pub entered_for : Setup → ℕ → ℕ → Act → ℕ → List Part → List Req
entered_for setup command first act next parts =
    flat_map (request_by setup command first act) (enumerate_from next parts)

-- so of a command with its own setup
abbrev pub entered_by : Command → ℕ → List Part → List Req
entered_by command next parts =
    entered_for command.setup.now command.number command.first command.order.now.act next parts

-- the members of these stages, which are numbered from 1
abbrev pub members_in : List Stage → List Part
members_in stages = flat_map members_of (enumerate_from 1 stages)

-- the members of a set, stage by stage
abbrev pub set_parts : Setup → ℕ → List Part
set_parts setup place = option_map_or (λ s. members_in s.stages) (slice_get setup.sets place) []
