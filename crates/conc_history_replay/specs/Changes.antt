-- What single events do to the facts of a request.
use Rattle.std.specs.Prelude.{Bool, true, false, ◌&&◌, Option, None, Some}
use Rattle.std.specs.Option.{option_or}
use Rattle.conc_types.specs.declared.event.Event.{Event}
use Rattle.conc_types.specs.declared.event.Event.TheVariants as event
use Rattle.conc_types.specs.declared.event.RequestId.{RequestId}
use Rattle.conc_types.specs.declared.facts.Facts.{Facts}
use Rattle.conc_types.specs.declared.plan.Req.{Req}
use Rattle.conc_types.specs.declared.script.Act.{Act}
use Rattle.conc_types.specs.declared.script.Act.TheVariants as act
use Rattle.conc_base_law.specs.Words.{id_eq, is_set}

-- the command does something to requests, and does not only enter some
abbrev pub acts : Option Act → Bool
acts None = false
acts (Some (act.Submit item user priority start domain argument)) = false
acts (Some _) = true

-- the request that a let, a start or an end names
abbrev pub named_alone : Event → Option RequestId
named_alone (event.LetOut q) = Some q
named_alone (event.Started q p) = Some q
named_alone (event.Ended q o x) = Some q
named_alone _ = None

-- its facts after the event
abbrev pub alone_after : Event → Facts → Facts
alone_after (event.LetOut q) own = record own { let_out = true }
alone_after (event.Started q p) own = record own { place = Some p; started = true; terminated = false }
alone_after (event.Ended q o x) own = record own { let_out = false; place = None; outcome = option_or own.outcome (Some o) }
alone_after _ own = own

-- r is the set that is opened
abbrev pub opens : RequestId → Req → Bool
opens set r = id_eq set r.number && is_set r.item

-- the one request whose facts the event can change, for most kinds of events
abbrev pub named_one : Event → Option RequestId
named_one (event.OpenSet q) = Some q
named_one (event.Stage q k) = Some q
named_one (event.LetOut q) = Some q
named_one (event.Started q p) = Some q
named_one (event.Ended q o x) = Some q
named_one _ = None
