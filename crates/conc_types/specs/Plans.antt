-- The requests of a plan, and the stamps of its commands.
use Rattle.std.specs.Prelude.{ℕ, Option}
use Rattle.conc_types.specs.declared.event.RequestId.{RequestId}
use Rattle.conc_types.specs.declared.plan.Plan.{Plan}
use Rattle.conc_types.specs.declared.plan.Req.{Req}
use Rattle.conc_types.specs.Words.{numbered}

-- the request with this number
unfoldable pub request : Plan → RequestId → Option Req
request plan id = numbered plan.requests id.number

-- the stamp of the command with this number
abbrev pub stamp : Plan → ℕ → Option ℕ
stamp plan command = numbered plan.stamps command
