-- Precedence and numbers as keys of a queue.
use Rattle.std.specs.Prelude.{ℕ, ◌+◌, ◌*◌, ◌%◌, Bool, List, map, Option}
use Rattle.std.specs.Bool.{then_some}
use Rattle.conc_types.specs.declared.plan.Plan.{Plan}
use Rattle.conc_types.specs.declared.plan.Req.{Req}
use Rattle.conc_types.specs.Plans.{request}

-- the turn of a request: the priority, the start and the number as the digits of one number
unfoldable pub turn : Req → ℕ
turn r = (r.priority * 549755813888 + r.start.seconds) * 32768 + r.number.number

-- the request that has the turn, whose last digit is its number
unfoldable pub request_at_turn : Plan → ℕ → Option Req
request_at_turn plan t = request plan (record { number = t % 32768 })

unfoldable pub request_numbered : Plan → ℕ → Option Req
request_numbered plan n = request plan (record { number = n })

-- the turns of the requests that pass
unfoldable pub turns_of : (Req → Bool) → List Req → List (Option ℕ)
turns_of test requests = map (λ r. then_some (test r) (turn r)) requests

-- the numbers of the requests that pass
unfoldable pub numbers_of : (Req → Bool) → List Req → List (Option ℕ)
numbers_of test requests = map (λ r. then_some (test r) r.number.number) requests
