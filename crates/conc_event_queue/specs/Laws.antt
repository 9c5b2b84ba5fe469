-- The laws by which a search through the requests of a plan is the least key of a queue.
use Rattle.std.specs.Prelude.{◌≡◌, Bool}
use Rattle.std.specs.List.{find}
use Rattle.std.specs.Option.{option_and_then}
use Rattle.conc_types.specs.declared.plan.Plan.{Plan}
use Rattle.conc_types.specs.declared.plan.Req.{Req}
use Rattle.conc_base_law.specs.Plans.{precedes}
use Rattle.conc_base_law.specs.Words.{first_by}
use Rattle.conc_event_queue.specs.Least.{least}
use Rattle.conc_event_queue.specs.Turns.{numbers_of, request_at_turn, request_numbered, turns_of}

-- the first request in precedence that passes is the one with the least turn among those that pass
abbrev pub FirstInPrecedence : Type 0
FirstInPrecedence =
    (plan : Plan) (test : Req → Bool)
    → first_by precedes test plan.requests ≡ option_and_then (request_at_turn plan) (least (turns_of test plan.requests))

-- the first request in order that passes is the one with the least number among those that pass
abbrev pub FirstByNumber : Type 0
FirstByNumber =
    (plan : Plan) (test : Req → Bool)
    → find test plan.requests ≡ option_and_then (request_numbered plan) (least (numbers_of test plan.requests))
