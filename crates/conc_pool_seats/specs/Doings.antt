-- What a hand does, and the slots that it then has.
use Rattle.std.specs.Prelude.{ℕ, ◌==◌, true, false, if◌then◌else◌, List, [], ◌∷◌, Option, None}
use Rattle.conc_types.specs.declared.plan.Plan.{Plan}
use Rattle.conc_pool_seats.specs.declared.posted.Posted.{Posted}
use Rattle.conc_pool_seats.specs.declared.views.Doing.{Doing}
use Rattle.conc_pool_seats.specs.declared.views.Doing.TheVariants.{Idle, Waits, Serves}
use Rattle.conc_pool_seats.specs.Words.{IsPlace, IsRequest, claimed, running, stopping, request_word}

-- it is for a request and a place of the plan
abbrev pub IsWithin : Plan → Doing → Type 0
IsWithin plan Idle = Unit {0}
IsWithin plan (Waits r p) = IsRequest plan r × IsPlace plan p
IsWithin plan (Serves r p stop) = IsRequest plan r × IsPlace plan p

-- after the word that it waits for was loaded as n
abbrev pub polled : Doing → ℕ → Doing
polled (Waits r p) n =
    if n == running p then Serves r p false
    else (if n == stopping p then Serves r p true else (if n == claimed p then Waits r p else Idle))
polled doing n = doing

-- after the word of the request that it serves was loaded as n
abbrev pub warned : Doing → ℕ → Doing
warned (Serves r p stop) n = if n == stopping p then Serves r p true else Serves r p stop
warned doing n = doing

-- the slots that are out with it
abbrev pub carried_by : Doing → List (ℕ × Option Posted)
carried_by (Serves r p stop) = (request_word r, None) ∷ []
carried_by doing = []
