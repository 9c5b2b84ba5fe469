-- Requests whose start has not come, in a queue of which the earliest start is the first.
use Rattle.std.specs.Prelude.{◌≡◌, ℕ, ◌+◌, ◌*◌, Bool, false, true, not, List, length, Option, Some}
use Rattle.std.specs.Bool.{then_some}
use Rattle.conc_types.specs.declared.event.Moment.{Moment}
use Rattle.conc_types.specs.declared.plan.Plan.{Plan}
use Rattle.conc_types.specs.declared.plan.Req.{Req}
use Rattle.conc_base_law.specs.State.{has_come}
use Rattle.conc_base_law.specs.Words.{Has}
use Rattle.conc_history_check.specs.Marks.{slot_of}

-- the key of a request: its start and its number as the digits of one number
unfoldable pub start_key : Req → ℕ
start_key r = r.start.seconds * 32768 + r.number.number

-- each request whose start has not come at a moment has its key, and no other one has
pub record AreComing (plan : Plan) (time : Option Moment) (queue : List (Option ℕ)) : Type 0 where
  pub size : length queue ≡ length plan.requests
  pub all : (r : Req) → Has plan.requests r → slot_of queue r ≡ Some (then_some (not (has_come time r.start)) (start_key r))

-- a key that stands in the slot of a request is its own
pub record AreStartKeys (plan : Plan) (queue : List (Option ℕ)) : Type 0 where
  pub size : length queue ≡ length plan.requests
  pub own : (r : Req) (key : ℕ) → Has plan.requests r → slot_of queue r ≡ Some (Some key) → key ≡ start_key r

-- r stands there, and its start has come
pub record HasCome (plan : Plan) (queue : List (Option ℕ)) (now : Option Moment) (r : Req) : Type 0 where
  pub own : Has plan.requests r
  pub key : ℕ
  pub there : slot_of queue r ≡ Some (Some key)
  pub come : has_come now r.start ≡ true

-- the start of no request that stands there has come
abbrev pub NoneHasCome : Plan → List (Option ℕ) → Option Moment → Type 0
NoneHasCome plan queue now = (r : Req) (key : ℕ) → Has plan.requests r → slot_of queue r ≡ Some (Some key) → has_come now r.start ≡ false

-- what has come at a moment has come at another one
abbrev pub IsNotLater : Option Moment → Option Moment → Type 0
IsNotLater before now = (t : Moment) → has_come before t ≡ true → has_come now t ≡ true
