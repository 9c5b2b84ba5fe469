-- Permits at one moment.
use Rattle.std.specs.Prelude.{◌≡◌, ℕ, Bool, List, IsFalse}
use Rattle.atomic_table.specs.Table.{Seen as SeenBy}
use Rattle.conc_types.specs.declared.event.PlaceId.{PlaceId}
use Rattle.conc_types.specs.declared.event.RequestId.{RequestId}
use Rattle.conc_types.specs.declared.plan.Plan.{Plan}
use Rattle.conc_pool_seats.specs.declared.views.Doing.TheVariants.{Serves}
use Rattle.conc_pool_seats.specs.declared.views.View.{View}
use Rattle.conc_pool_seats.specs.Rule.{BoardState, Keep, exclude, view_at}
use Rattle.conc_board.specs.declared.lead.Lead.{Lead}

-- the lead sits at this state of the board of a plan, which the rule allows
abbrev pub SitsAt : Plan → BoardState → Lead → Type 0
SitsAt plan s lead = SeenBy (Keep plan) lead.seat.id lead.seat.me.0 s

-- the seat with this number has the permit for a request at a place, with the stop sign or without
abbrev pub IsServing : List View → ℕ → RequestId → PlaceId → Type 0
IsServing views j r p = (stop : Bool) × ((view_at views j).doing ≡ Serves r p stop)

-- The requests of two seats with permits do not exclude each other, and two seats with permits for one
-- request, or at one place, are one.
pub record HaveApart (plan : Plan) (views : List View) (i j : ℕ) : Type 0 where
  pub requests : (r q : RequestId) (p u : PlaceId) → IsServing views i r p → IsServing views j q u → IsFalse (exclude plan r q)
  pub one_request : (r : RequestId) (p u : PlaceId) → IsServing views i r p → IsServing views j r u → i ≡ j
  pub one_place : (r q : RequestId) (p : PlaceId) → IsServing views i r p → IsServing views j q p → i ≡ j
