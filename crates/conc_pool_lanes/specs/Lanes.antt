-- The lanes of a plan, and their passes.
use Rattle.std.specs.Prelude.{◌≡◌, ℕ, Bool, nat_lt, false, true, List, [], ◌∷◌, ◌++◌, length, map, Option, None, Some, if◌then◌else◌, slice_index_or, slice_set, ⊤}
use Rattle.std.specs.List.{list_all}
use mathlib.Core.Option.{some}
use lib.ListN.{get_elem?}
use Rattle.conc_types.specs.declared.event.RequestId.{RequestId}
use Rattle.conc_types.specs.declared.manager.Manager.{Manager}
use Rattle.conc_types.specs.declared.plan.Plan.{Plan}
use Rattle.conc_types.specs.declared.plan.Req.{Req}
use Rattle.conc_base_law.specs.Managers.{admits}
use Rattle.conc_pool_lanes.specs.Lane.{IsPutterOf, IsTakerOf, put_by, taken_with}
use Rattle.conc_pool_lanes.specs.Rule.{taken_by}
use Rattle.conc_pool_lanes.specs.declared.lane.Lane.{Lane}
use Rattle.conc_pool_lanes.specs.declared.rule.Log.{Log}
use Rattle.conc_pool_lanes.specs.declared.lane.Putter.{Putter}
use Rattle.conc_pool_lanes.specs.declared.lane.Taker.{Taker}
use Rattle.conc_pool_lanes.specs.declared.lanes.HandPass.{HandPass}
use Rattle.conc_pool_lanes.specs.declared.lanes.Lanes.{Lanes}
use Rattle.conc_pool_lanes.specs.declared.lanes.LeadPass.{LeadPass}

-- ---- what is put

-- the request joins the list of this manager, if it admits the request
abbrev pub joined_one : Manager → Req → List RequestId → List RequestId
joined_one manager r list = if admits manager r then list ++ r.number ∷ [] else list

-- the request joins the list of each manager that admits it
unfoldable pub joined : List Manager → Req → List (List RequestId) → List (List RequestId)
joined [] r lists = lists
joined (manager ∷ managers) r [] = []
joined (manager ∷ managers) r (list ∷ lists) =
    joined_one manager r list ∷ joined managers r lists

-- the same of the request with this number, if there is one
abbrev pub joined_by : Plan → Option Req → List (List RequestId) → List (List RequestId)
joined_by plan None lists = lists
joined_by plan (Some r) lists = joined plan.setup.managers r lists

-- each of the lists is shorter than this
abbrev pub are_shorter : ℕ → List (List RequestId) → Bool
are_shorter room lists = list_all (λ list. nat_lt (length list) room) lists

-- ---- lanes and passes, one by one

-- each of the passes is the one that puts into the lane in its place
unfoldable pub ArePutters : List Lane → List Putter → Type 0
ArePutters [] [] = ⊤
ArePutters (lane ∷ lanes) (putter ∷ putters) = IsPutterOf lane putter × ArePutters lanes putters
ArePutters lanes putters = ⊥

-- each of the passes takes from the lane in its place
unfoldable pub AreTakers : List Lane → List Taker → Type 0
AreTakers [] [] = ⊤
AreTakers (lane ∷ lanes) (taker ∷ takers) = IsTakerOf lane taker × AreTakers lanes takers
AreTakers lanes takers = ⊥

-- ---- all lanes

abbrev pub plan_of : Lanes → Plan
plan_of lanes = lanes.plan.now

-- what was put with the pass, for each manager in order
abbrev pub puts_of : LeadPass → List (List RequestId)
puts_of pass = map put_by pass.putters.items

-- what was taken with the pass, for each manager in order
abbrev pub takes_of : HandPass → List (List RequestId)
takes_of pass = map taken_with pass.takers.items

-- the lists after a take from the lane in this place, which gave a request or none
abbrev pub with_take : ℕ → Option RequestId → List (List RequestId) → List (List RequestId)
with_take place None lists = lists
with_take place (Some r) lists = slice_set lists place (slice_index_or lists place [] ++ r ∷ [])

-- it is the pass that puts into these lanes
abbrev pub IsLeadPassOf : Lanes → LeadPass → Type 0
IsLeadPassOf lanes pass = ArePutters lanes.lanes.items pass.putters.items

-- it takes from these lanes
abbrev pub IsHandPassOf : Lanes → HandPass → Type 0
IsHandPassOf lanes pass = AreTakers lanes.lanes.items pass.takers.items

-- each of these passes takes from the lanes
unfoldable pub AreHandPasses : Lanes → List HandPass → Type 0
AreHandPasses lanes [] = ⊤
AreHandPasses lanes (pass ∷ passes) = IsHandPassOf lanes pass × AreHandPasses lanes passes

-- ---- the law

-- of the requests that were put these were taken, in order and each by one pass; the lane holds the others
pub record TakesInOrder (items : List RequestId) (views : List Log) : Type 0 where
  pub taken : List RequestId
  pub takers : List ℕ
  pub each_once : length takers ≡ length taken
  pub prefix : (port : ℕ) (v : Log) → get_elem? views port ≡ some v → v.puts ≡ true → v.requests ≡ taken ++ items
  pub own : (port : ℕ) (v : Log) → get_elem? views port ≡ some v → v.puts ≡ false → v.requests ≡ taken_by port taken takers
