-- Desks as contracts speak of them.
use Rattle.std.specs.Prelude.{◌≡◌, ℕ, Bool, true, false, List, reverse}
use Rattle.conc_types.specs.declared.event.Event.{Event}
use Rattle.conc_types.specs.declared.event.PlaceId.{PlaceId}
use Rattle.conc_types.specs.declared.event.RequestId.{RequestId}
use Rattle.conc_types.specs.declared.plan.Plan.{Plan}
use Rattle.conc_types.specs.declared.plan.Req.{Req}
use Rattle.conc_types.specs.Words.{some_and}
use Rattle.conc_base_law.specs.Facts.{facts_of}
use Rattle.conc_base_law.specs.Places.{is_usable}
use Rattle.conc_base_law.specs.State.{now}
use Rattle.conc_base_law.specs.Words.{Has}
use Rattle.conc_board.specs.declared.board.Board.{Board}
use Rattle.conc_board.specs.declared.lead.Lead.{Lead}
use Rattle.conc_board.specs.Seats.{SetsFlag, lead_state_of, plan_of, switch_of}
use Rattle.conc_pool_seats.specs.declared.views.LeadState.{LeadState}
use Rattle.conc_pool_seats.specs.Words.{IsPlace, place_word}
use Rattle.conc_run_steps.specs.Steps.{plan_in}
use Rattle.conc_run_state.specs.Works.{list_in}
use Rattle.conc_run_state.specs.declared.work.Work.{Work}
use Rattle.conc_run_desk.specs.Following.{SameBut}
use Rattle.conc_run_desk.specs.State.{DeskState}
use Rattle.conc_run_desk.specs.Ties.{WaitsToStart}

abbrev pub plan_at : DeskState → Plan
plan_at desk = plan_in desk.work

abbrev pub list_at : DeskState → List Event
list_at desk = list_in desk.work

-- the lead state of a request in the lead's view
abbrev pub lead_state_at : DeskState → RequestId → LeadState
lead_state_at desk r = lead_state_of desk.lead r

-- the lead is seated at the board, which was made for the desk's plan
pub record IsAt (board : Board) (desk : DeskState) : Type 0 where
  pub seat : desk.lead.seat.table_id ≡ board.table.shared.table_id
  pub plan : plan_of board ≡ plan_at desk

-- r is a request of the plan that is let after these events, which are given with the latest first, and does not run
pub record IsLetAfter (plan : Plan) (past : List Event) (r : RequestId) : Type 0 where
  pub req : Req
  pub there : Has plan.requests req
  pub number : req.number ≡ r
  pub waits : WaitsToStart (facts_of plan past req)

-- so it is in the desk's list
abbrev pub IsLetIn : DeskState → RequestId → Type 0
IsLetIn desk r = IsLetAfter (plan_at desk) (reverse (list_at desk)) r

-- the work, the end that is kept and the list at the beginning are as they were, and no end was lost since
pub record SameWork (old new : DeskState) : Type 0 where
  pub work : new.work ≡ old.work
  pub kept : new.kept ≡ old.kept
  pub begun_with : new.begun_with ≡ old.begun_with
  pub failed : new.failed ≡ old.failed

-- a call that writes this to the word with this number, which is that of a place or of the end, and does nothing else
pub record SwitchesFlag (board : Board) (word value : ℕ) (old new : DeskState) : Type 0 where
  pub at : IsAt board new
  pub same : SameWork old new
  pub set : SetsFlag board word value old.lead new.lead

-- ---- open places

-- the place may be used at the last reading of this work's list, or of the desk's
abbrev pub is_usable_in : Work → PlaceId → Bool
is_usable_in work p = some_and (λ t. is_usable (plan_in work) t p) (now (reverse (list_in work)))

abbrev pub is_usable_at : DeskState → PlaceId → Bool
is_usable_at desk p = is_usable_in desk.work p

-- what the word of a place holds that is open, or closed
abbrev pub place_value : Bool → ℕ
place_value true = 1
place_value false = 0

-- the lead has each place of the plan open exactly where it may be used at the last reading
pub record HasOpenWhatIsUsable (board : Board) (lead : Lead) (work : Work) : Type 0 where
  pub each : (p : PlaceId) → IsPlace (plan_in work) p → switch_of lead (place_word (plan_of board) p) ≡ place_value (is_usable_in work p)

-- so has that of the desk, for the desk's list
abbrev pub OpensWhatIsUsable : Board → DeskState → Type 0
OpensWhatIsUsable board desk = HasOpenWhatIsUsable board desk.lead desk.work

-- a call on one request of the board, and on nothing else
pub record MovesOne (board : Board) (r : RequestId) (old new : DeskState) : Type 0 where
  pub at : IsAt board new
  pub same : SameWork old new
  pub others : SameBut r old.lead new.lead
