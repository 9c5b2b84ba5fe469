-- No state of a run with workers is dead: until its history is finished, some party can go on.
use Rattle.std.specs.Prelude.{◌≡◌, ◌⊎◌, ◌∷◌, ◌++◌, [], ℕ, List, Option, None, Some, reverse, IsTrue, ⊤}
use Rattle.conc_types.specs.declared.event.Event.{Event}
use Rattle.conc_types.specs.declared.event.Event.TheVariants as event
use Rattle.conc_types.specs.declared.event.PlaceId.{PlaceId}
use Rattle.conc_types.specs.declared.plan.Plan.{Plan}
use Rattle.conc_types.specs.declared.script.Reading.{Reading}
use Rattle.conc_types.specs.declared.script.Readings.{Readings}
use Rattle.conc_base_law.specs.Law.{Finished, Lawful}
use Rattle.conc_board.specs.Admission.{IsAdmitted}
use Rattle.conc_board.specs.Permits.{SitsAt}
use Rattle.conc_board.specs.Seats.{switch_of}
use Rattle.conc_board.specs.declared.lead.Lead.{Lead}
use Rattle.conc_pool_seats.specs.Places.{has}
use Rattle.conc_pool_seats.specs.Rule.{BoardState, view_at}
use Rattle.conc_pool_seats.specs.Words.{IsPlace, end_word}
use Rattle.conc_run_state.specs.Works.{list_in}
use Rattle.conc_run_state.specs.declared.work.Work.{Work}
use Rattle.conc_run_steps.specs.Steps.{IsFinished, readings_in}
use Rattle.conc_run_desk.specs.Seated.{IsSeated}
use Rattle.conc_run_desk.specs.State.{IsDesk}
use Rattle.conc_run_desk.specs.Ties.{LeadStatesGoWith}
use Rattle.conc_run_progress.specs.Boards.{IsHandIn, doing_in}
use Rattle.conc_run_progress.specs.HandMoves.{HandCan}
use Rattle.conc_run_progress.specs.LeadMoves.{LeadCan}
use Rattle.conc_run_progress.specs.Logs.{CanLog}
use Rattle.conc_run_progress.specs.Runs.{WhatRunsHasTheGo}

-- ---- a moment of a run

-- the end that is kept may come next; nothing but an end is kept
abbrev pub KeptMayCome : Plan → List Reading → List Event → Option Event → Type 0
KeptMayCome plan readings list None = ⊤
KeptMayCome plan readings list (Some (event.Ended r o x)) = Lawful plan readings (list ++ event.Ended r o x ∷ [])
KeptMayCome plan readings list (Some e) = ⊥

-- the place is that of some worker's hand
pub record IsManned (s : BoardState) (p : PlaceId) : Type 0 where
  pub hand : ℕ
  pub is_hand : IsHandIn s hand
  pub own : IsTrue (has (view_at s.views hand).places p)

-- The lead sits at the board, and each place is that of a worker's hand. The hands are not told that there is no more to come, and what each does is
-- for a request that the manager of the place admits.
pub record IsCrewed (plan : Plan) (lead : Lead) (s : BoardState) : Type 0 where
  pub sits : SitsAt plan s lead
  pub manned : (p : PlaceId) → IsPlace plan p → IsManned s p
  pub not_told : switch_of lead (end_word plan) ≡ 0
  pub admitted : (hand : ℕ) → IsAdmitted plan (doing_in s hand)

-- A moment of a run with workers, between two calls of the lead. The list is lawful, and an end that is kept may come next. What the lead knows of
-- each request goes with the list, what runs has the go, and the workers are at work.
pub record IsGoingOn (plan : Plan) (readings : Readings) (list : List Event) (kept : Option Event) (lead : Lead) (s : BoardState) : Type 0 where
  pub lawful : Lawful plan readings.list list
  pub kept_may_come : KeptMayCome plan readings.list list kept
  pub seated : IsSeated plan lead
  pub tied : LeadStatesGoWith plan (reverse list) lead
  pub runs : WhatRunsHasTheGo plan (reverse list) kept lead
  pub crew : IsCrewed plan lead s

-- ---- what somebody can do

-- the resolver can log an event for which no worker has to do anything, or the lead or a worker's hand can move on the board
abbrev pub SomebodyCanGoOn : Plan → List Reading → List Event → Option Event → Lead → BoardState → Type 0
SomebodyCanGoOn plan readings list kept lead s = CanLog plan readings list kept ⊎ (LeadCan plan readings list kept lead s ⊎ HandCan plan s)

-- ---- the laws

-- the history is finished, or somebody can go on
abbrev pub NoStateIsDead : Type 0
NoStateIsDead =
    (plan : Plan) (readings : Readings) (list : List Event) (kept : Option Event) (lead : Lead) (s : BoardState)
    → IsGoingOn plan readings list kept lead s
    → Finished plan readings.list list ⊎ SomebodyCanGoOn plan readings.list list kept lead s

-- so it is at a desk between two calls, whose own invariant says what stands of the list and of the lead
abbrev pub NoDeskIsDead : Type 0
NoDeskIsDead =
    (plan : Plan) (work : Work) (kept : Option Event) (lead : Lead) (s : BoardState)
    → IsDesk plan lead work kept → WhatRunsHasTheGo plan (reverse (list_in work)) kept lead → IsCrewed plan lead s
    → IsFinished work ⊎ SomebodyCanGoOn plan (readings_in work) (list_in work) kept lead s
