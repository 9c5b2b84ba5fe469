-- Each step of a run with workers makes the measure less, and no measure becomes less for ever.
use Rattle.std.specs.Prelude.{◌≡◌, ◌∷◌, ◌++◌, [], ℕ, suc, Bool, List, Option, reverse, slice_index, IsFalse, IsTrue}
use mathlib.Core.Option.{some}
use lib.ListN.{get_elem?}
use Rattle.atomic_table.specs.Table.{Act, Me, stepped}
use Rattle.conc_types.specs.declared.event.Event.{Event}
use Rattle.conc_types.specs.declared.event.PlaceId.{PlaceId}
use Rattle.conc_types.specs.declared.event.RequestId.{RequestId}
use Rattle.conc_types.specs.declared.plan.Plan.{Plan}
use Rattle.conc_types.specs.declared.script.Readings.{Readings}
use Rattle.conc_board.specs.Permits.{SitsAt}
use Rattle.conc_board.specs.Seats.{lead_state_of}
use Rattle.conc_board.specs.declared.lead.Lead.{Lead}
use Rattle.conc_pool_seats.specs.LeadStates.{lead_state_in}
use Rattle.conc_pool_seats.specs.Rule.{BoardState, Keep}
use Rattle.conc_pool_seats.specs.Steps.{Slot}
use Rattle.conc_pool_seats.specs.Words.{IsPlace, IsRequest, place_word, running}
use Rattle.conc_pool_seats.specs.declared.views.LeadState.TheVariants.{Gone, Got}
use Rattle.conc_pool_seats.specs.declared.views.View.{View}
use Rattle.conc_run_progress.specs.Boards.{is_usable_after, word_of}
use Rattle.conc_run_progress.specs.HandMoves.{HandMove}
use Rattle.conc_run_progress.specs.LeadMoves.{LeadMove}
use Rattle.conc_run_progress.specs.Logs.{CanLog}
use Rattle.conc_run_progress.specs.Measure.{IsLess, Measure, doing_weight, measure_of}
use Rattle.conc_run_progress.specs.Moves.{ClosesTo, HandLeaves, LeadLeaves, StopsTo, WritesDone}

-- an event that the resolver logs by itself makes it less, whatever the board is then
abbrev pub LoggingMakesItLess : Type 0
LoggingMakesItLess =
    (plan : Plan) (readings : Readings) (list : List Event) (kept : Option Event) (lead : ℕ) (s next : BoardState) (can : CanLog plan readings.list list kept)
    → IsLess (measure_of plan readings.list (list ++ can.event ∷ []) lead next) (measure_of plan readings.list list lead s)

-- so does each move of the lead
abbrev pub LeadMovesMakeItLess : Type 0
LeadMovesMakeItLess =
    (plan : Plan) (readings : Readings) (list list' : List Event) (kept : Option Event) (lead : Lead) (s next : BoardState)
    (move : LeadMove plan readings.list list kept lead s)
    → SitsAt plan s lead → LeadLeaves plan readings.list list kept lead s move list' next
    → IsLess (measure_of plan readings.list list' lead.seat.id next) (measure_of plan readings.list list lead.seat.id s)

-- So does the second step of a collect, by which the lead writes that a request is done whose slot it has. It holds where the rule of the board does: hands
-- may have moved since the first.
abbrev pub WritingDoneMakesItLess : Type 0
WritingDoneMakesItLess =
    (plan : Plan) (readings : Readings) (list : List Event) (lead : ℕ) (me : Me Slot View) (s next : BoardState) (r : RequestId) (p : PlaceId) (marked : Bool)
    → Keep plan s → get_elem? s.views lead ≡ some me.0 → IsTrue me.0.leads → IsRequest plan r → lead_state_in me.0.lead_states r ≡ Got p marked
    → WritesDone plan s lead me r next
    → IsLess (measure_of plan readings.list list lead next) (measure_of plan readings.list list lead s)

-- each place of the plan that is open may be used at the last reading, as it is once the lead has set the places after a tick
pub record OpensOnlyWhatIsUsable (plan : Plan) (past : List Event) (s : BoardState) : Type 0 where
  pub each : (p : PlaceId) → IsPlace plan p → slice_index s.words (place_word plan p) ≡ 1 → IsTrue (is_usable_after plan past p)

-- so does each move of a hand, while no place is open that may not be used
abbrev pub HandMovesMakeItLess : Type 0
HandMovesMakeItLess =
    (plan : Plan) (readings : Readings) (list : List Event) (lead : Lead) (s next : BoardState) (hand : ℕ) (move : HandMove plan s hand)
    → SitsAt plan s lead → OpensOnlyWhatIsUsable plan (reverse list) s → HandLeaves plan s hand move next
    → IsLess (measure_of plan readings.list list lead.seat.id next) (measure_of plan readings.list list lead.seat.id s)

-- A step of any seat that leaves the word as it finds it leaves the measure, where the seat then knows the same lead states and does what it did, the stop
-- sign aside. So it is with a look at a request that nobody claims, a claim that misses, and a poll of a claim that is not answered.
abbrev pub FindingNothingLeavesIt : Type 0
FindingNothingLeavesIt =
    (plan : Plan) (readings : Readings) (list : List Event) (lead : ℕ) (s : BoardState) (seat word : ℕ) (me : Me Slot View) (view : View) (act : Act Slot)
    → get_elem? s.views seat ≡ some me.0 → view.lead_states ≡ me.0.lead_states → doing_weight view.doing ≡ doing_weight me.0.doing
    → measure_of plan readings.list list lead (stepped s word (slice_index s.words word) seat me.1 view act) ≡ measure_of plan readings.list list lead s

-- So does a stop that wins, and the close of a place that may not be used.
abbrev pub StoppingLeavesIt : Type 0
StoppingLeavesIt =
    (plan : Plan) (readings : Readings) (list : List Event) (lead : Lead) (s next : BoardState) (r : RequestId) (p : PlaceId) (marked : Bool)
    → SitsAt plan s lead → IsRequest plan r → lead_state_of lead r ≡ Gone p marked → word_of s r ≡ running p → StopsTo plan lead s r p next
    → measure_of plan readings.list list lead.seat.id next ≡ measure_of plan readings.list list lead.seat.id s

abbrev pub ClosingLeavesIt : Type 0
ClosingLeavesIt =
    (plan : Plan) (readings : Readings) (list : List Event) (lead : Lead) (s next : BoardState) (p : PlaceId)
    → SitsAt plan s lead → IsPlace plan p → IsFalse (is_usable_after plan (reverse list) p) → ClosesTo plan lead s p next
    → measure_of plan readings.list list lead.seat.id next ≡ measure_of plan readings.list list lead.seat.id s

-- no measure becomes less for ever
abbrev pub NoMeasureFallsForEver : Type 0
NoMeasureFallsForEver = (chain : ℕ → Measure) → ((i : ℕ) → IsLess (chain (suc i)) (chain i)) → ⊥
