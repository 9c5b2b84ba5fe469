-- Each move can be made: the rule of the board allows a step as the move has it, and holds of what it leaves. A board does not say which slots a hand has: here it
-- has what its step asks for.
use Rattle.std.specs.Prelude.{ℕ, List, Option}
use Rattle.conc_types.specs.declared.event.Event.{Event}
use Rattle.conc_types.specs.declared.plan.Plan.{Plan}
use Rattle.conc_types.specs.declared.script.Reading.{Reading}
use Rattle.conc_board.specs.Permits.{SitsAt}
use Rattle.conc_board.specs.declared.lead.Lead.{Lead}
use Rattle.conc_pool_seats.specs.Rule.{BoardState, Keep}
use Rattle.conc_run_desk.specs.Seated.{IsSeated}
use Rattle.conc_run_progress.specs.HandMoves.{HandMove}
use Rattle.conc_run_progress.specs.LeadMoves.{LeadMove}
use Rattle.conc_run_progress.specs.Moves.{HandLeaves, LeadLeaves}

abbrev pub LeadMovesCanBeMade : Type 0
LeadMovesCanBeMade =
    (plan : Plan) (readings : List Reading) (list : List Event) (kept : Option Event) (lead : Lead) (s : BoardState) (move : LeadMove plan readings list kept lead s)
    → SitsAt plan s lead → IsSeated plan lead
    → (list' : List Event) × (next : BoardState) × Keep plan next × LeadLeaves plan readings list kept lead s move list' next

abbrev pub HandMovesCanBeMade : Type 0
HandMovesCanBeMade =
    (plan : Plan) (s : BoardState) (hand : ℕ) (move : HandMove plan s hand)
    → Keep plan s → (next : BoardState) × Keep plan next × HandLeaves plan s hand move next
