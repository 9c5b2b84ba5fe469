-- What a step of a hand's changes of what contracts see.
use Rattle.std.proofs.Common.{◌≡◌, ℕ, sym, ap, ◌∙◌, subst}
use Rattle.conc_pool_seats.specs.declared.posted.Posted.{Posted}
use Rattle.conc_pool_seats.specs.declared.views.Doing.{Doing}
use Rattle.conc_pool_seats.specs.declared.views.View.{View}
use Rattle.conc_pool_seats.specs.Doings.{IsWithin}
use Rattle.conc_pool_seats.specs.Steps.{noted, with_doing, with_post}
use Rattle.conc_board.specs.Admission.{IsAdmitted}
use Rattle.conc_board.specs.declared.board.Board.{Board}
use Rattle.conc_board.specs.declared.hand.Hand.{Hand}
use Rattle.conc_board.specs.Seats.{IsHandOf, Stays, plan_of}

-- it does this then, which is for a request and a place of the plan
pub stays_doing : (board : Board) (old new : Hand) (doing : Doing) (i n : ℕ) → IsHandOf board old → new.seat.table_id ≡ old.seat.table_id →
    new.seat.me.0 ≡ with_doing old.seat.me.0 doing i n → IsWithin (plan_of board) doing → IsAdmitted (plan_of board) doing → Stays board old new
stays_doing board old new doing i n hand seat is within admitted = record {
  hand = record {
    seat = seat ∙ hand.seat;
    within = subst (λ (v : View). IsWithin (plan_of board) v.doing) (sym is) within;
    admitted = subst (λ (v : View). IsAdmitted (plan_of board) v.doing) (sym is) admitted;
  };
  places = ap (λ (v : View). v.places) is;
}

-- the same, where it left this
pub stays_left : (board : Board) (old new : Hand) (doing : Doing) (i n : ℕ) (x : Posted) → IsHandOf board old → new.seat.table_id ≡ old.seat.table_id →
    new.seat.me.0 ≡ with_post (with_doing old.seat.me.0 doing i n) i x → IsWithin (plan_of board) doing → IsAdmitted (plan_of board) doing → Stays board old new
stays_left board old new doing i n x hand seat is within admitted = record {
  hand = record {
    seat = seat ∙ hand.seat;
    within = subst (λ (v : View). IsWithin (plan_of board) v.doing) (sym is) within;
    admitted = subst (λ (v : View). IsAdmitted (plan_of board) v.doing) (sym is) admitted;
  };
  places = ap (λ (v : View). v.places) is;
}

-- it only notes a step
pub stays_noted : (board : Board) (old new : Hand) (i n : ℕ) → IsHandOf board old → new.seat.table_id ≡ old.seat.table_id → new.seat.me.0 ≡ noted old.seat.me.0 i n → Stays board old new
stays_noted board old new i n hand seat is = record {
  hand = record {
    seat = seat ∙ hand.seat;
    within = subst (λ (v : View). IsWithin (plan_of board) v.doing) (sym is) hand.within;
    admitted = subst (λ (v : View). IsAdmitted (plan_of board) v.doing) (sym is) hand.admitted;
  };
  places = ap (λ (v : View). v.places) is;
}

-- two calls
pub stays_after : (board : Board) (old mid new : Hand) → Stays board old mid → Stays board mid new → Stays board old new
stays_after board old mid new first second = record { hand = second.hand; places = second.places ∙ first.places }
