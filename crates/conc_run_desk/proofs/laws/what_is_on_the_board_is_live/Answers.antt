use Rattle.std.proofs.Common.{reverse}
use Rattle.conc_board.specs.Seats.{lead_state_of}
use Rattle.conc_run_desk.proofs.Apart.{on_board_live}
use Rattle.conc_run_desk.proofs.laws.what_is_on_the_board_is_live.Goals as goal

pub returns : goal.returns
returns c = λ plan history lead r lawful tied has on. on_board_live plan (reverse history) lawful r has (lead_state_of lead r.number) on (tied.each r has)
