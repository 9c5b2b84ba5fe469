use Rattle.std.proofs.Common.{refl, reverse}
use Rattle.conc_run_desk.proofs.Apart.{apart}
use Rattle.conc_run_desk.proofs.laws.on_the_board_none_excludes_what_waits.Goals as goal

pub returns : goal.returns
returns c = λ plan history lead r q lawful goes there waits on. apart plan (reverse history) lawful lead goes r there waits r.number refl q on
