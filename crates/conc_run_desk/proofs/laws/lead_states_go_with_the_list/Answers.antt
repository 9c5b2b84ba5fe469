use Rattle.std.proofs.Common.{reverse}
use Rattle.conc_run_desk.proofs.After.{tied_after}
use Rattle.conc_run_desk.proofs.laws.lead_states_go_with_the_list.Goals as goal

pub returns : goal.returns
returns c = λ plan readings history e old new may no_resume calm no_end goes follows.
    tied_after plan readings (reverse history) e old new may no_resume calm no_end goes follows
