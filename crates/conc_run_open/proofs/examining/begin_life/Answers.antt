use Rattle.std.proofs.Common.{reverse, sym, subst}
use Rattle.conc_base_law.specs.Alone.{opening}
use Rattle.conc_restart.specs.Machines.{Machine, StandsFor}
use Rattle.conc_run_open.proofs.Lives.{life-empty, on-ok, stands-alone, stands-resumed}
use Rattle.conc_run_open.proofs.examining.begin_life.Goals as goal
use Rattle.conc_run_open.proofs.examining.begin_life.Goals.{then-not-is_empty, else-not-is_empty}

pub returns-clause-stands : goal.returns-clause-stands
returns-clause-stands c =
    let found = c.args.events.now in
    let stands : StandsFor c.if-not-is_empty.machine (reverse (opening found)) = elim c.if-not-is_empty.branch [
      | then-not-is_empty w ↦ subst (λ (m : Machine). StandsFor m (reverse (opening found))) (sym w.machine-is)
          (stands-resumed found w.apply.new.self (sym w.if-not-is_empty.ensures) (w.apply.ensures.stands (reverse found) c.requires))
      | else-not-is_empty w ↦ subst (λ (m : Machine). StandsFor m (reverse (opening found))) (sym w.machine-is)
          (stands-alone found c.args.machine.now (sym w.if-not-is_empty.ensures) c.requires)
    ] in
    on-ok c.take_readings.result c.take_readings.ensures.stands (λ takes. takes (reverse (opening found)) (life-empty found) stands)
