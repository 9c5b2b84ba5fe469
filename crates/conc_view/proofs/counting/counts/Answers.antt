use Rattle.std.proofs.Common.{◌≡◌, ◌<◌, ◌+◌, ◌∙◌, ap, length, refl, subst, sym}
use Rattle.std.proofs.lemmas.Bool.Decides.{nat_tests}
use Rattle.std.proofs.Common.{arith}
use Rattle.conc_restart.specs.Machines.{plan_of}
use Rattle.conc_view.proofs.Counted.{AreCounts, one_counted}
use Rattle.conc_view.proofs.counting.counts.Goals as goal

pub loop-i-preserved : goal.loop-i-preserved
loop-i-preserved c =
    let all : c.len-i-end.result ≡ length (plan_of c.args.machine.now).requests = c.len-i-end.ensures ∙ ap (λ p. length p.requests) c.plan.ensures in
    let inside : c.loop-i.i < length (plan_of c.args.machine.now).requests = grind (arith, nat_tests, c.loop-i-test.true, all) in
    subst (λ counts. AreCounts c.args.machine.now counts (c.loop-i.i + 1)) (sym c.add.ensures)
    (one_counted c.args.machine.now c.loop-i.counts c.loop-i.i _ c.status.result c.loop-i.invariant refl inside c.status.ensures)
