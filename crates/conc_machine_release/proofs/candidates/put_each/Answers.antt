use Rattle.std.proofs.Common.{drop, refl, arith}
use Rattle.conc_machine_release.proofs.PutRight.{have-still, left-end, left-next, puts-end, puts-next, puts-start}
use Rattle.conc_machine_release.proofs.candidates.put_each.Goals as goal

pub loop-class-init : goal.loop-class-init
loop-class-init c = puts-start c.args.ready.now c.args.rivals.now c.args.classes.now c.args.candidates.now

pub put_candidate-requires-clause-have : goal.put_candidate-requires-clause-have
put_candidate-requires-clause-have c =
    have-still c.args.ready.now c.args.rivals.now c.args.candidates.now c.loop-class.candidates c.requires.have c.loop-class.invariant.count

pub put_candidate-requires-clause-known : goal.put_candidate-requires-clause-known
put_candidate-requires-clause-known c =
    omega (arith, c.requires.known c.loop-class.class-index 0 (omega (arith, c.loop-class-test.true)), c.loop-class.invariant.count)

pub loop-class-preserved : goal.loop-class-preserved
loop-class-preserved c =
    puts-next _ _ _ (drop c.loop-class.class-index c.args.classes.now) _ _ _ _ _
    (left-next c.args.classes.now c.loop-class.class-index _ (omega (arith, c.loop-class-test.true)) refl)
    c.loop-class.invariant c.put_candidate.ensures

pub returns : goal.returns
returns c =
    puts-end _ _ _ (drop c.loop-class.class-index c.args.classes.now) _ _
    (left-end c.args.classes.now c.loop-class.class-index (omega (arith, c.loop-class-test.false))) c.loop-class.invariant
