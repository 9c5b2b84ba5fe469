use Rattle.std.proofs.Common.{◌≡◌, ◌+◌, ◌-◌, refl, arith}
use Rattle.conc_show_model.proofs.LastTurns.{says_more, says_none}
use Rattle.conc_show_model.proofs.turns.turn_of.Goals as goal

pub loop-i-init : goal.loop-i-init
loop-i-init c = says_none c.args.request _ c.args.events.now _ _ (omega arith) refl refl

pub loop-i-preserved : goal.loop-i-preserved
loop-i-preserved c =
    let before = c.loop-i.i - 1 in
    let next : before + 1 ≡ c.loop-i.i = omega arith in
    says_more c.args.request before c.args.events.now _ c.loop-i.later.turn c.with-later.result.turn c.loop-i.later.begun c.with-later.result.begun c.loop-i.later.end c.with-later.result.end
    (omega arith) c.index-events-i.is (rw next c.loop-i.invariant) c.with-later.ensures.turn c.with-later.ensures.begun c.with-later.ensures.end
