use Rattle.std.proofs.Common.{sym, ◌∙◌}
use Rattle.conc_repeat.proofs.DuesPushed.{all_pushed, none_pushed, one_pushed, passed_over}
use Rattle.conc_repeat.proofs.dues.push_dues.Goals as goal
use Rattle.conc_repeat.proofs.dues.push_dues.Goals.{in-Some+in_ok-push, in_default}

pub loop-k-init : goal.loop-k-init
loop-k-init c = none_pushed c.args.place c.args.course.now _

pub loop-k-preserved : goal.loop-k-preserved
loop-k-preserved c =
    elim c.match-moment.branch [
      | in-Some+in_ok-push w ↦ rw w.dues-is
          (one_pushed c.args.place c.args.course.now c.loop-k.k w.in-Some.at c.args.dues.now.items _ _ w.in-Some.ensures c.loop-k.invariant w.in_ok-push.ensures.items)
      | in_default w ↦ rw w.dues-is (passed_over c.args.place c.args.course.now c.loop-k.k c.args.dues.now.items _ (sym w.in_default.is ∙ c.moment.ensures) c.loop-k.invariant)
    ]

pub returns : goal.returns
returns c = all_pushed c.args.place c.args.course.now c.loop-k.k c.args.dues.now.items _ c.loop-k.auto.k-end c.loop-k-test.false c.loop-k.invariant
