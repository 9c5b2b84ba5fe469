use Rattle.std.proofs.Common.{arith, subst, sym}
use Rattle.conc_history_check.specs.Active.{AreDoneBefore}
use Rattle.conc_history_check.specs.Coming.{AreComing}
use Rattle.conc_history_check.specs.Marks.{HaveRoom, KeepsMarks}
use Rattle.conc_history_check.proofs.After.{marks-after}
use Rattle.conc_history_check.proofs.Quiet.{quiet-after}
use Rattle.conc_history_check.proofs.Undone.{done-after}
use Rattle.conc_history_check.proofs.findings.Findings.read.Goals as goal

pub narrowed-self-requires-clause-quiet : goal.narrowed-self-requires-clause-quiet
narrowed-self-requires-clause-quiet c =
    quiet-after c.args.plan.now c.args.e.now c.args.self.now.state c.take_in.new.self.state c.args.self.now.active c.reach_in_life-reached.result c.cover-touched.result
    c.requires.active.quiet (c.reach_in_life-reached.ensures.leaves _ c.requires.prepared.spans c.requires.started) c.cover-touched.ensures c.take_in.ensures.after

pub narrowed-self-requires-clause-inside : goal.narrowed-self-requires-clause-inside
narrowed-self-requires-clause-inside c =
    omega (
      arith,
      c.cover-touched.ensures.inside,
      c.requires.active.inside,
      c.reach_in_life-reached.ensures.inside c.requires.prepared.spans c.requires.started.inside,
    )

pub first_undone-self-requires : goal.first_undone-self-requires
first_undone-self-requires c =
    subst (λ n. AreDoneBefore c.take_in.new.self.state n) (sym c.take_in.ensures.undone)
    (done-after c.args.plan.now c.args.e.now c.args.self.now.state c.take_in.new.self.state c.args.self.now.undone c.requires.undone.before c.take_in.ensures.after)

pub put_around-requires-clause-room : goal.put_around-requires-clause-room
put_around-requires-clause-room c =
    subst (λ m. HaveRoom c.args.plan.now c.args.prepared.now.classes m) (sym c.take_in.ensures.marks) c.requires.room

pub put_around-requires-clause-inside : goal.put_around-requires-clause-inside
put_around-requires-clause-inside c = c.reach_in_life-reached.ensures.inside c.requires.prepared.spans c.requires.started.inside

pub come-requires-clause-coming : goal.come-requires-clause-coming
come-requires-clause-coming c = subst (AreComing c.args.plan.now c.args.self.now.state.time) (sym c.take_in.ensures.coming) c.requires.coming

pub returns : goal.returns
returns c = λ past are.
    let taken = c.take_in.ensures.read past are.taken in record {
      taken = record { state = taken.state; earlier = taken.earlier; ticks = taken.ticks };
      marks =
          marks-after c.args.plan.now c.args.prepared.now.classes c.args.e.now c.args.self.now.state c.take_in.new.self.state c.reach_in_life-reached.result
          c.args.self.now.marks c.put_around.new.self c.come.new.marks (c.reach_in_life-reached.ensures.leaves _ c.requires.prepared.spans c.requires.started) c.take_in.ensures.after are.marks
          c.come.ensures.room (subst (λ m. KeepsMarks c.args.plan.now c.args.prepared.now.classes c.take_in.new.self.state m c.put_around.new.self) c.take_in.ensures.marks c.put_around.ensures.kept) c.put_around.ensures.around c.come.ensures.kept c.come.ensures.since;
      coming = c.come.ensures.coming;
      active = c.narrowed-self.ensures;
      undone = c.first_undone-self.ensures;
      started = c.take_in.ensures.started;
    }
