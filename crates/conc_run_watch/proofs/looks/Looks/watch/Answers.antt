use Rattle.std.proofs.Common.{false, refl, subst, sym}
use Rattle.std.proofs.lemmas.Bool.{both_ways}
use Rattle.conc_run_watch.specs.Looks.{HasLooked}
use Rattle.conc_run_watch.proofs.Going.{goes_more, goes_none, has_looked}
use Rattle.conc_run_watch.proofs.looks.Looks.watch.Goals as goal
use Rattle.conc_run_watch.proofs.looks.Looks.watch.Goals.{in-None, in-Some+then-is_over}

pub loop-init : goal.loop-init
loop-init g c = goes_none c.args.self.now

pub loop-preserved : goal.loop-preserved
loop-preserved g c = goes_more c.args.self.now c.loop.self c.look.new.self c.loop.invariant c.look.ensures.plan c.look.ensures.begins c.look.ensures.kept

pub returns : goal.returns
returns g c =
    elim c.match-next.branch [
      | in-None w ↦ absurd (both_ways false refl w.in-None.ensures.steps)
      | in-Some+then-is_over w ↦
          subst (λ after. HasLooked c.args.self.now after) (sym w.self-is)
          (has_looked c.args.self.now c.loop.self w.look.new.self c.loop.invariant w.look.ensures.plan w.look.ensures.begins w.look.ensures.kept)
    ]
