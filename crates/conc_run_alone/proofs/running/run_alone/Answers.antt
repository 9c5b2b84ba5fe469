use Rattle.std.proofs.Common.{◌≡◌, List, Result, Ok, Err, refl, sym, ◌∙◌, ap, subst}
use Rattle.std.proofs.lemmas.Result.{err_from_is_err_and}
use Rattle.conc_run_state.specs.Disks.{disks}
use Rattle.conc_types.specs.declared.event.Event.{Event}
use Rattle.conc_run_state.specs.Lists.{GoesOnAlone}
use Rattle.conc_run_state.specs.Works.{list_in}
use Rattle.conc_run_steps.specs.Steps.{plan_in, readings_in}
use Rattle.conc_run_state.specs.declared.error.RunFail.{RunFail}
use Rattle.conc_run_state.specs.declared.error.RunFail.TheVariants as run_fail
use Rattle.conc_run_alone.specs.Runs.{LacksMemory}
use Rattle.conc_run_alone.proofs.Following.{follows-further, follows-none}
use Rattle.conc_run_steps.proofs.Going.{sound-longest}
use Rattle.conc_run_steps.proofs.Underway.{by-first, underway-more, underway-still, went-further}
use Rattle.conc_run_alone.proofs.running.run_alone.Goals as goal

not-both : {T E : Type 0} (x : T) (e : E) → Ok x ≡ Err e → ⊥
not-both x e is = cc

same-err : {T E : Type 0} (r : Result T E) (x y : E) → r ≡ Err x → r ≡ Err y → x ≡ y
same-err (Ok t) x y a b = cc
same-err (Err e) x y a b = cc

pub returns-in_err-step-clause-went_on : goal.returns-in_err-step-clause-went_on
returns-in_err-step-clause-went_on g c =
    went-further c.args.work.now c.loop.work c.step.new.work (g.D.Disk.state c.args.journal.now) (g.D.Disk.state c.loop.journal) (g.D.Disk.state c.step.new.journal)
    (g.E.Disk.state c.args.spool.now) (g.E.Disk.state c.loop.spool) (g.E.Disk.state c.step.new.spool) c.loop.invariant.under c.step.ensures.went_on

pub returns-in_err-step-clause-memory : goal.returns-in_err-step-clause-memory
returns-in_err-step-clause-memory g c = λ is.
    let p = err_from_is_err_and c.from_residual.result c.from_residual.ensures.1 in
    let lacks = c.in_err-step.ensures.memory (ap (λ (e : RunFail). Err e) (sym p.2 ∙ same-err c.from_residual.result p.0 run_fail.NoMemory p.1 is)) in
    let went = went-further c.args.work.now c.loop.work c.step.new.work (g.D.Disk.state c.args.journal.now) (g.D.Disk.state c.loop.journal) (g.D.Disk.state c.step.new.journal)
    (g.E.Disk.state c.args.spool.now) (g.E.Disk.state c.loop.spool) (g.E.Disk.state c.step.new.spool) c.loop.invariant.under c.step.ensures.went_on in
    by-first c.args.work.now c.step.new.work (disks (g.D.Disk.state c.args.journal.now) (g.D.Disk.state c.step.new.journal) (g.E.Disk.state c.args.spool.now) (g.E.Disk.state c.step.new.spool)) went
    (λ plan readings. LacksMemory plan readings (list_in c.step.new.work)) lacks

pub loop-init : goal.loop-init
loop-init g c =
    let journal = g.D.Disk.state c.args.journal.now in
    let spool = g.E.Disk.state c.args.spool.now in
    let left = g.met.E.Disk.seen_is_left c.args.spool.now in record {
      under = underway-still c.args.work.now journal spool c.requires.ready left;
      alone = follows-none (plan_in c.args.work.now) (readings_in c.args.work.now) (list_in c.args.work.now) (list_in c.args.work.now) refl;
    }

pub loop-preserved : goal.loop-preserved
loop-preserved g c =
    let ready = c.in_ok-step.ensures.ready in record {
      under = underway-more c.args.work.now c.loop.work c.step.new.work (g.D.Disk.state c.args.journal.now) (g.D.Disk.state c.loop.journal) (g.D.Disk.state c.step.new.journal)
          (g.E.Disk.state c.args.spool.now) (g.E.Disk.state c.loop.spool) (g.E.Disk.state c.step.new.spool) c.loop.invariant.under c.step.ensures.went_on ready (c.in_ok-step.ensures.sound (λ fault. not-both c.in_ok-step.field-0 _ fault));
      alone = subst (λ (l : List Event). GoesOnAlone (plan_in c.args.work.now) (readings_in c.args.work.now) (list_in c.args.work.now) l) (sound-longest c.step.new.work ready.sound)
          (follows-further c.args.work.now c.loop.work c.step.new.work (disks (g.D.Disk.state c.args.journal.now) (g.D.Disk.state c.loop.journal) (g.E.Disk.state c.args.spool.now) (g.E.Disk.state c.loop.spool))
          (disks (g.D.Disk.state c.loop.journal) (g.D.Disk.state c.step.new.journal) (g.E.Disk.state c.loop.spool) (g.E.Disk.state c.step.new.spool)) c.loop.invariant.under.went c.step.ensures.went_on c.loop.invariant.alone c.step.ensures.alone);
    }

pub returns-clause-went_on : goal.returns-clause-went_on
returns-clause-went_on g c =
    went-further c.args.work.now c.loop.work c.step.new.work (g.D.Disk.state c.args.journal.now) (g.D.Disk.state c.loop.journal) (g.D.Disk.state c.step.new.journal)
    (g.E.Disk.state c.args.spool.now) (g.E.Disk.state c.loop.spool) (g.E.Disk.state c.step.new.spool) c.loop.invariant.under c.step.ensures.went_on

pub returns-in_err-step-clause-alone : goal.returns-in_err-step-clause-alone
returns-in_err-step-clause-alone g c =
    follows-further c.args.work.now c.loop.work c.step.new.work (disks (g.D.Disk.state c.args.journal.now) (g.D.Disk.state c.loop.journal) (g.E.Disk.state c.args.spool.now) (g.E.Disk.state c.loop.spool))
    (disks (g.D.Disk.state c.loop.journal) (g.D.Disk.state c.step.new.journal) (g.E.Disk.state c.loop.spool) (g.E.Disk.state c.step.new.spool)) c.loop.invariant.under.went c.step.ensures.went_on c.loop.invariant.alone c.step.ensures.alone

pub returns-clause-alone : goal.returns-clause-alone
returns-clause-alone g c =
    follows-further c.args.work.now c.loop.work c.step.new.work (disks (g.D.Disk.state c.args.journal.now) (g.D.Disk.state c.loop.journal) (g.E.Disk.state c.args.spool.now) (g.E.Disk.state c.loop.spool))
    (disks (g.D.Disk.state c.loop.journal) (g.D.Disk.state c.step.new.journal) (g.E.Disk.state c.loop.spool) (g.E.Disk.state c.step.new.spool)) c.loop.invariant.under.went c.step.ensures.went_on c.loop.invariant.alone c.step.ensures.alone
