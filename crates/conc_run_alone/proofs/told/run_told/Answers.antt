use Rattle.std.proofs.Common.{rules, Option, Some, IfSome, inl, inr, ◌≡◌, List, Result, Ok, Err, refl, sym, ◌∙◌, ap, subst}
use Rattle.std.proofs.lemmas.Result.{err_from_is_err_and}
use Rattle.conc_run_state.specs.Disks.{disks}
use Rattle.conc_types.specs.declared.event.Event.{Event}
use Rattle.conc_journal.specs.Receipts.{IsNextOf}
use Rattle.conc_journal.specs.declared.receipt.Receipt.{Receipt}
use Rattle.conc_run_state.specs.Lists.{GoesOnAlone}
use Rattle.conc_run_state.specs.Works.{list_in}
use Rattle.conc_run_steps.specs.Steps.{plan_in, readings_in}
use Rattle.conc_run_state.specs.declared.error.RunFail.{RunFail}
use Rattle.conc_run_state.specs.declared.error.RunFail.TheVariants as run_fail
use Rattle.conc_run_steps.specs.Told.{IsTold}
use Rattle.conc_run_alone.specs.Runs.{LacksMemory}
use Rattle.conc_run_alone.proofs.Following.{follows-further, follows-none}
use Rattle.conc_run_steps.proofs.Going.{sound-longest}
use Rattle.conc_run_steps.proofs.Coming.{lawful-past}
use Rattle.conc_run_steps.proofs.Telling.{next-of, told-more, untold}
use Rattle.conc_run_steps.proofs.Underway.{by-first, underway-more, underway-still, went-further}
use Rattle.conc_run_alone.proofs.told.run_told.Goals as goal

not-both : {T E : Type 0} (x : T) (e : E) → Ok x ≡ Err e → ⊥
not-both x e is = cc

same-err : {T E : Type 0} (r : Result T E) (x y : E) → r ≡ Err x → r ≡ Err y → x ≡ y
same-err (Ok t) x y a b = cc
same-err (Err e) x y a b = cc

pub returns-in_err-receipt-clause-went_on : goal.returns-in_err-receipt-clause-went_on
returns-in_err-receipt-clause-went_on g c =
    went-further c.args.work.now c.loop-receipt.work c.step.new.work (g.D.Disk.state c.args.journal.now) (g.D.Disk.state c.loop-receipt.journal) (g.D.Disk.state c.step.new.journal)
    (g.E.Disk.state c.args.spool.now) (g.E.Disk.state c.loop-receipt.spool) (g.E.Disk.state c.step.new.spool) c.loop-receipt.invariant.under c.step.ensures.went_on

pub returns-in_err-receipt-clause-memory : goal.returns-in_err-receipt-clause-memory
returns-in_err-receipt-clause-memory g c = λ is.
    let p = err_from_is_err_and c.from_residual.result c.from_residual.ensures.1 in
    let lacks = c.in_err-receipt.ensures.memory (ap (λ (e : RunFail). Err e) (sym p.2 ∙ same-err c.from_residual.result p.0 run_fail.NoMemory p.1 is)) in
    let went = went-further c.args.work.now c.loop-receipt.work c.step.new.work (g.D.Disk.state c.args.journal.now) (g.D.Disk.state c.loop-receipt.journal) (g.D.Disk.state c.step.new.journal)
    (g.E.Disk.state c.args.spool.now) (g.E.Disk.state c.loop-receipt.spool) (g.E.Disk.state c.step.new.spool) c.loop-receipt.invariant.under c.step.ensures.went_on in
    inl (by-first c.args.work.now c.step.new.work (disks (g.D.Disk.state c.args.journal.now) (g.D.Disk.state c.step.new.journal) (g.E.Disk.state c.args.spool.now) (g.E.Disk.state c.step.new.spool)) went
    (λ plan readings. LacksMemory plan readings (list_in c.step.new.work)) lacks)

pub loop-receipt-init : goal.loop-receipt-init
loop-receipt-init g c =
    let journal = g.D.Disk.state c.args.journal.now in
    let spool = g.E.Disk.state c.args.spool.now in
    let left = g.met.E.Disk.seen_is_left c.args.spool.now in record {
      under = underway-still c.args.work.now journal spool c.requires.ready left;
      alone = follows-none (plan_in c.args.work.now) (readings_in c.args.work.now) (list_in c.args.work.now) (list_in c.args.work.now) refl;
      is_told = c.requires.told;
    }

pub loop-receipt-preserved : goal.loop-receipt-preserved
loop-receipt-preserved g c =
    let ready = c.in_ok-receipt.ensures.ready in record {
      under = underway-more c.args.work.now c.loop-receipt.work c.step.new.work (g.D.Disk.state c.args.journal.now) (g.D.Disk.state c.loop-receipt.journal) (g.D.Disk.state c.step.new.journal)
          (g.E.Disk.state c.args.spool.now) (g.E.Disk.state c.loop-receipt.spool) (g.E.Disk.state c.step.new.spool) c.loop-receipt.invariant.under c.step.ensures.went_on ready (c.in_ok-receipt.ensures.sound (λ fault. not-both c.in_ok-receipt.field-0 _ fault));
      alone = subst (λ (l : List Event). GoesOnAlone (plan_in c.args.work.now) (readings_in c.args.work.now) (list_in c.args.work.now) l) (sound-longest c.step.new.work ready.sound)
          (follows-further c.args.work.now c.loop-receipt.work c.step.new.work (disks (g.D.Disk.state c.args.journal.now) (g.D.Disk.state c.loop-receipt.journal) (g.E.Disk.state c.args.spool.now) (g.E.Disk.state c.loop-receipt.spool))
          (disks (g.D.Disk.state c.loop-receipt.journal) (g.D.Disk.state c.step.new.journal) (g.E.Disk.state c.loop-receipt.spool) (g.E.Disk.state c.step.new.spool)) c.loop-receipt.invariant.under.went c.step.ensures.went_on c.loop-receipt.invariant.alone c.step.ensures.alone);
      is_told = told-more (g.T.Teller.list c.loop-receipt.teller) (g.T.Teller.list c.tell.new.teller) (g.T.Teller.takes c.loop-receipt.teller) (g.T.Teller.takes c.tell.new.teller) (plan_in c.args.work.now) (list_in c.loop-receipt.work) (list_in c.step.new.work)
          c.loop-receipt.invariant.is_told c.tell.ensures.takes c.in-Some.receipt c.in_ok-tell.ensures.told (subst (λ (o : Option Receipt). IfSome o (IsNextOf (Some (list_in c.loop-receipt.work)) (λ list. list ≡ list_in c.step.new.work))) c.in-Some.is c.in_ok-receipt.ensures.receipt).1;
    }

pub returns-clause-went_on : goal.returns-clause-went_on
returns-clause-went_on g c =
    went-further c.args.work.now c.loop-receipt.work c.step.new.work (g.D.Disk.state c.args.journal.now) (g.D.Disk.state c.loop-receipt.journal) (g.D.Disk.state c.step.new.journal)
    (g.E.Disk.state c.args.spool.now) (g.E.Disk.state c.loop-receipt.spool) (g.E.Disk.state c.step.new.spool) c.loop-receipt.invariant.under c.step.ensures.went_on

pub returns-in_err-receipt-clause-alone : goal.returns-in_err-receipt-clause-alone
returns-in_err-receipt-clause-alone g c =
    follows-further c.args.work.now c.loop-receipt.work c.step.new.work (disks (g.D.Disk.state c.args.journal.now) (g.D.Disk.state c.loop-receipt.journal) (g.E.Disk.state c.args.spool.now) (g.E.Disk.state c.loop-receipt.spool))
    (disks (g.D.Disk.state c.loop-receipt.journal) (g.D.Disk.state c.step.new.journal) (g.E.Disk.state c.loop-receipt.spool) (g.E.Disk.state c.step.new.spool)) c.loop-receipt.invariant.under.went c.step.ensures.went_on c.loop-receipt.invariant.alone c.step.ensures.alone

pub returns-clause-alone : goal.returns-clause-alone
returns-clause-alone g c =
    follows-further c.args.work.now c.loop-receipt.work c.step.new.work (disks (g.D.Disk.state c.args.journal.now) (g.D.Disk.state c.loop-receipt.journal) (g.E.Disk.state c.args.spool.now) (g.E.Disk.state c.loop-receipt.spool))
    (disks (g.D.Disk.state c.loop-receipt.journal) (g.D.Disk.state c.step.new.journal) (g.E.Disk.state c.loop-receipt.spool) (g.E.Disk.state c.step.new.spool)) c.loop-receipt.invariant.under.went c.step.ensures.went_on c.loop-receipt.invariant.alone c.step.ensures.alone

-- ---- telling

pub tell-requires : goal.tell-requires
tell-requires g c =
    let went = went-further c.args.work.now c.loop-receipt.work c.step.new.work (g.D.Disk.state c.args.journal.now) (g.D.Disk.state c.loop-receipt.journal) (g.D.Disk.state c.step.new.journal)
    (g.E.Disk.state c.args.spool.now) (g.E.Disk.state c.loop-receipt.spool) (g.E.Disk.state c.step.new.spool) c.loop-receipt.invariant.under c.step.ensures.went_on in
    next-of (g.T.Teller.list c.loop-receipt.teller) (g.T.Teller.takes c.loop-receipt.teller) (plan_in c.args.work.now) (list_in c.loop-receipt.work) (list_in c.step.new.work) c.in-Some.receipt c.loop-receipt.invariant.is_told
    (lawful-past (plan_in c.args.work.now) c.step.new.work.machine (readings_in c.args.work.now) (list_in c.step.new.work) went.tied.readings_are went.tied.lawful) (subst (λ (o : Option Receipt). IfSome o (IsNextOf (Some (list_in c.loop-receipt.work)) (λ list. list ≡ list_in c.step.new.work))) c.in-Some.is c.in_ok-receipt.ensures.receipt)

pub returns-in_err-tell-clause-went_on : goal.returns-in_err-tell-clause-went_on
returns-in_err-tell-clause-went_on g c =
    went-further c.args.work.now c.loop-receipt.work c.step.new.work (g.D.Disk.state c.args.journal.now) (g.D.Disk.state c.loop-receipt.journal) (g.D.Disk.state c.step.new.journal)
    (g.E.Disk.state c.args.spool.now) (g.E.Disk.state c.loop-receipt.spool) (g.E.Disk.state c.step.new.spool) c.loop-receipt.invariant.under c.step.ensures.went_on

pub returns-in_err-tell-clause-alone : goal.returns-in_err-tell-clause-alone
returns-in_err-tell-clause-alone g c =
    follows-further c.args.work.now c.loop-receipt.work c.step.new.work (disks (g.D.Disk.state c.args.journal.now) (g.D.Disk.state c.loop-receipt.journal) (g.E.Disk.state c.args.spool.now) (g.E.Disk.state c.loop-receipt.spool))
    (disks (g.D.Disk.state c.loop-receipt.journal) (g.D.Disk.state c.step.new.journal) (g.E.Disk.state c.loop-receipt.spool) (g.E.Disk.state c.step.new.spool)) c.loop-receipt.invariant.under.went c.step.ensures.went_on c.loop-receipt.invariant.alone c.step.ensures.alone

pub returns-in_err-tell-clause-memory : goal.returns-in_err-tell-clause-memory
returns-in_err-tell-clause-memory g c = λ is.
    inr (
      c.in_err-tell.ensures.lacked,
      untold (g.T.Teller.list c.loop-receipt.teller) (g.T.Teller.list c.tell.new.teller) (g.T.Teller.takes c.loop-receipt.teller) (plan_in c.args.work.now) (list_in c.loop-receipt.work) (list_in c.step.new.work) _
          c.loop-receipt.invariant.is_told c.in_err-tell.ensures.unchanged (sym (subst (λ (o : Option Receipt). IfSome o (IsNextOf (Some (list_in c.loop-receipt.work)) (λ list. list ≡ list_in c.step.new.work))) c.in-Some.is c.in_ok-receipt.ensures.receipt).1),
    )

pub returns-clause-told : goal.returns-clause-told
returns-clause-told g c =
    let same : list_in c.step.new.work ≡ list_in c.loop-receipt.work = search (rules, c.in_ok-receipt.ensures.still) in
    subst (λ (l : List Event). IsTold (g.T.Teller.list c.loop-receipt.teller) (g.T.Teller.takes c.loop-receipt.teller) (plan_in c.args.work.now) l) (sym same) c.loop-receipt.invariant.is_told
