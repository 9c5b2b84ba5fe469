use Rattle.std.proofs.Common.{inl, sym, ◌∙◌, ◌≡◌, reverse, ap, subst, List}
use Rattle.std.proofs.lemmas.Result.{err_from_is_err_and}
use Rattle.conc_types.specs.declared.event.Event.{Event}
use Rattle.conc_base_law.specs.Alone.{opening}
use Rattle.conc_base_law.specs.Law.{LawfulSoFar}
use Rattle.conc_base_law.specs.State.{used}
use Rattle.conc_restart.specs.Machines.{StandsFor}
use Rattle.conc_run_state.specs.Inputs.{AreStampsOf}
use Rattle.conc_run_open.proofs.Counting.{counted-is}
use Rattle.conc_run_open.proofs.Preparing.{cannot_begin-bad, cannot_begin-full}
use Rattle.conc_run_open.proofs.examining.prepare.Goals as goal

pub returns-in_err-machine-clause-cannot_begin : goal.returns-in_err-machine-clause-cannot_begin
returns-in_err-machine-clause-cannot_begin c =
    let p = err_from_is_err_and c.from_residual.result c.from_residual.ensures.1 in
    rw (p.1, p.2) (cannot_begin-bad c.args.input.now.plan.now c.args.input.now.readings.now.list c.args.opened.journal.events.items c.events.result.now c.args.opened.broken _ c.events.ensures c.in_err-machine.ensures.refused)

pub returns-in_err-make_room-clause-cannot_begin : goal.returns-in_err-make_room-clause-cannot_begin
returns-in_err-make_room-clause-cannot_begin c =
    let p = err_from_is_err_and c.from_residual-in_err-make_room.result c.from_residual-in_err-make_room.ensures.1 in
    rw (p.1, p.2)
    (cannot_begin-full c.args.input.now.plan.now c.args.input.now.readings.now.list c.args.opened.journal.events.items c.events.result.now c.args.opened.broken _ c.events.ensures c.in_ok-machine.ensures.lawful_so_far c.in_ok-machine.ensures.whole
    c.in_err-make_room.ensures.lacks_room)

pub returns-in_err-due-clause-cannot_begin : goal.returns-in_err-due-clause-cannot_begin
returns-in_err-due-clause-cannot_begin c =
    let p = err_from_is_err_and c.from_residual-in_err-due.result c.from_residual-in_err-due.ensures.1 in
    rw (p.1, p.2) (inl (λ len far. tt))

pub returns-in_err-begin_life-clause-cannot_begin : goal.returns-in_err-begin_life-clause-cannot_begin
returns-in_err-begin_life-clause-cannot_begin c =
    let p = err_from_is_err_and c.from_residual-in_err-begin_life.result c.from_residual-in_err-begin_life.ensures.1 in
    rw (p.1, p.2) (inl (λ len far. tt))

pub returns-clause-ready : goal.returns-clause-ready
returns-clause-ready c =
    let plan = c.args.input.now.plan.now in
    let events = c.args.opened.journal.events.items in
    let list : c.make_room.new.journal.events.items ≡ events = c.make_room.ensures.list in
    let so_far : LawfulSoFar plan events = subst (LawfulSoFar plan) c.events.ensures c.in_ok-machine.ensures.lawful_so_far in
    record {
      plan_is = c.begin_life.ensures.plan ∙ c.in_ok-machine.ensures.plan;
      readings_are = c.in_ok-begin_life.ensures.readings;
      stands = subst (λ (l : List Event). StandsFor c.begin_life.new.machine (reverse (opening l))) c.events-3.ensures c.in_ok-begin_life.ensures.stands;
      so_far = subst (LawfulSoFar plan) (sym list) so_far;
      room = c.in_ok-make_room.ensures.room;
      used_is = c.requires.spool ∙ counted-is plan events so_far ∙ ap (λ (l : List Event). used (reverse l)) (sym list);
      due = subst (λ (l : List Event). AreStampsOf plan l c.in_ok-due.due.items) c.events-2.ensures c.in_ok-due.ensures;
    }
