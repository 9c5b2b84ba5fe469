use Rattle.std.proofs.Common.{refl, ◌∙◌, ap, Bool, get_or, arith}
use Rattle.std.specs.Prelude.{Option, None, not}
use Rattle.conc_types.specs.declared.event.RequestId.{RequestId}
use Rattle.conc_show_plan.proofs.Told.{told_all, told_member, told_none, told_own}
use Rattle.conc_show_plan.proofs.plans.plan_requests.Goals as goal
use Rattle.conc_show_plan.proofs.plans.plan_requests.Goals.{then-is_none, else-is_none}

pub loop-i-init : goal.loop-i-init
loop-i-init c = (told_none c.args.sets.now c.args.submits.now c.new-planned.result.items c.new-planned.ensures.items, omega arith)

pub loop-i-preserved : goal.loop-i-preserved
loop-i-preserved c =
    let sets = c.args.sets.now in
    let submits = c.args.submits.now in
    let planned = c.loop-i.planned.items in
    let set : Option RequestId = get_or sets c.loop-i.i None in
    elim c.if-is_none.branch [
      | then-is_none w ↦ (
        told_own sets submits planned c.push.new.self.items c.loop-i.i c.loop-i.taken c.if-is_none.taken c.loop-i.command c.if-is_none.command set
            c.loop-i.invariant.0 (omega arith) refl (c.is_none.ensures ∙ ap (λ (b : Bool). not b) w.if-is_none.true) (w.command-is ∙ w.command_at-command.ensures) w.taken-is c.in_ok-push.ensures.items,
        omega (arith, c.loop-i.invariant.1, w.taken-is),
      )
      | else-is_none w ↦ rw (w.command-is, w.taken-is) (
        told_member sets submits planned c.push.new.self.items c.loop-i.i c.loop-i.taken c.loop-i.command set
            c.loop-i.invariant.0 (omega arith) refl (c.is_none.ensures ∙ ap (λ (b : Bool). not b) w.if-is_none.false) (rw w.command-is at c.in_ok-push.ensures.items),
        omega (arith, c.loop-i.invariant.1, w.taken-is),
      )
    ]

pub returns : goal.returns
returns c = told_all c.args.sets.now c.args.submits.now c.loop-i.planned.items c.loop-i.i c.loop-i.taken c.loop-i.command c.loop-i.invariant.0 (omega arith)
