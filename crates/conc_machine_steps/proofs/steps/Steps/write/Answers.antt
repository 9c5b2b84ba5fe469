use Rattle.std.proofs.Common.{sym, ◌∙◌, ap, subst}
use Rattle.conc_base_law.specs.Next.{has_step}
use Rattle.conc_event_queue.proofs.Maps.{request_at_place}
use Rattle.conc_machine_steps.specs.Slots.{HasSlot, refreshed}
use Rattle.conc_machine_steps.proofs.Numbers.{HasSlot-numbers_of, HasSlot-refreshed}
use Rattle.conc_machine_steps.proofs.Written.{parent_there, steps_written, steps_written_member, written_read}
use Rattle.conc_machine_steps.proofs.steps.Steps.write.Goals as goal

pub refresh-requires-clause-slot : goal.refresh-requires-clause-slot
refresh-requires-clause-slot c =
    let plan = c.args.plan.now in
    let related = c.requires.related in
    let r = c.index-as_slice-i.result in
    let at = written_read plan related.0 c.args.after.now c.args.i c.args._old related.1 c.as_slice.result.now c.as_slice.ensures r c.index-as_slice-i.is in
    HasSlot-numbers_of plan (has_step plan related.0) c.args.self.now.due related.2.due r (request_at_place plan c.args.i r at).1

pub refresh-requires-in-Some-clause-slot : goal.refresh-requires-in-Some-clause-slot
refresh-requires-in-Some-clause-slot c =
    let plan = c.args.plan.now in
    let related = c.requires.related in
    let r = c.index-as_slice-i.result in
    let set = c.in-Some.set.now in
    subst (λ due. HasSlot due set) (sym c.refresh.ensures)
    (HasSlot-refreshed c.args.self.now.due r (has_step plan c.args.after.now r) set
    (HasSlot-numbers_of plan (has_step plan related.0) c.args.self.now.due related.2.due set (parent_there plan r set (sym c.in-Some.ensures))))

pub returns-in-Some : goal.returns-in-Some
returns-in-Some c = λ before written are.
    let r = c.index-as_slice-i.result in
    steps_written_member c.args.plan.now before c.args.after.now c.args.i c.args._old written r c.in-Some.set.now
    (written_read c.args.plan.now before c.args.after.now c.args.i c.args._old written c.as_slice.result.now c.as_slice.ensures r c.index-as_slice-i.is)
    (sym c.in-Some.ensures) c.args.self.now c.refresh-in-Some.new.self are
    (c.refresh-in-Some.ensures
    ∙ ap (λ slots. refreshed slots c.in-Some.set.now (has_step c.args.plan.now c.args.after.now c.in-Some.set.now)) c.refresh.ensures)

pub returns-in_default : goal.returns-in_default
returns-in_default c = λ before written are.
    let r = c.index-as_slice-i.result in
    steps_written c.args.plan.now before c.args.after.now c.args.i c.args._old written r
    (written_read c.args.plan.now before c.args.after.now c.args.i c.args._old written c.as_slice.result.now c.as_slice.ensures r c.index-as_slice-i.is)
    (sym c.in_default.ensures) c.args.self.now c.refresh.new.self are c.refresh.ensures
