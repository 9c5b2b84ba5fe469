use Rattle.std.proofs.Common.{◌∙◌, ap}
use Rattle.conc_base_law.specs.Next.{is_left_running, runs_somewhere}
use Rattle.conc_event_queue.proofs.Maps.{request_at_place}
use Rattle.conc_machine_steps.specs.Slots.{refreshed}
use Rattle.conc_machine_steps.proofs.Numbers.{HasSlot-numbers_of}
use Rattle.conc_machine_steps.proofs.Written.{running_written, written_read}
use Rattle.conc_machine_steps.proofs.running.Running.write.Goals as goal

pub refresh-requires : goal.refresh-requires
refresh-requires c =
    let plan = c.args.plan.now in
    let r = c.index-as_slice-i.result in
    let at = written_read plan c.requires.0 c.args.after.now c.args.i c.args._old c.requires.1 c.as_slice.result.now c.as_slice.ensures r c.index-as_slice-i.is in
    HasSlot-numbers_of plan (runs_somewhere c.requires.0) c.args.self.now.all c.requires.2.all r (request_at_place plan c.args.i r at).1

pub refresh-requires-2 : goal.refresh-requires-2
refresh-requires-2 c =
    let plan = c.args.plan.now in
    let r = c.index-as_slice-i.result in
    let at = written_read plan c.requires.0 c.args.after.now c.args.i c.args._old c.requires.1 c.as_slice.result.now c.as_slice.ensures r c.index-as_slice-i.is in
    HasSlot-numbers_of plan (is_left_running c.requires.0) c.args.self.now.left c.requires.2.left r (request_at_place plan c.args.i r at).1

pub returns : goal.returns
returns c = λ before written are.
    let r = c.index-as_slice-i.result in
    running_written c.args.plan.now before c.args.after.now c.args.i c.args._old written r
    (written_read c.args.plan.now before c.args.after.now c.args.i c.args._old written c.as_slice.result.now c.as_slice.ensures r c.index-as_slice-i.is)
    c.args.self.now record { all = c.refresh.new.slots; left = c.refresh-2.new.slots } are
    (c.refresh.ensures ∙ ap (refreshed c.args.self.now.all r) c.runs_somewhere.ensures)
    (c.refresh-2.ensures ∙ ap (refreshed c.args.self.now.left r) c.is_left_running.ensures)
