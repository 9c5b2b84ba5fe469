use Rattle.std.proofs.Common.{length, map, ◌∙◌, ap}
use Rattle.conc_event_classes.specs.Classes.{class_at, slot_at}
use Rattle.conc_machine_release.specs.Refresh.{key}
use Rattle.conc_machine_release.proofs.Slots.{HaveSlots-put_in}
use Rattle.conc_machine_release.proofs.renewal.renew.Goals as goal

pub renew_within-requires-clause-slots : goal.renew_within-requires-clause-slots
renew_within-requires-clause-slots c =
    ap (map length) c.refresh_request.ensures
    ∙ HaveSlots-put_in c.args.position.classes.now c.args.queues.now.items (class_at c.args.position.classes.now c.args.r.now) (slot_at c.args.position.classes.now c.args.r.now)
    (key c.args.position.plan.now c.args.position.state.now c.args.r.now) c.requires.slots
