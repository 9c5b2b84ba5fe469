use Rattle.std.proofs.Common.{◌≡◌, ◌+◌, length, set, drop, ◌∙◌, ap, arith}
use Rattle.std.specs.Vec.{with_item}
use Rattle.std.proofs.lemmas.List.{drop-set-add, with_items_is}
use Rattle.conc_event_queue.proofs.queue.Queue.put.Goals as goal

pub returns : goal.returns
returns c =
    let whole : length c.settle_above.new.nodes ≡ c.self.inside.nodes.len =
    omega (arith, c.settle_above.ensures.all.size, c.self.invariant.size, c.self.inside.nodes.ok.0) in
    ap (drop c.self.inside.slots) (with_items_is (with_item c.self.inside.nodes (c.self.inside.slots + c.args.slot) c.args.key) c.settle_above.new.nodes whole)
    ∙ c.settle_above.ensures.same_slots
    ∙ ap (drop c.self.inside.slots) c.as_mut_slice.ensures.value
    ∙ drop-set-add c.self.inside.slots c.self.inside.nodes.items c.args.slot c.args.key
    ∙ ap (λ l. set l c.args.slot c.args.key) c.self.view_is
