use Rattle.std.proofs.Common.{ap, sym, ◌∙◌, ◌++◌, [], ◌∷◌, arith}
use Rattle.std.specs.Prelude.{slice_index}
use Rattle.std.proofs.lemmas.List.FromFn.{map-range_with_len_more}
use Rattle.conc_event_queue.specs.Least.{vacant}
use Rattle.conc_machine_release.proofs.fresh.vacant_queues.Goals as goal

pub loop-class-preserved : goal.loop-class-preserved
loop-class-preserved c =
    c.in_ok-push.ensures.items
    ∙ ap (λ q. c.loop-class.queues.items ++ q ∷ []) (c.in_ok-new.ensures ∙ ap vacant c.size-size.ensures)
    ∙ ap (λ l. l ++ vacant (slice_index c.args.classes.now.sizes c.loop-class.class) ∷ []) c.loop-class.invariant
    ∙ sym (map-range_with_len_more (λ n. vacant (slice_index c.args.classes.now.sizes n)) 0 c.loop-class.class c.loop-class.class (omega arith))
