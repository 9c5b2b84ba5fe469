use Rattle.std.proofs.Common.{ap, sym, ◌∙◌, ◌++◌, [], ◌∷◌, arith}
use Rattle.std.proofs.lemmas.List.FromFn.{map-range_with_len_more}
use Rattle.conc_machine_release.proofs.fresh.zeros.Goals as goal

pub loop-preserved : goal.loop-preserved
loop-preserved c =
    c.in_ok-push.ensures.items ∙ ap (λ l. l ++ 0 ∷ []) c.loop.invariant ∙ sym (map-range_with_len_more (λ n. 0) 0 c.loop.counter c.loop.counter (omega arith))
