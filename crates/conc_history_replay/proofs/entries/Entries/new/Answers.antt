use Rattle.std.proofs.Common.{◌+◌, [], ◌∷◌, length, ◌∙◌, ap}
use Rattle.std.proofs.lemmas.List.{length-append}
use Rattle.conc_history_replay.proofs.OfCommands.{entries-more}
use Rattle.conc_history_replay.proofs.entries.Entries.new.Goals as goal

pub loop-i-preserved : goal.loop-i-preserved
loop-i-preserved c = record {
  entries = rw c.in_ok-push.ensures.items (entries-more _ _ c.loop-i.i _ c.loop-i.invariant.entries c.loop-i.invariant.many c.entry_after.ensures);
  many = ap length c.in_ok-push.ensures.items ∙ (length-append c.loop-i.all.items (c.entry_after.result ∷ []) ∙ ap (λ n. n + 1) c.loop-i.invariant.many);
}
