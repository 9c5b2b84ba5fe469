use Rattle.std.proofs.Common.{◌≡◌, length}
use Rattle.conc_history_replay.specs.Entries.{AreEntriesTo}
use Rattle.conc_history_replay.proofs.entries.Entries.new.Given as goal

-- what is noted of the commands so far is what they enter
abbrev pub invariant-loop-i : goal.invariant-loop-i
invariant-loop-i l = record {
  entries : AreEntriesTo l.plan l.all.items;
  many : length l.all.items ≡ l.i;
}
