use Rattle.std.proofs.Common.{◌≡◌, ◌*◌, ◌+◌, ◌-◌, ◌≤◌, ℕ, List, drop, length}
use Rattle.conc_journal_image.specs.Finding.{AreCounted, AreFirst, Begins, left_behind}
use Rattle.conc_journal_image.proofs.found.Found.take.Given as goal

-- so many records were taken, and the rest follows them
abbrev pub invariant-loop-rest : goal.invariant-loop-rest
invariant-loop-rest l = record {
  counted : AreCounted l.self;
  more : length l.fn.self.events.items ≤ length l.self.events.items;
  within : 32 * length l.self.events.items ≤ length l.bytes + 32 * length l.fn.self.events.items;
  rest : l.rest ≡ drop (32 * (length l.self.events.items - length l.fn.self.events.items)) l.bytes;
  first : (image : List ℕ) → AreFirst image l.fn.self → Begins l.bytes (left_behind image l.fn.self) → AreFirst image l.self;
}

abbrev pub decreases-loop-rest : goal.decreases-loop-rest
decreases-loop-rest l = length l.rest
