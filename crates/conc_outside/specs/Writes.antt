-- The writes of a sink in memory, and which of them fail.
use Rattle.std.specs.Prelude.{◌≡◌, ◌⊎◌, ℕ, ◌+◌, ◌<◌, ◌≤◌, ◌==◌, min, List, Bool, Result, Some, IsErr, IsOk, IsTrue}
use Rattle.std.specs.List.{list_any}
use Rattle.conc_outside.specs.Counts.{Rose}
use Rattle.conc_outside.specs.Taken.{SinkState}
use Rattle.conc_outside.specs.declared.memory_sink.MemSink.{MemSink}

-- what it exposes
abbrev pub sink_state : MemSink → SinkState
sink_state sink = record { taken = Some sink.bytes.items; faults = sink.faults }

-- the numbers of the writes that are to fail
abbrev pub fails_of : MemSink → List ℕ
fails_of sink = sink.fails.items

-- how many writes there were, in 64 bits: the number of the coming one
abbrev pub writes_of : MemSink → ℕ
writes_of sink = sink.writes

-- how often a write found no memory
abbrev pub starved_of : MemSink → ℕ
starved_of sink = sink.starved

-- the coming write is one of those that are to fail
abbrev pub coming_fails : MemSink → Bool
coming_fails sink = list_any (λ write. write == writes_of sink) (fails_of sink)

-- The write is counted, and fails exactly where it is listed or finds no memory. Else it is no fault.
pub record FailsAsListed {T E : Type 0} (old new : MemSink) (result : Result T E) : Type 0 where
  pub write : writes_of new ≡ min (writes_of old + 1) 18446744073709551615
  pub fails : fails_of new ≡ fails_of old
  pub starved : starved_of old ≤ starved_of new
  pub cause : IsErr result → IsTrue (coming_fails old) ⊎ Rose (starved_of old) (starved_of new)
  pub listed : IsTrue (coming_fails old) → IsErr result
  pub want : starved_of old < starved_of new → IsErr result
  pub no_fault : IsOk result → new.faults ≡ old.faults
