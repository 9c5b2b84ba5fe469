-- How a trace goes on.
use Rattle.std.specs.Prelude.{◌≡◌, ℕ, List, [], ◌∷◌, ◌++◌}
use Rattle.conc_edge_devices.specs.Trace.{after, begun_in, Leaves, start_of}
use Rattle.conc_edge_devices.specs.declared.trace.Act.{Act}
use Rattle.conc_edge_devices.specs.declared.trace.Trace.{Trace}

abbrev pub start : Trace → List ℕ
start trace = start_of trace.first trace.bytes.items

-- it keeps its start, has one more change, and what is read follows
pub record Grows (old new : Trace) (number : ℕ) (act : Act) : Type 0 where
  pub start : start new ≡ start old
  pub changes : new.changes.items ≡ old.changes.items ++ record { number = number; act = act } ∷ []

-- the same start, changes and bytes
pub record IsSame (old new : Trace) : Type 0 where
  pub start : start new ≡ start old
  pub changes : new.changes.items ≡ old.changes.items
  pub bytes : new.bytes.items ≡ old.bytes.items

-- a crash in the call with this number may leave this image
abbrev pub LeavesInCall : Trace → ℕ → List ℕ → Type 0
LeavesInCall trace call image = Leaves (begun_in call trace.changes.items) (start trace) (start trace) image

-- what a read gives where all that was begun up to this call is done
abbrev pub seen_in_call : Trace → ℕ → List ℕ
seen_in_call trace call = after (begun_in call trace.changes.items) (start trace)
