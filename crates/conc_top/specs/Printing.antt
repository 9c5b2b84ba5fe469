-- What a command writes.
use Rattle.std.specs.Prelude.{◌≡◌, ℕ, List}
use Rattle.conc_outside.specs.Counts.{Rose}
use Rattle.conc_outside.specs.Taken.{SinkState, Took, TookPrefix}
use Rattle.conc_top.specs.declared.exit.Exit.{Exit}
use Rattle.conc_top.specs.declared.exit.Exit.TheVariants as exit

-- a sink before and after
pub record Sunk : Type 0 where
  pub before : SinkState
  pub after : SinkState

abbrev pub sunk : SinkState → SinkState → Sunk
sunk before after = record { before = before; after = after }

abbrev pub TookNothing : Sunk → Type 0
TookNothing sink = sink.after.taken ≡ sink.before.taken

-- this text was written, or a prefix of it
abbrev pub Wrote : List ℕ → Sunk → Exit → Type 0
Wrote text sink exit.Done = Took sink.before.taken sink.after.taken text
Wrote text sink exit.WriteFault = TookPrefix sink.before.taken sink.after.taken text × Rose sink.before.faults sink.after.faults
Wrote text sink _ = ⊥

-- a text of this kind was written, or a prefix of one; or there was no memory for it, and nothing was written
abbrev pub Prints : (List ℕ → Type 0) → Sunk → Exit → Type 0
Prints kind sink exit.Done = (text : List ℕ) × kind text × Took sink.before.taken sink.after.taken text
Prints kind sink exit.WriteFault =
    (text : List ℕ) × kind text × TookPrefix sink.before.taken sink.after.taken text × Rose sink.before.faults sink.after.faults
Prints kind sink exit.NoMemory = TookNothing sink
Prints kind sink _ = ⊥
