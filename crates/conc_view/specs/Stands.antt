-- The events that a watcher's machine stands for.
use Rattle.std.specs.Prelude.{List, reverse}
use Rattle.conc_types.specs.declared.event.Event.{Event}
use Rattle.conc_restart.specs.Machines.{Machine, StandsFor}

-- the machine stands for these events, which are given in the order in which they came
abbrev pub Stands : Machine → List Event → Type 0
Stands machine events = ∥ StandsFor machine (reverse events) ∥₁
