-- What was told in the end.
use Rattle.std.specs.Prelude.{List}
use Rattle.conc_types.specs.declared.event.Event.{Event}
use Rattle.conc_view.specs.declared.naming.Naming.{Ghosts}
use Rattle.conc_view.specs.declared.told.Told.{Told}

module _ {J : Type 0} {names : Ghosts J} where
  -- the whole list
  abbrev pub whole_of : Told J names → List Event
  whole_of told = told.store.value.reached
