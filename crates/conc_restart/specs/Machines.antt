-- The machine that stands for a list, for the crates above.
pub use Rattle.conc_machine.specs.StandsFor.{plan_of, StandsFor}
unfoldable pub use Rattle.conc_machine.specs.StandsFor.{readings_of}
pub use Rattle.conc_machine.specs.declared.machine.Machine.{Machine}
