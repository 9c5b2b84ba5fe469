-- The machine of a run, and the room that one more life needs, for the crates above.
pub use Rattle.conc_restart.specs.Machines.{Machine, plan_of, StandsFor}
unfoldable pub use Rattle.conc_restart.specs.Machines.{readings_of}
pub use Rattle.conc_restart.specs.Need.{IsOfOneLife, need}
