-- That a life fits the room that it needs, for the crates above.
pub use Rattle.conc_restart.proofs.LivesFit.{life_fits}
