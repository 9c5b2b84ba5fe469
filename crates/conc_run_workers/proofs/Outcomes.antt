-- What comes of a run that began, and of one that did not.
use Rattle.std.proofs.Common.{ℕ, Result}
use Rattle.conc_run_state.specs.declared.error.RunFail.{RunFail}
use Rattle.conc_run_workers.specs.Resolvers.{IfEnded, IfTooFew}
use Rattle.conc_run_workers.specs.declared.running.Directed.{Directed}
use Rattle.conc_run_workers.specs.declared.running.Directed.TheVariants as directed

-- what follows from both
pub either-way : (Ends : Result Unit RunFail → Type 0) (Waits : ℕ → Type 0) {P : Type 0} (answer : Directed) → IfEnded answer Ends → IfTooFew answer Waits
    → ((a : Result Unit RunFail) → Ends a → P) → ((here : ℕ) → Waits here → P) → P
either-way Ends Waits (directed.Ended a) ends waits one other = one a ends
either-way Ends Waits (directed.TooFew here) ends waits one other = other here waits
