use Rattle.std.proofs.Common.{◌≡◌, ℕ, ◌<◌, false, length, get_or}
use Rattle.conc_base_law.specs.Places.{count_of_places}
use Rattle.conc_machine_starts.specs.Starts.{is_usable_now}
use Rattle.conc_machine_starts.proofs.updates.renew.Given as goal

abbrev pub invariant-loop-index : goal.invariant-loop-index
invariant-loop-index l = record {
  same_length : length l.usable ≡ count_of_places l.plan;
  renewed : (k : ℕ) → k < l.index → get_or l.usable k false ≡ is_usable_now l.plan l.state (record { index = k });
}
