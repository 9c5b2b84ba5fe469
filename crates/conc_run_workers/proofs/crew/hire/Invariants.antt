use Rattle.std.proofs.Common.{◌≡◌, ◌<◌, ◌+◌, ℕ, All, slice_index_or, vec_len}
use Rattle.conc_pool_lanes.specs.Lanes.{AreHandPasses}
use Rattle.conc_pool_lanes.specs.declared.lanes.Lanes.{Lanes}
use Rattle.conc_run_workers.specs.Crews.{AreDealt, HasPass}
use Rattle.conc_run_workers.specs.declared.crew.CrewMember.{CrewMember}
use Rattle.conc_run_workers.proofs.crew.hire.Given as goal

abbrev pub invariant-loop-rest : goal.invariant-loop-rest
invariant-loop-rest l = record {
  count : vec_len l.crew ≡ l.rest;
  dealt : (i : ℕ) (d : CrewMember) → i < l.rest → AreDealt l.plan l.threads i (slice_index_or l.crew.items i d).places.items;
  left : vec_len l.passes + l.rest ≡ l.threads;
  passes : (lanes : Lanes) → AreHandPasses lanes l.fn.passes.items → AreHandPasses lanes l.passes.items × All (HasPass lanes) l.crew.items;
}
