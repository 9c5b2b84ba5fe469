use Rattle.std.proofs.Common.{◌≡◌, take}
use Rattle.conc_event_decisions.specs.Members.{worst_among}
use Rattle.conc_event_decisions.proofs.stages.worst_member.Given as goal

abbrev pub invariant-loop-r : goal.invariant-loop-r
invariant-loop-r l = l.worst ≡ worst_among l.state l.set l.stage (take l.r-index l.requests)
