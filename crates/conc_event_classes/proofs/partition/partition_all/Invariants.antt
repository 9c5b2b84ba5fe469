use Rattle.std.proofs.Common.{take}
use Rattle.conc_event_classes.specs.Partitions.{IsPartition}
use Rattle.conc_event_classes.proofs.partition.partition_all.Given as goal

abbrev pub invariant-loop-i : goal.invariant-loop-i
invariant-loop-i l = IsPartition l.plan (take l.i l.plan.requests) l.partition
