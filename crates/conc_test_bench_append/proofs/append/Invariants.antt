use Rattle.std.proofs.Common.{IfSome, IsFalse, IsTrue, ◌≡◌, ◌+◌, ◌≤◌, length}
use Rattle.conc_journal.specs.Journals.{IsOn, list_of, room_of, state_of}
use Rattle.conc_journal.specs.Opens.{events_of}
use Rattle.conc_journal.specs.JournalStates.{has_faulted, takes_events}
use Rattle.conc_test_bench_append.proofs.append.Given as goal

abbrev pub invariant-loop-left : goal.invariant-loop-left
invariant-loop-left g l = record {
  on : IsOn l.journal (g.D.Disk.state l.disk);
  takes : IsTrue (takes_events (state_of l.journal));
  sound : IsFalse (has_faulted (state_of l.journal));
  room : l.left ≤ room_of l.journal;
  faults : (g.D.Disk.state l.fn.disk).faults ≤ (g.D.Disk.state l.disk).faults;
  list : IfSome (g.D.Disk.state l.fn.disk).seen (λ image. length (list_of l.journal) + l.left ≡ length (events_of image) + l.fn.count);
}

abbrev pub decreases-loop-left : goal.decreases-loop-left
decreases-loop-left g l = l.left
