use Rattle.std.proofs.Common.{◌≡◌, List}
use Rattle.conc_types.specs.declared.event.Event.{Event}
use Rattle.conc_edge_devices.specs.Calls.{state_of}
use Rattle.conc_journal.specs.Journals.{IsOn, list_of as journal_list}
use Rattle.conc_base_law.specs.Law.{LawfulSoFar}
use Rattle.conc_machine.specs.StandsFor.{plan_of}
use Rattle.conc_view.specs.Publisher.{list_of, told_plan}
use Rattle.conc_test_view.specs.Follows.{Follows}
use Rattle.conc_test_view.proofs.tests.run.tell_all.Given as goal

abbrev pub invariant-loop-i : goal.invariant-loop-i
invariant-loop-i g l = record {
  on : IsOn l.journal (state_of l.disk);
  list : list_of l.publisher ≡ journal_list l.journal;
  follows : Follows l.machine (journal_list l.journal);
  takes : (events : List Event) → LawfulSoFar (plan_of l.machine) events → LawfulSoFar (told_plan l.publisher) events;
}
