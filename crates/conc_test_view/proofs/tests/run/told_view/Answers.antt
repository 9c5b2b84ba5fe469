use Rattle.std.proofs.Common.{List, refl, subst, sym}
use Rattle.conc_types.specs.declared.event.Event.{Event}
use Rattle.conc_base_law.specs.Law.{is_lawful_so_far}
use Rattle.conc_test_view.specs.Follows.{Follows}
use Rattle.conc_test_view.proofs.Following.{follows_none}
use Rattle.conc_test_view.proofs.tests.run.told_view.Goals as goal

pub new_view-requires-clause-lawful : goal.new_view-requires-clause-lawful
unfolding is_lawful_so_far
new_view-requires-clause-lawful g c = refl

pub tell_all-requires-clause-follows : goal.tell_all-requires-clause-follows
tell_all-requires-clause-follows g c =
    let machine = c.in_ok-machine.machine in let new = c.in_ok-machine.ensures in
    subst (λ (events : List Event). Follows machine events) (sym c.in_ok-journal.ensures.none) (follows_none machine new.readings new.stands)
