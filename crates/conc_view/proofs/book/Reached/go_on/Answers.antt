use Rattle.std.proofs.Common.{◌≤◌, ap, length, List, subst}
use mathlib.Core.List.{IsPrefix}
use Rattle.conc_types.specs.declared.event.Event.{Event}
use Rattle.conc_view.proofs.Beginnings.{prefix_shorter}
use Rattle.conc_view.proofs.book.Reached.go_on.Goals as goal

pub returns-clause-begins : goal.returns-clause-begins
returns-clause-begins g c =
    let both = c.learn.new.self.log in
    let this : IsPrefix c.self.inside.seen.log both = subst (λ (l : List Event). IsPrefix l both) (ap (λ s. s.log) c.again-both.ensures) c.learn.ensures.2 in
    let less : length c.self.inside.seen.log ≤ length c.to.inside.seen.log = rw (c.self.view_is, c.to.view_is) c.requires in
    rw (← c.self.view_is, ← c.to.view_is) (prefix_shorter c.self.inside.seen.log c.to.inside.seen.log both this c.learn.ensures.3 less)
