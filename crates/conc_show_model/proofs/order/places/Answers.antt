use Rattle.std.proofs.Common.{All, AllPairs, Contains, IsTrue, List, sym, subst}
use Rattle.conc_show_model.specs.declared.model.Place.{Place}
use Rattle.conc_show_model.specs.Places.{RunsAt, precedes}
use Rattle.conc_show_model.proofs.Ordered.{placed, places_all, places_ordered, places_used}
use Rattle.conc_show_model.proofs.order.places.Goals as goal

pub returns-clause-ordered : goal.returns-clause-ordered
returns-clause-ordered c =
    let are = placed c.args.runs.now c.loop-run.run-index c.loop-run.places.items c.loop-run-test.false c.loop-run.invariant in
    subst (λ (ps : List Place). AllPairs (λ a b. IsTrue (precedes a b)) ps) (sym are) (places_ordered c.args.runs.now)

pub returns-clause-all : goal.returns-clause-all
returns-clause-all c =
    let are = placed c.args.runs.now c.loop-run.run-index c.loop-run.places.items c.loop-run-test.false c.loop-run.invariant in
    subst (λ (ps : List Place). All (λ r. Contains ps r.place) c.args.runs.now) (sym are) (places_all c.args.runs.now)

pub returns-clause-used : goal.returns-clause-used
returns-clause-used c =
    let are = placed c.args.runs.now c.loop-run.run-index c.loop-run.places.items c.loop-run-test.false c.loop-run.invariant in
    subst (λ (ps : List Place). All (RunsAt c.args.runs.now) ps) (sym are) (places_used c.args.runs.now)
