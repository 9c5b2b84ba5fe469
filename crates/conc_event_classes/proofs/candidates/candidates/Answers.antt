use Rattle.std.proofs.Common.{true, ◌++◌, ap, ◌∙◌}
use Rattle.std.proofs.lemmas.Option.{slice_get_within}
use Rattle.conc_event_classes.specs.Candidates.{joined}
use Rattle.conc_event_classes.proofs.Covering.{all-found}
use Rattle.conc_event_classes.proofs.candidates.candidates.Goals as goal

pub returns : goal.returns
returns c = λ class other here clash.
    all-found c.args.plan.now c.args._heads.now c.args.shelves.now c.args.claim.now _ _ class other c.requires.shelves c.requires.claim
    (c.in_ok-add_joined.ensures ∙ ap (λ l. l ++ joined c.args.shelves.now true c.args.claim.now) c.new-found.ensures.items)
    c.in_ok-add_near.ensures (slice_get_within _ class other here) here clash
