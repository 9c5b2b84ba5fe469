use Rattle.std.proofs.Common.{◌∙◌}
use Rattle.conc_event_classes.proofs.RivalRows.{clash_by_claim}
use Rattle.conc_event_classes.proofs.rivals.clashes.Goals as goal

pub returns : goal.returns
returns c =
    c.either_claims.ensures
    ∙ clash_by_claim c.args.plan.now c.args.claim.now c.args.claim.now.head c.args.other c.are_in_one_domain-same_domain.result c.requires c.are_in_one_domain-same_domain.ensures
