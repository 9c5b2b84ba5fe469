use Rattle.std.proofs.Common.{sym, ◌∙◌}
use Rattle.std.proofs.lemmas.Bool.{both_ways}
use Rattle.conc_event_classes.proofs.Putting.{pushed, shelves-more}
use Rattle.conc_event_classes.proofs.shelves.Shelves.put.Goals as goal

pub returns-in_ok-push : goal.returns-in_ok-push
returns-in_ok-push c = shelves-more c.args.plan.now c.args._heads.now c.args.class c.args.head c.args.self.now _ c.requires.here c.requires.before
    (rw c.item_key.ensures.key at c.in_ok-put.ensures)
    (rw c.parent_key.ensures.key at c.in_ok-put-2.ensures)
    (rw c.domain_key.ensures.key at c.in_ok-put-3.ensures)
    (pushed _ _ c.args.class c.in_ok-push.ensures.items).0
    (λ t. (pushed _ _ c.args.class c.in_ok-push.ensures.items).1)

pub returns-else-runs_alone : goal.returns-else-runs_alone
returns-else-runs_alone c = shelves-more c.args.plan.now c.args._heads.now c.args.class c.args.head c.args.self.now _ c.requires.here c.requires.before
    (rw c.item_key.ensures.key at c.in_ok-put.ensures)
    (rw c.parent_key.ensures.key at c.in_ok-put-2.ensures)
    (rw c.domain_key.ensures.key at c.in_ok-put-3.ensures)
    (λ x has. has)
    (λ t. absurd (both_ways _ (sym c.runs_alone.ensures ∙ c.if-runs_alone.false) t))
