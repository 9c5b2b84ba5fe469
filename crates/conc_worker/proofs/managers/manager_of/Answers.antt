use Rattle.conc_worker.proofs.ManagerOf.{owner-within}
use Rattle.conc_worker.proofs.managers.manager_of.Goals as goal

pub overflow_sub-result : goal.overflow_sub-result
overflow_sub-result c = (owner-within c.args.plan.now c.args.place c.in-Some.owner c.in-Some.field-0-1.now c.in-Some.field-0-2 c.in-Some.ensures).1

pub returns-in-Some : goal.returns-in-Some
returns-in-Some c = (owner-within c.args.plan.now c.args.place c.in-Some.owner c.in-Some.field-0-1.now c.in-Some.field-0-2 c.in-Some.ensures).0
