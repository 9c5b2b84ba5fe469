use Rattle.conc_board.proofs.PlaceManagers.{owner-found, owner-none}
use Rattle.conc_board.proofs.owners.owner_at.Goals as goal

pub overflow_sub-result : goal.overflow_sub-result
overflow_sub-result c = (owner-found c.args.plan.now c.args.place c.in-Some.owner c.in-Some.field-0-1.now c.in-Some.field-0-2 c.in-Some.ensures).1

pub returns-in-Some : goal.returns-in-Some
returns-in-Some c = (owner-found c.args.plan.now c.args.place c.in-Some.owner c.in-Some.field-0-1.now c.in-Some.field-0-2 c.in-Some.ensures).0

pub returns-in-None : goal.returns-in-None
returns-in-None c = owner-none c.args.plan.now c.args.place c.in-None.ensures
