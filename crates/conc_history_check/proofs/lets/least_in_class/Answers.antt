use Rattle.std.proofs.Common.{sym, ◌∙◌}
use Rattle.conc_history_check.proofs.Classed.{class-none}
use Rattle.conc_history_check.proofs.lets.least_in_class.Goals as goal

pub turn_in_class-requires-clause-first : goal.turn_in_class-requires-clause-first
turn_in_class-requires-clause-first c = sym c.first_ready.ensures ∙ c.in-Some.is

pub returns-in-None : goal.returns-in-None
returns-in-None c = class-none c.args.position.plan.now c.args.position.prepared.now.classes c.requires.prepared.classes c.args.position.state.now c.args.position.marks.now c.requires.kept.marks c.args.class (sym c.first_ready.ensures ∙ c.in-None.is)
