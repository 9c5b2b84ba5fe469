use Rattle.std.proofs.Common.{◌≡◌, Option, None, Some, sym, ◌∙◌}
use Rattle.conc_types.specs.declared.plan.Req.{Req}
use Rattle.conc_history_check.proofs.Classed.{class-first}
use Rattle.conc_history_check.proofs.lets.turn_in_class.Goals as goal

pub turn_from-requires-clause-at : goal.turn_from-requires-clause-at
turn_from-requires-clause-at c = sym c.in-Some.ensures

pub returns-in-None : goal.returns-in-None
returns-in-None c =
    let f = class-first c.args.position.plan.now c.args.position.prepared.now.classes c.requires.prepared.classes c.args.position.state.now c.args.position.marks.now c.requires.kept.marks c.args.class c.args.first c.requires.first in
    let e : ◌≡◌ {A = Option Req} None (Some f.0) = c.in-None.ensures ∙ f.5 in
    cc
