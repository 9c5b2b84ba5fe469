use Rattle.std.proofs.Common.{◌≡◌, sym, ◌∙◌, ap}
use Rattle.conc_event_classes.specs.Classes.{class_at, excludes_kin_at}
use Rattle.conc_history_check.proofs.Classed.{class-excluded, class-free, class-one, least-turn-all}
use Rattle.conc_history_check.proofs.Turns.{ready-not_live}
use Rattle.conc_history_check.proofs.lets.turn_from.Goals as goal

pub is_free-requires-clause-own : goal.is_free-requires-clause-own
is_free-requires-clause-own c =
    (class-one c.args.position.plan.now c.args.position.prepared.now.classes c.requires.prepared.classes c.args.position.state.now c.args.position.marks.now c.requires.kept.marks c.args._class c.args.first c.args.r.now c.requires.first c.requires.at).0

pub is_free-requires-clause-idle : goal.is_free-requires-clause-idle
is_free-requires-clause-idle c =
    ready-not_live c.args.position.plan.now c.args.position.state.now c.args.r.now
    (class-one c.args.position.plan.now c.args.position.prepared.now.classes c.requires.prepared.classes c.args.position.state.now c.args.position.marks.now c.requires.kept.marks c.args._class c.args.first c.args.r.now c.requires.first c.requires.at).1

pub returns-then-is_free : goal.returns-then-is_free
returns-then-is_free c =
    class-free c.args.position.plan.now c.args.position.prepared.now.classes c.requires.prepared.classes c.args.position.state.now c.args.position.marks.now c.requires.kept.marks c.args._class c.args.first c.args.r.now c.requires.first c.requires.at (sym c.is_free.ensures ∙ c.if-is_free.true)

pub returns-then-not-excludes_kin : goal.returns-then-not-excludes_kin
returns-then-not-excludes_kin c =
    class-excluded c.args.position.plan.now c.args.position.prepared.now.classes c.requires.prepared.classes c.args.position.state.now c.args.position.marks.now c.requires.kept.marks c.args._class c.args.first c.args.r.now c.requires.first c.requires.at (sym c.is_free.ensures ∙ c.if-is_free.false)
    (ap (excludes_kin_at c.args.position.prepared.now.classes) (sym c.class.ensures) ∙ sym c.excludes_kin.ensures ∙ c.if-not-excludes_kin.true)

pub returns : goal.returns
returns c =
    least-turn-all c.args.position.plan.now c.args.position.state.now (λ q. class_at c.args.position.prepared.now.classes q ≡ c.args._class) c.least_of_all.result c.least_of_all.ensures
