use Rattle.std.proofs.Common.{sym, ◌∙◌, ap}
use Rattle.conc_event_classes.specs.Classes.{excludes_kin_at}
use Rattle.conc_history_check.specs.Live.{rival_noted}
use Rattle.conc_history_check.proofs.FreeOnes.{free-none, free-not}
use Rattle.conc_history_check.proofs.Lives.{lives}
use Rattle.conc_history_check.proofs.free.is_free.Goals as goal

pub returns-in-None : goal.returns-in-None
returns-in-None c =
    sym (free-none _ c.args.position.prepared.now.classes _ c.args.position.marks.now.live.items c.args.r.now c.requires.classes (lives _ _ _ c.args.position.marks.now c.requires.marks) c.requires.own
    (ap (rival_noted c.args.position.prepared.now.classes c.args.position.marks.now.live.items) (sym c.class-class.ensures) ∙ sym c.rival_noted.ensures ∙ c.in-None.is))

pub returns-else-excludes_kin : goal.returns-else-excludes_kin
returns-else-excludes_kin c =
    c.if-excludes_kin.false
    ∙ sym (free-not _ c.args.position.prepared.now.classes _ c.args.position.marks.now.live.items c.args.r.now c.in-Some.rival c.requires.classes (lives _ _ _ c.args.position.marks.now c.requires.marks) c.requires.own c.requires.idle
    (ap (rival_noted c.args.position.prepared.now.classes c.args.position.marks.now.live.items) (sym c.class-class.ensures) ∙ sym c.rival_noted.ensures ∙ c.in-Some.is)
    (ap (excludes_kin_at c.args.position.prepared.now.classes) (sym c.class-class.ensures) ∙ sym c.excludes_kin.ensures ∙ c.if-excludes_kin.false))
