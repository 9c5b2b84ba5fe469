use Rattle.std.proofs.Common.{sym, ◌∙◌, arith}
use Rattle.conc_machine_release.proofs.Choice.{class-first_with_only_kin_rivals, class-free, class-kin_marked, class-single, rivals-kept}
use Rattle.conc_machine_release.proofs.Slots.{length-kept}
use Rattle.conc_machine_release.proofs.lets.Lets.turn_in_class.Goals as goal

pub rival_count-rivals-requires : goal.rival_count-rivals-requires
rival_count-rivals-requires c =
    omega (arith, c.requires.within, length-kept c.args.position.plan.now c.args.position.classes.now c.args.position.state.now c.args.self.now c.requires.related)

pub returns-then-rivals-eq0 : goal.returns-then-rivals-eq0
returns-then-rivals-eq0 c =
    let rivals = sym (rivals-kept c.args.position.plan.now c.args.position.classes.now c.args.position.state.now c.args.self.now c.requires.related c.args.class c.requires.within) ∙ sym c.rival_count-rivals.ensures in
    sym c.requires.first ∙ class-free c.args.position.plan.now c.args.position.classes.now c.args.position.state.now c.requires.classes c.args.class (rivals ∙ c.if-rivals-eq0.true)

pub returns-then-has_turn_only_kin_rivals : goal.returns-then-has_turn_only_kin_rivals
returns-then-has_turn_only_kin_rivals c =
    class-first_with_only_kin_rivals c.args.position.plan.now c.args.position.classes.now c.args.position.state.now c.requires.classes c.args.class c.rival_count-rivals.result
    (c.rival_count-rivals.ensures ∙ rivals-kept c.args.position.plan.now c.args.position.classes.now c.args.position.state.now c.args.self.now c.requires.related c.args.class c.requires.within)
    c.args.first c.requires.first (sym c.if-has_turn_only_kin_rivals.ensures)

pub returns-then-size-eq1 : goal.returns-then-size-eq1
returns-then-size-eq1 c =
    class-single c.args.position.plan.now c.args.position.classes.now c.args.position.state.now c.requires.classes c.args.class c.rival_count-rivals.result
    (c.rival_count-rivals.ensures ∙ rivals-kept c.args.position.plan.now c.args.position.classes.now c.args.position.state.now c.args.self.now c.requires.related c.args.class c.requires.within)
    c.args.first c.requires.first (sym c.has_turn_only_kin_rivals.ensures ∙ c.if-has_turn_only_kin_rivals.false) c.requires.within (sym c.size.ensures ∙ c.if-size-eq1.true)

pub returns : goal.returns
returns c =
    c.least_with_only_kin_rivals.ensures
    ∙ class-kin_marked c.args.position.plan.now c.args.position.classes.now c.args.position.state.now c.requires.classes c.args.class c.rival_count-rivals.result
    (c.rival_count-rivals.ensures ∙ rivals-kept c.args.position.plan.now c.args.position.classes.now c.args.position.state.now c.args.self.now c.requires.related c.args.class c.requires.within)
