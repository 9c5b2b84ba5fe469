use Rattle.std.proofs.Common.{sym, ◌∙◌, ap}
use Rattle.std.specs.Option.{option_copied_mut}
use Rattle.conc_history_replay.proofs.OfCommands.{entry-at, entry-none}
use Rattle.conc_history_replay.proofs.replay.enter_at.Goals as goal

pub returns-in-Some : goal.returns-in-Some
returns-in-Some c = λ named.
    entry-at c.args._plan.now named c.args._number c.args._span c.args.facts.now c.args.i c.in-Some.own.now c.requires.entry c.requires.within
    (sym c.get_mut.ensures.value ∙ ap option_copied_mut c.in-Some.is)

pub returns-in_default : goal.returns-in_default
returns-in_default c = λ named.
    entry-none c.args._plan.now named c.args._number c.args.facts.now c.args.i _
    (sym c.get_mut.ensures.value ∙ ap option_copied_mut c.in_default.is)
