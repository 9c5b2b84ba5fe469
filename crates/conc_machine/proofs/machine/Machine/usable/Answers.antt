use Rattle.std.proofs.Common.{sym, ◌∙◌, ap}
use Rattle.conc_types.specs.Words.{some_and}
use Rattle.conc_base_law.specs.Places.{is_usable}
use Rattle.conc_machine.proofs.States.{time-of}
use Rattle.conc_machine.proofs.machine.Machine.usable.Goals as goal

pub returns-in-Some : goal.returns-in-Some
returns-in-Some c = λ past stands.
    c.is_usable.ensures
    ∙ sym (ap (some_and (λ t. is_usable c.args.self.now.plan.now t c.args.place)) (sym (time-of c.args.self.now past stands) ∙ c.in-Some.is))

pub returns-in-None : goal.returns-in-None
returns-in-None c = λ past stands.
    sym (ap (some_and (λ t. is_usable c.args.self.now.plan.now t c.args.place)) (sym (time-of c.args.self.now past stands) ∙ c.in-None.is))
