use Rattle.std.proofs.Common.{◌∙◌, ap}
use Rattle.std.specs.Option.{option_map}
use Rattle.conc_base_law.specs.Law.{may_follow}
use Rattle.conc_base_law.specs.Next.{may_come}
use Rattle.conc_base_law.specs.Readings.{next_reading}
use Rattle.conc_machine.specs.StandsFor.{readings_of}
use Rattle.conc_machine.proofs.machine.Machine.judge.Goals as goal

pub returns : goal.returns
unfolding may_follow
returns c = λ past stands.
    let machine = c.args.self.now in
    c.may_come.ensures
    ∙ ap (λ next. may_come machine.plan.now machine.indexes.state next c.args.event.now) (c.known_next.ensures past stands)
    ∙ ap (λ s. may_come machine.plan.now s (option_map (λ readings. next_reading readings past) (readings_of machine)) c.args.event.now) stands.state
