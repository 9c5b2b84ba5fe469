use Rattle.std.proofs.Common.{not, ◌&&◌, ◌∙◌, ap, sym}
use Rattle.conc_types.specs.Words.{some_and}
use Rattle.conc_base_law.specs.Managers.{admits}
use Rattle.conc_base_law.specs.State.{is_running}
use Rattle.conc_machine_starts.specs.Updates.{is_open, manager_at}
use Rattle.conc_machine_starts.proofs.Places.{may_start_is}
use Rattle.conc_machine_starts.proofs.starts.Starts.may_start.Goals as goal

pub returns : goal.returns
returns c =
    c.may_start_by.ensures
    ∙ ap (λ facts. facts.let_out && (not (is_running facts) && (is_open c.args.self.now c.args.place && some_and (λ manager. admits manager c.args.r.now) (manager_at c.args.plan.now c.args.self.now c.args.place))))
    c.facts_at.ensures
    ∙ sym (may_start_is c.args.plan.now c.args.state.now c.args.self.now c.args.r.now c.args.place c.requires)
