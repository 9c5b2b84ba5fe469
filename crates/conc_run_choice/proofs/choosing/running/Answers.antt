use Rattle.std.proofs.Common.{◌≡◌, sym, ◌∙◌, ap}
use Rattle.std.specs.List.{find}
use Rattle.std.specs.Option.{option_and_then, option_map}
use Rattle.conc_types.specs.declared.plan.Plan.{Plan}
use Rattle.conc_types.specs.declared.plan.Req.{Req}
use Rattle.conc_types.specs.Plans.{request}
use Rattle.conc_base_law.specs.Next.{runs_somewhere}
use Rattle.conc_base_law.specs.State.{state}
use Rattle.conc_base_law.proofs.FirstBy.{find-some}
use Rattle.conc_machine.specs.StandsFor.{plan_of}
use Rattle.conc_run_choice.proofs.Parts.{found-again}
use Rattle.conc_run_choice.proofs.choosing.running.Goals as goal

pub returns-in-Some : goal.returns-in-Some
returns-in-Some c = λ past stands.
    let plan = plan_of c.args.machine.now in
    let runs = runs_somewhere (state plan past) in
    let found : c.first_running.result ≡ option_map (λ (r : Req). r.number) (find runs plan.requests) = c.first_running.ensures past stands in
    c.request.ensures
    ∙ ap (λ (p : Plan). request p c.in-Some.id) c.plan.ensures
    ∙ ap (option_and_then (request plan)) (sym c.in-Some.is ∙ found)
    ∙ found-again plan (find runs plan.requests) (λ r is. (find-some runs plan.requests r is).1)
