use Rattle.std.proofs.Common.{◌≡◌, ◌∙◌, IfSome, sym}
use Rattle.conc_run_open.specs.Examined.{plan_held}
use Rattle.conc_run_state.specs.Works.{list_in}
use Rattle.conc_run_steps.specs.Told.{IsTold}
use Rattle.conc_run_watched.proofs.Ending.{if-some, ok-then}
use Rattle.conc_run_watched.proofs.watched.Scene.run_out.Goals as goal

pub returns-clause-ended : goal.returns-clause-ended
returns-clause-ended g c =
    let ended = c.go_on-answer in
    let examined = c.in-Some.examined in
    let told = g.T.Teller.list ended.new.teller in
    let takes = g.T.Teller.takes ended.new.teller in
    if-some c.args.examined.now examined _ (sym c.take.ensures.value ∙ c.in-Some.is) (record {
      ends = ended.ensures.ends;
      told_all = ok-then ended.result (λ work. IsTold told takes (plan_held examined) (list_in work)) (λ work. IfSome told (λ list. list ≡ list_in work)) (λ work is. is.at) ended.ensures.told;
    })
