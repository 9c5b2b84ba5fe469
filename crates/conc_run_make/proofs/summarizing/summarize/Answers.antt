use Rattle.std.proofs.Common.{◌∙◌, ap}
use Rattle.std.proofs.lemmas.Result.{IfOk-weaker}
use Rattle.conc_run_make.specs.Summary.{summary_text}
use Rattle.conc_run_make.proofs.summarizing.summarize.Goals as goal

pub returns : goal.returns
returns c =
    let generated = c.in_ok-generated.generated in
    let history = c.in_ok-history.history.items in
    IfOk-weaker c.text_of.result _ _ (λ text is. record {
      plan = generated.plan;
      readings = generated.readings;
      generated = c.in_ok-generated.ensures;
      history = history;
      alone = c.in_ok-history.ensures;
      text_is = is ∙ ap (summary_text c.args.seed c.args.size generated.plan) c.deref.ensures.value;
    })
    c.text_of.ensures
