use Rattle.std.specs.Prelude.{None, refl}
use Rattle.std.proofs.Common.{ap, ◌∙◌}
use mathlib.Core.Bool.{Bool-set}
use Rattle.conc_data_entries.proofs.program.program_with.Goals as goal

pub returns : goal.returns
returns c =
    ap (λ short. record { name = c.args.name; request_type = c.args.request_type.text; enabled = c.args.enabled; run_alone = c.args.run_alone; restart = c.args.restart; job = c.args.job; post = None; short = short; sums = c.result-1.given.1.0 })
    (Bool-set _ _ _ c.args.request_type.short)
    ∙ ap (λ sums. record { name = c.args.name; request_type = c.args.request_type.text; enabled = c.args.enabled; run_alone = c.args.run_alone; restart = c.args.restart; job = c.args.job; post = None; short = c.args.request_type.short; sums = sums })
    (Bool-set _ _ _ refl)
