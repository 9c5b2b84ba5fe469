use Rattle.std.proofs.Common.{subst, sym, ◌∙◌, ap, min, ℕ}
use Rattle.conc_restart.specs.FirstBad.{IsListRefused}
use Rattle.conc_run_open.specs.Refusals.{IsRefused}
use Rattle.conc_run_open.proofs.Bad.{bad-least, bad-past}
use Rattle.conc_run_open.proofs.Counting.{past-take}
use Rattle.conc_run_open.proofs.judging.refuse_short.Goals as goal
use Rattle.conc_run_open.proofs.judging.refuse_short.Goals.{in-Ok, in-Err-Unlawful, in-Err-NoMemory}

pub returns : goal.returns
returns c = λ broken.
    let plan = c.args.plan.now in
    let len = c.args.len in
    let events = c.args.events.now in
    let beyond = c.first_beyond-beyond.result in
    let first = c.first_beyond-beyond.ensures in
    elim c.match-resume.branch [
      | in-Ok w ↦ subst (IsRefused plan len events broken) (sym w.result-is) (bad-past plan len events broken beyond first (past-take plan beyond events w.in-Ok.ensures.lawful_so_far))
      | in-Err-Unlawful w ↦ subst (IsRefused plan len events broken) (sym w.result-is)
          (bad-least plan len events broken w.in-Err-Unlawful.position beyond w.min.result first (subst (IsListRefused plan events) w.in-Err-Unlawful.field-0-is w.in-Err-Unlawful.ensures.unlawful)
          (w.min.ensures ∙ ap (λ (n : ℕ). min n beyond) w.in-Err-Unlawful.position-is))
      | in-Err-NoMemory w ↦ subst (IsRefused plan len events broken) (sym w.result-is) tt
    ]
