use Rattle.std.proofs.Common.{ap, ◌∙◌, [], ◌∷◌, ◌++◌, arith}
use Rattle.conc_show_model.specs.declared.model.Place.{Place}
use Rattle.conc_show_model.proofs.Ends.{runs_all, runs_more, runs_same}
use Rattle.conc_show_model.proofs.runs.runs_of.Goals as goal
use Rattle.conc_show_model.proofs.runs.runs_of.Goals.{in-Started+in_ok-push, in_default}

pub loop-i-preserved : goal.loop-i-preserved
loop-i-preserved c =
    elim c.match-event.branch [
      | in-Started+in_ok-push w ↦ rw w.runs-is (runs_more c.args.events.now c.loop-i.runs.items _ c.loop-i.i _ w.in-Started.request w.in-Started.place w.end_of.result (omega arith) c.index-events-i.is c.loop-i.invariant w.in-Started.is w.end_of.ensures (w.in_ok-push.ensures.items ∙ ap (λ (p : Place). c.loop-i.runs.items ++ record { request = w.in-Started.request; place = p; from = c.loop-i.i; to = w.end_of.result } ∷ []) w.place_of.ensures))
      | in_default w ↦ rw w.runs-is (runs_same c.args.events.now c.loop-i.runs.items c.loop-i.i _ (omega arith) c.index-events-i.is c.loop-i.invariant w.in_default.not-Started)
    ]

pub returns : goal.returns
returns c = runs_all c.args.events.now c.loop-i.runs.items c.loop-i.i (omega arith) c.loop-i.invariant
