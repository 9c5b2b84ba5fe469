use Rattle.std.proofs.Common.{◌∙◌, ap, map}
use Rattle.std.specs.Result.{result_from_control_flow}
use Rattle.conc_run_state.specs.Stores.{ran_over}
use Rattle.conc_run_state.specs.Works.{list_in}
use Rattle.conc_run_watch.specs.Lines.{watch_text}
use Rattle.conc_top.specs.Printing.{sunk}
use Rattle.conc_top.specs.Ways.{exit_of}
use Rattle.conc_top.proofs.Ending.{ended-prints}
use Rattle.conc_top.proofs.running.print_ended.Goals as goal

pub returns : goal.returns
returns g c = λ threads watchers old has.
    let input = c.args.input.now in
    let history = list_in c.in_ok-work.field-0.work in
    ended-prints threads watchers (ran_over g.D.Disk g.E.Disk input old c.args.stores.now) (sunk (g.O.Sink.state c.args.out.now) (g.O.Sink.state c.print_history.new.out)) c.args.ended c.in_ok-work.field-0
    c.events.result.now (watch_text 1 (map (λ k. k.items) c.as_slice.result.now)) (exit_of c.print_history.result) (c.branch-work.ensures ∙ ap (λ f. result_from_control_flow f) c.in_ok-work.is) c.events.ensures (ap (λ kept. watch_text 1 (map (λ k. k.items) kept)) c.as_slice.ensures.value) has
    (c.lawful_is_lawful_so_far.ensures input.plan.now input.readings.now history) (c.no_overlap.ensures input.plan.now history) (g.met.D.Disk.seen_is_left c.args.stores.now.journal.now) c.print_history.ensures
