use Rattle.std.proofs.lemmas.Result.{on_ok_weaker}
use Rattle.conc_show_timeline.proofs.Parts.{lanes_in, rows_in}
use Rattle.conc_show_timeline.proofs.Words.{run_words}
use Rattle.conc_show_timeline.proofs.text.put_timeline.Goals as goal

pub returns-clause-rows : goal.returns-clause-rows
returns-clause-rows c =
    on_ok_weaker c.put_text.result (rows_in c.args.colours c.args.chart.now c.args.out.now.items c.put_text.new.out.items) c.put_text.ensures

pub returns-clause-places : goal.returns-clause-places
returns-clause-places c =
    on_ok_weaker c.put_text.result (lanes_in c.args.colours c.args.chart.now c.args.out.now.items c.put_text.new.out.items) c.put_text.ensures

pub returns-clause-runs : goal.returns-clause-runs
returns-clause-runs c = run_words c.args.chart.now.runs c.args.chart.now.events c.args.chart.now.runs_are
