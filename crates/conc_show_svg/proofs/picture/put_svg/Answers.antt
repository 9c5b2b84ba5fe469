use Rattle.std.proofs.lemmas.Result.{on_ok_weaker}
use Rattle.conc_show_model.proofs.Ordered.{places_all}
use Rattle.conc_show_svg.proofs.Clear.{all_inside, lanes_clear, rows_clear}
use Rattle.conc_show_svg.proofs.Parts.{frames_in, lane_bars_in, row_bars_in}
use Rattle.conc_show_svg.specs.Picture.{view}
use Rattle.conc_show_svg.proofs.picture.put_svg.Goals as goal

pub returns-clause-lane_bars : goal.returns-clause-lane_bars
returns-clause-lane_bars c =
    on_ok_weaker c.put_picture.result (lane_bars_in c.args.chart.now c.args.out.now.items c.put_picture.new.out.items) c.put_picture.ensures

pub returns-clause-row_bars : goal.returns-clause-row_bars
returns-clause-row_bars c =
    on_ok_weaker c.put_picture.result (row_bars_in c.args.chart.now c.args.out.now.items c.put_picture.new.out.items) c.put_picture.ensures

pub returns-clause-frames : goal.returns-clause-frames
returns-clause-frames c =
    on_ok_weaker c.put_picture.result (frames_in c.args.chart.now c.args.out.now.items c.put_picture.new.out.items) c.put_picture.ensures

pub returns-clause-lanes_clear : goal.returns-clause-lanes_clear
returns-clause-lanes_clear c =
    let chart = c.args.chart.now in lanes_clear (view chart) chart.runs chart.apart chart.runs_are (places_all chart.runs)

pub returns-clause-rows_clear : goal.returns-clause-rows_clear
returns-clause-rows_clear c = let chart = c.args.chart.now in rows_clear (view chart) chart.runs chart.apart chart.runs_are

pub returns-clause-inside : goal.returns-clause-inside
returns-clause-inside c = let chart = c.args.chart.now in all_inside (view chart) chart.runs
