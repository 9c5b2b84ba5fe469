use Rattle.std.proofs.Common.{◌∙◌, ap, sym, arith, ℕ, ◌+◌}
use Rattle.std.specs.Prelude.{Option}
use Rattle.std.specs.Option.{option_map}
use Rattle.conc_history_lines.specs.History.{whole_lines}
use Rattle.conc_show_model.specs.declared.fail.ChartWhy.TheVariants as why
use Rattle.conc_show_model.specs.Whys.{in_history}
use Rattle.conc_show_model.proofs.Judged.{none_from}
use Rattle.conc_show_model.proofs.Tabled.{IsStopped, read_fault, read_more, read_none, read_rows, stopped_at, stopped_end}
use Rattle.conc_show_model.proofs.table.read_table.Goals as goal
use Rattle.conc_show_model.proofs.table.read_table.Goals.{in-Some+in_ok-row+in_default-2, in_default}

pub loop-line-init : goal.loop-line-init
loop-line-init c = read_none c.args.text.now c.args.first c.new-rows.result.items c.new-rows.ensures.items

pub loop-line-preserved : goal.loop-line-preserved
loop-line-preserved c =
    read_more c.args.text.now c.loop-line.rest.now c.in-Some.line.now c.in-Some.after.now c.args.first c.loop-line.last c.loop-line.rows.items c.push.new.self.items c.in-Some-2.row
    c.loop-line.invariant c.in-Some.ensures.lines c.in-Some.ensures.length (sym c.in_ok-row.ensures ∙ c.in-Some-2.is) c.in_ok-push.ensures.items

pub returns-in-Some-watch_fault-clause-err : goal.returns-in-Some-watch_fault-clause-err
returns-in-Some-watch_fault-clause-err c =
    let stop : IsStopped c.loop-line.last (whole_lines c.loop-line.rest.now) = elim c.match-split_line.branch [
      | in-Some+in_ok-row+in_default-2 w ↦ stopped_at c.loop-line.last c.loop-line.rest.now w.in-Some.line.now (whole_lines w.in-Some.after.now) w.in-Some.ensures.lines (sym w.in_ok-row.ensures ∙ none_from w.in_ok-row.field-0 w.in_default-2.not-Some)
      | in_default w ↦ stopped_end c.loop-line.last c.loop-line.rest.now w.in_default.ensures.lines
    ] in
    let fault = read_fault c.args.text.now c.loop-line.rest.now c.args.first c.loop-line.last (c.args.first + c.len.result) c.loop-line.rows.items c.watch_fault.result c.loop-line.invariant stop (omega arith) c.watch_fault.ensures in
    rw c.refused.ensures (ap (λ (o : Option ℕ). option_map (in_history why.NoTableLine) o) (fault ∙ c.in-Some-watch_fault.is))

pub returns-in-None-clause-rows : goal.returns-in-None-clause-rows
returns-in-None-clause-rows c =
    let stop : IsStopped c.loop-line.last (whole_lines c.loop-line.rest.now) = elim c.match-split_line.branch [
      | in-Some+in_ok-row+in_default-2 w ↦ stopped_at c.loop-line.last c.loop-line.rest.now w.in-Some.line.now (whole_lines w.in-Some.after.now) w.in-Some.ensures.lines (sym w.in_ok-row.ensures ∙ none_from w.in_ok-row.field-0 w.in_default-2.not-Some)
      | in_default w ↦ stopped_end c.loop-line.last c.loop-line.rest.now w.in_default.ensures.lines
    ] in
    read_rows c.args.text.now c.loop-line.rest.now c.args.first c.loop-line.last c.loop-line.rows.items c.loop-line.invariant stop

pub returns-in-None-clause-ok : goal.returns-in-None-clause-ok
returns-in-None-clause-ok c =
    let stop : IsStopped c.loop-line.last (whole_lines c.loop-line.rest.now) = elim c.match-split_line.branch [
      | in-Some+in_ok-row+in_default-2 w ↦ stopped_at c.loop-line.last c.loop-line.rest.now w.in-Some.line.now (whole_lines w.in-Some.after.now) w.in-Some.ensures.lines (sym w.in_ok-row.ensures ∙ none_from w.in_ok-row.field-0 w.in_default-2.not-Some)
      | in_default w ↦ stopped_end c.loop-line.last c.loop-line.rest.now w.in_default.ensures.lines
    ] in
    read_fault c.args.text.now c.loop-line.rest.now c.args.first c.loop-line.last (c.args.first + c.len.result) c.loop-line.rows.items c.watch_fault.result c.loop-line.invariant stop (omega arith) c.watch_fault.ensures ∙ c.in-None.is
