use Rattle.std.proofs.Common.{◌++◌, ◌∙◌, ap, sym}
use Rattle.std.proofs.lemmas.Result.{IfOk-weaker}
use Rattle.csv.specs.Writing.{default_writer, row_text}
use Rattle.conc_repeat.specs.Script.{script_header}
use Rattle.conc_repeat.proofs.LinesWritten.{all_lines, header_alone, one_line}
use Rattle.conc_repeat.proofs.writing.script_bytes.Goals as goal

pub loop-due-init : goal.loop-due-init
loop-due-init c = (
  c.in_ok-put_header.ensures.ready,
  header_alone c.args.all.now c.args.dues.now _ (c.in_ok-put_header.ensures.bytes ∙ ap (λ before. before ++ row_text default_writer script_header) c.new-lines.ensures.empty),
)

pub loop-due-preserved : goal.loop-due-preserved
loop-due-preserved c =
    let here = c.due-item.is in
    let known = rw (sym here) at (c.requires c.loop-due.due-index c.due-item.result c.loop-due-test.true) in (
      c.in_ok-put_submission.ensures.ready,
      one_line c.args.all.now c.args.dues.now c.loop-due.due-index c.due-item.result c.index-all-due.result _ _ c.loop-due-test.true (sym here) known (sym c.index-all-due.is)
          c.loop-due.invariant.1 c.in_ok-put_submission.ensures.bytes,
    )

pub returns : goal.returns
returns c = IfOk-weaker c.into_bytes.result _ _ (λ bytes e. e ∙ all_lines c.args.all.now c.args.dues.now c.loop-due.due-index _ c.loop-due-test.false c.loop-due.invariant.1) c.into_bytes.ensures
