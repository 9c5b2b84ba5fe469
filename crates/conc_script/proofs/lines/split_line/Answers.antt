use Rattle.std.proofs.Common.{◌∙◌, sym}
use Rattle.conc_script.proofs.LineEnds.{lines_split, lines_whole}
use Rattle.conc_script.proofs.lines.split_line.Goals as goal

pub returns-in-None-clause-lines : goal.returns-in-None-clause-lines
returns-in-None-clause-lines c = lines_whole c.args.bytes.now (sym c.is_empty.ensures ∙ c.if-is_empty.false) (sym c.line_feed.ensures ∙ c.in-None.is)

pub returns-in-Some-clause-lines : goal.returns-in-Some-clause-lines
returns-in-Some-clause-lines c =
    lines_split c.args.bytes.now _ _ _ c.in-Some.end (sym c.line_feed.ensures ∙ c.in-Some.is) c.split_at.ensures.front c.split_at.ensures.back c.without_return.ensures
