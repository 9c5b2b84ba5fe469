use Rattle.std.proofs.lemmas.List.{nil_from_length}
use Rattle.std.specs.String.{string_bytes}
use Rattle.conc_show_model.specs.Grammar.{shown}
use Rattle.conc_show_model.proofs.SaidWords.{said_all, said_more, said_waits, said_wrong}
use Rattle.conc_show_model.proofs.command.read_said.Goals as goal

pub returns-in_err-said : goal.returns-in_err-said
returns-in_err-said c =
    rw c.from_residual.ensures
    (said_wrong string_bytes _ (shown c.loop-word.said) c.loop-word.rest.now c.in-Some.behind.now c.in-Some.word.now c.as_bytes.result.now c.loop-word.invariant c.in-Some.ensures.cases.0 c.as_bytes.ensures.value
    c.in_err-said.ensures)

pub loop-word-preserved : goal.loop-word-preserved
loop-word-preserved c =
    said_more string_bytes _ (shown c.loop-word.said) (shown c.in_ok-said.said) c.loop-word.rest.now c.in-Some.behind.now c.in-Some.word.now c.as_bytes.result.now c.loop-word.invariant c.in-Some.ensures.cases.0
    c.as_bytes.ensures.value c.in_ok-said.ensures

pub returns-then-is_some : goal.returns-then-is_some
returns-then-is_some c =
    said_waits string_bytes _ (shown c.loop-word.said) c.loop-word.rest.now c.loop-word.invariant (nil_from_length c.loop-word.rest.now c.in_default.ensures.cases) c.if-is_some.ensures

pub returns-else-is_some : goal.returns-else-is_some
returns-else-is_some c =
    said_all string_bytes _ (shown c.loop-word.said) c.loop-word.rest.now c.loop-word.invariant (nil_from_length c.loop-word.rest.now c.in_default.ensures.cases) c.if-is_some.ensures
