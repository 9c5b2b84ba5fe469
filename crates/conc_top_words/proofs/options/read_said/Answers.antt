use Rattle.std.proofs.Common.{◌∙◌, ap, map, sym}
use Rattle.std.specs.String.{string_bytes}
use Rattle.conc_top_words.specs.Saying.{shown}
use Rattle.conc_top_words.specs.Words.{said, takes_next}
use Rattle.conc_top_words.proofs.SaidWords.{reads-all, reads-alone, reads-neither, reads-nothing, reads-option, reads-word}
use Rattle.conc_top_words.proofs.options.read_said.Goals as goal

pub loop-word-init : goal.loop-word-init
loop-word-init c = reads-nothing _ (said (map string_bytes c.args.words.now)) c.nothing-said.ensures

pub returns : goal.returns
returns c = reads-all string_bytes _ (shown c.loop-word.said) _ _ c.loop-word.invariant c.in_default.ensures.cases

pub returns-then-not-branch : goal.returns-then-not-branch
returns-then-not-branch c =
    let bytes = c.as_bytes-then-not-takes_next.ensures.value in
    let plain = ap takes_next (bytes ∙ sym c.as_bytes.ensures.value) ∙ sym c.if-not-takes_next.ensures in
    reads-neither string_bytes _ (shown c.loop-word.said) _ _ c.loop-word.invariant _ _ _ c.in-Some.ensures.cases.0 bytes plain (c.in_ok-add_word.ensures.neither c.if-not-branch.true)

pub loop-word-preserved-then-not-takes_next : goal.loop-word-preserved-then-not-takes_next
loop-word-preserved-then-not-takes_next c =
    let bytes = c.as_bytes-then-not-takes_next.ensures.value in
    let plain = ap takes_next (bytes ∙ sym c.as_bytes.ensures.value) ∙ sym c.if-not-takes_next.ensures in
    reads-word string_bytes _ (shown c.add_word.new.self) _ _ c.loop-word.invariant _ _ _ c.in-Some.ensures.cases.0 bytes plain (c.in_ok-add_word.ensures.added c.if-not-branch.false)

pub returns-in_default-split_first : goal.returns-in_default-split_first
returns-in_default-split_first c =
    reads-alone string_bytes _ (shown c.loop-word.said) _ _ c.loop-word.invariant _ _ _ c.in-Some.ensures.cases.0 c.as_bytes.ensures.value
    c.in_default-split_first.ensures.cases (sym c.if-not-takes_next.ensures)

pub loop-word-preserved : goal.loop-word-preserved
loop-word-preserved c =
    let bytes = c.as_bytes-in-Some.ensures.value in
    let takes = ap takes_next (bytes ∙ sym c.as_bytes.ensures.value) ∙ sym c.if-not-takes_next.ensures in
    reads-option string_bytes _ (shown c.add_option.new.self) _ _ c.loop-word.invariant _ _ _ c.in-Some.ensures.cases.0 bytes
    _ _ _ c.in-Some-split_first.ensures.cases.0 c.as_bytes-in-Some-2.ensures.value takes c.in_ok-add_option.ensures
