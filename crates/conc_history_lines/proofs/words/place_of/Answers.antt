use Rattle.std.proofs.Common.{◌∙◌, sym}
use Rattle.conc_history_lines.proofs.Dots.{no_place, place_round}
use Rattle.conc_history_lines.proofs.words.place_of.Goals as goal

pub returns-in_err-manager : goal.returns-in_err-manager
returns-in_err-manager c = c.from_residual.ensures ∙ sym (no_place c.args.starts.now c.args.word.now c.in_err-manager.ensures.lacks)

pub returns-in_err-read_decimal : goal.returns-in_err-read_decimal
returns-in_err-read_decimal c =
    let round = place_round c.args.starts.now c.args.word.now _ _ c.in_ok-manager.ensures.parts c.in_ok-manager.ensures.first in
    c.from_residual-in_err-read_decimal.ensures ∙ sym (rw (sym c.in_err-read_decimal.ensures) at round)

pub returns-in_err-read_decimal-2 : goal.returns-in_err-read_decimal-2
returns-in_err-read_decimal-2 c =
    let round = place_round c.args.starts.now c.args.word.now _ _ c.in_ok-manager.ensures.parts c.in_ok-manager.ensures.first in
    c.from_residual-in_err-read_decimal-2.ensures ∙ sym (rw (sym c.in_ok-read_decimal.ensures, sym c.in_err-read_decimal-2.ensures) at round)

pub returns : goal.returns
returns c =
    let round = place_round c.args.starts.now c.args.word.now _ _ c.in_ok-manager.ensures.parts c.in_ok-manager.ensures.first in
    c.place_at.ensures ∙ sym (rw (sym c.in_ok-read_decimal.ensures, sym c.in_ok-read_decimal-2.ensures) at round)
