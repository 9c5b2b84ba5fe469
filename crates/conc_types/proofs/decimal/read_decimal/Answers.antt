use Rattle.std.proofs.Common.{rules, ◌≡◌, ◌∙◌, sym, true}
use Rattle.conc_types.proofs.Decimals.{parsed_decimal, decimal_is_text, text_of}
use Rattle.conc_types.specs.Decimals.{is_decimal as is_decimal_of}
use Rattle.conc_types.proofs.decimal.read_decimal.Goals as goal

-- src/decimal.rt:46:5
pub returns-in_err-ok : goal.returns-in_err-ok
returns-in_err-ok c =
    let is : is_decimal_of c.args.bytes.now ≡ true = search rules in
    absurd (decimal_is_text c.args.bytes.now c.from_utf8.result _ _ is c.from_utf8.ensures.cases (sym c.ok.ensures.value ∙ c.in_err-ok.was))

-- src/decimal.rt:40:1
pub returns : goal.returns
returns c =
    let is : is_decimal_of c.args.bytes.now ≡ true = search rules in
    let text = text_of c.from_utf8.result _ _ c.in_ok-ok.field-0 c.from_utf8.ensures.cases (sym c.ok.ensures.value ∙ c.in_ok-ok.was) in
    c.ok-2.ensures.value ∙ parsed_decimal c.args.bytes.now c.in_ok-ok.field-0.now c.parse.result is text.0 c.parse.ensures.value.0
