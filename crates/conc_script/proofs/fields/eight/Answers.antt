use Rattle.std.proofs.Common.{◌∙◌, sym}
use Rattle.conc_script.proofs.EightFields.{eight_are}
use Rattle.conc_script.proofs.fields.eight.Goals as goal

pub returns : goal.returns
returns c =
    rw (c.field.ensures, c.field-2.ensures, c.field-3.ensures, c.field-4.ensures, c.field-5.ensures, c.field-6.ensures, c.field-7.ensures, c.field-8.ensures)
    (eight_are _ (sym c.len.ensures ∙ c.if-len-ne8.false))
