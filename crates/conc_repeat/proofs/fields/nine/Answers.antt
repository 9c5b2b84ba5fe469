use Rattle.std.proofs.Common.{◌∙◌, sym}
use Rattle.conc_repeat.proofs.NineFields.{nine_are}
use Rattle.conc_repeat.proofs.fields.nine.Goals as goal

pub returns : goal.returns
returns c =
    rw (c.field.ensures, c.field-2.ensures, c.field-3.ensures, c.field-4.ensures, c.field-5.ensures, c.field-6.ensures, c.field-7.ensures, c.field-8.ensures, c.field-9.ensures)
    (nine_are _ (sym c.len.ensures ∙ c.if-len-ne9.false))
