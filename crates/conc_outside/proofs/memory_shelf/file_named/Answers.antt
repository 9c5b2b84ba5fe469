use Rattle.std.proofs.Common.{Some, None, ap, ◌∙◌}
use Rattle.conc_outside.proofs.Shelved.{file_named-row}
use Rattle.conc_outside.proofs.memory_shelf.file_named.Goals as goal

pub returns-in-Some : goal.returns-in-Some
returns-in-Some c =
    ap (λ b. Some b) c.as_slice.ensures.value
    ∙ file_named-row c.args.files.now c.args.name.now (Some c.in-Some.file.now) c.in-Some.ensures

pub returns-in-None : goal.returns-in-None
returns-in-None c = file_named-row c.args.files.now c.args.name.now None c.in-None.ensures
