use Rattle.std.proofs.Common.{ap, ◌∙◌}
use Rattle.conc_outside.specs.Files.{file_named}
use Rattle.conc_outside.specs.Exposed.{exposed}
use Rattle.conc_outside.proofs.Shelved.{front_of-file}
use Rattle.conc_outside.proofs.memory_shelf.MemShelfShelf.read_file.Goals as goal

pub returns-clause-found : goal.returns-clause-found
returns-clause-found c =
    front_of-file _ c.in-Some.bytes.now c.in_ok-to_vec.field-0.items c.min.result
    (c.in-Some.ensures ∙ ap (λ f. file_named (exposed f) c.args.name.now) c.deref.ensures.value)
    c.min.ensures
    (c.in_ok-to_vec.ensures.items_if_clones_equal (λ x y e. e))
