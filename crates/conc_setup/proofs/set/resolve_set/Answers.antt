use Rattle.std.proofs.Common.{◌∙◌, sym}
use Rattle.conc_setup.proofs.Looked.{stages-few, stages-stand}
use Rattle.conc_setup.proofs.set.resolve_set.Goals as goal

pub set_with-requires : goal.set_with-requires
set_with-requires c =
    let right = rw (c.in_ok-all.ensures, c.as_slice.ensures) at (sym c.in_ok-stages.ensures) in
    record {
      some = stages-few c.args.items.now.programs.now c.args.set.now.stages.list c.in_ok-stages.stages right c.args.set.now.stages.counted;
      forward = stages-stand c.args.items.now.programs.now c.args.set.now.stages.list c.in_ok-stages.stages right c.requires;
    }
