use Rattle.std.proofs.Common.{◌≡◌, map, take}
use Rattle.toml.specs.View.{view}
use Rattle.conc_data_fields.proofs.arrays.read_all.Given as goal

abbrev pub invariant-loop-item : goal.invariant-loop-item
invariant-loop-item g l = l.all.items
    ≡ map (λ v. g.F.Form.form (view v)) (take l.item-index l.item-items)
