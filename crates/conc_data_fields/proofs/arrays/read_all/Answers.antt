use Rattle.std.proofs.Common.{◌≡◌, ◌∙◌, map, arith}
use Rattle.std.proofs.lemmas.Grind.{common_steps}
use Rattle.toml.specs.View.{view}
use Rattle.conc_data_fields.proofs.Items.{read_all-view}
use Rattle.conc_data_fields.proofs.arrays.read_all.Goals as goal

pub returns : goal.returns
returns g c =
    let all : c.from_vec.result ≡ map (λ v. g.F.Form.form (view v)) c.args.items.now.items = grind (arith, common_steps) in
    all ∙ read_all-view g.F.Form.form c.args.items.now.items
