use Rattle.std.specs.Prelude.{reverse}
use Rattle.conc_base_posts.proofs.WholeTables.{table-has}
use Rattle.conc_base_posts.proofs.standing.tables_have_all.Goals as goal

pub returns : goal.returns
returns c = λ plan history name table apart lawful here. table-has plan (reverse history) name table apart lawful here
