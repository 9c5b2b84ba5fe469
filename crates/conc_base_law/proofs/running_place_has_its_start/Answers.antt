use Rattle.std.proofs.Common.{reverse}
use Rattle.conc_base_law.proofs.OnePlace.{place-occurs}
use Rattle.conc_base_law.proofs.running_place_has_its_start.Goals as goal

pub returns : goal.returns
returns c = λ plan history r place has lawful. place-occurs plan (reverse history) r place has lawful
