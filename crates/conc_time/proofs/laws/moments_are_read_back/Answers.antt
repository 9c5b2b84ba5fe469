use Rattle.std.proofs.Common.{refl}
use Rattle.conc_base_law.specs.Moments.{moment_text}
use Rattle.conc_time.proofs.Spellings.{spelled_once, spells_is_read}
use Rattle.conc_time.proofs.laws.moments_are_read_back.Goals as goal

pub returns : goal.returns
returns c = λ t. spells_is_read (moment_text t) t ((spelled_once (moment_text t) t).1 refl)
