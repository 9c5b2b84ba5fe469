use Rattle.std.proofs.Common.{reverse}
use Rattle.conc_base_posts.proofs.AloneLawful.{next_alone-follows}
use Rattle.conc_base_posts.proofs.alone.choice_is_lawful.Goals as goal

pub returns : goal.returns
returns c = λ plan readings history e h. next_alone-follows plan readings (reverse history) e h
