use Rattle.conc_base_posts.proofs.AloneExists.{alone_exists}
use Rattle.conc_base_posts.proofs.alone.a_run_without_workers_exists.Goals as goal

pub returns : goal.returns
returns c = λ plan readings found h. alone_exists plan readings.list found readings.in_order h
