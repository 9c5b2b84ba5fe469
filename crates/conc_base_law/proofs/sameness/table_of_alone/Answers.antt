use Rattle.conc_base_law.proofs.SameTable.{alone_whole, say_same}
use Rattle.conc_base_law.proofs.sameness.table_of_alone.Goals as goal

pub returns : goal.returns
returns c = λ plan readings history alone steady whole run. say_same plan readings history alone steady whole (alone_whole plan readings.list alone run)
