use Rattle.conc_base_law.proofs.Intervals.{one_before}
use Rattle.conc_base_law.proofs.no_overlap.Goals as goal

pub returns : goal.returns
returns c = λ plan history lawful x y i j k l hx hy ex ix iy. one_before plan history lawful x y i j k l hx hy ex ix iy
