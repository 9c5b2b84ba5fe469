use Rattle.std.proofs.Common.{◌≡◌, drop}
use Rattle.conc_show_svg.specs.Frame.{first_of}
use Rattle.conc_show_svg.proofs.frame.first_of.Given as goal

abbrev pub invariant-loop-moment : goal.invariant-loop-moment
invariant-loop-moment l = first_of (drop l.moment-index l.moments) ≡ first_of l.moments
