use Rattle.std.proofs.Common.{◌≡◌, map, take}
use Rattle.std.specs.List.{concat}
use Rattle.conc_history.specs.Listing.{listed}
use Rattle.conc_history.proofs.listing.put_plan.Given as goal

abbrev pub invariant-loop-r : goal.invariant-loop-r
invariant-loop-r l =
    l.text.items ≡ concat (map (listed l.plan) (take l.r-index l.r-items))
