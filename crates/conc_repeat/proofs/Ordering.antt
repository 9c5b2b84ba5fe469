-- What a stable sort by moments makes of submissions.
use Rattle.std.proofs.Common.{◌≡◌, List, subst}
use Rattle.std.specs.Prelude.{IsPermutation}
use Rattle.std.specs.List.Sorted.{IsNonDecreasingBy, IsStableByKey}
use Rattle.std.specs.Ordering.{nat_cmp}
use Rattle.conc_repeat.specs.declared.dues.Due.{Due}
use Rattle.conc_repeat.specs.Script.{IsByMoment, seconds}

pub by_moment : (dues before ordered : List Due) → before ≡ dues → IsPermutation before ordered → IsNonDecreasingBy seconds ordered → IsStableByKey seconds nat_cmp before ordered
    → IsByMoment dues ordered
by_moment dues before ordered e same rising stable =
    subst (λ l. IsByMoment l ordered) e (record { same = same; rising = rising; stable = stable })
