use Rattle.std.proofs.Common.{◌≡◌, ℕ, List, [], Some, ap, ◌∙◌}
use Rattle.std.specs.Prelude.{IsTrue, slice_get}
use Rattle.std.specs.List.{filter}
use Rattle.std.specs.List.Retain.{DiffersFromLast, IsFiltered}
use Rattle.std.specs.List.Sorted.{IsPermutation, IsSorted}
use Rattle.std.specs.Ordering.{nat_cmp}
use Rattle.std.proofs.Math.Dec.{eqb}
use Rattle.std.proofs.lemmas.Result.{IfOk-weaker}
use Rattle.conc_types.specs.declared.plan.Plan.{Plan}
use Rattle.conc_base_law.specs.Words.{Has}
use Rattle.conc_event_classes.specs.Places.{places_from}
use Rattle.conc_event_classes.specs.Rivals.{clashes_at, heads_clash, IsClaim, row_of}
use Rattle.conc_event_classes.specs.declared.kinds.Head.{Head}
use Rattle.conc_event_classes.specs.declared.rivals.Claim.{Claim}
use Rattle.conc_event_classes.proofs.Rising.{sorted-places}
use Rattle.conc_event_classes.proofs.rivals.row.Goals as goal

-- of what was found and put in order, those that clash are the row
row-found : (plan : Plan) (heads : List Head) (claim : Claim) (head : Head) (found sorted rising slice : List ℕ) → IsClaim plan head claim
    → IsPermutation found sorted → IsSorted nat_cmp sorted → IsFiltered (DiffersFromLast eqb) [] sorted rising → slice ≡ rising
    → ((c : ℕ) (other : Head) → slice_get heads c ≡ Some other → IsTrue (heads_clash plan claim.head other) → Has found c)
    → filter (clashes_at plan heads claim.head) slice ≡ row_of plan heads head
unfolding row_of clashes_at
row-found plan heads claim head found sorted rising slice is same order left whole all =
    ap (filter (clashes_at plan heads claim.head)) whole
    ∙ (sorted-places (heads_clash plan claim.head) heads found sorted rising same order left all
    ∙ ap (λ (h : Head). places_from (heads_clash plan h) 0 heads) is.head)

pub returns : goal.returns
returns c =
    IfOk-weaker c.clashing.result _ _
    (λ row is. is ∙ row-found c.args.plan.now c.args.heads.now c.in_ok-claim.claim c.args.head c.in_ok-found.found.items _ _ _ c.in_ok-claim.ensures
    c.sort_unstable.ensures.permutation c.sort_unstable.ensures.sorted c.dedup.ensures.filtered c.as_slice.ensures.value c.in_ok-found.ensures)
    c.clashing.ensures
