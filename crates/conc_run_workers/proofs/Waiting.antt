-- A request that waits to start.
use Rattle.std.proofs.Common.{◌≡◌, ℕ, ◌+◌, ◌<◌, List, length, get_or, Some, refl, sym, ◌∙◌, subst, arith}
use Rattle.std.specs.Prelude.{slice_get}
use Rattle.std.proofs.lemmas.Option.{slice_get_read}
use Rattle.conc_types.specs.declared.event.RequestId.{RequestId}
use Rattle.conc_types.specs.declared.plan.Plan.{Plan}
use Rattle.conc_types.specs.declared.plan.Req.{Req}
use Rattle.conc_types.specs.Plans.{request}
use Rattle.conc_base_law.specs.Words.{Has}
use Rattle.conc_base_law.proofs.Numbering.{found, numbered-at, numbered_plan}
use Rattle.conc_board.specs.declared.board.Board.{Board}
use Rattle.conc_board.specs.Seats.{plan_of as board_plan}
use Rattle.conc_pool_seats.specs.Words.{IsRequest}
use Rattle.conc_run_desk.specs.Desks.{IsLetIn, plan_at}
use Rattle.conc_run_desk.specs.State.{DeskState}
use Rattle.conc_run_desk.proofs.Named.{of_plan}
use Rattle.conc_run_workers.proofs.Crews.{has-at}

-- what the plan has is a request of it
pub has-request : (plan : Plan) (x : Req) → Has plan.requests x → IsRequest plan x.number
has-request plan x there = of_plan plan x.number x (numbered_plan plan x there)

pub let-request : (board : Board) (desk : DeskState) (r : RequestId) → board_plan board ≡ plan_at desk → IsLetIn desk r → IsRequest (board_plan board) r
let-request board desk r same out =
    subst (λ (p : Plan). IsRequest p r) (sym same) (subst (λ (z : RequestId). IsRequest (plan_at desk) z) out.number (has-request (plan_at desk) out.req out.there))

-- so is the item at a place of its list
pub request-in : (plan : Plan) (items : List Req) (i : ℕ) (x : Req) → items ≡ plan.requests → i < length items → x ≡ get_or items i x → IsRequest plan x.number
request-in plan items i x same below is =
    has-request plan x (subst (λ (l : List Req). Has l x) same (subst (λ (y : Req). Has items y) (sym is) (has-at items i x below)))

-- and its number is the one behind that place
pub number-in : (plan : Plan) (items : List Req) (i : ℕ) (x : Req) → items ≡ plan.requests → i < length items → x ≡ get_or items i x → x.number.number ≡ i + 1
unfolding request
number-in plan items i x same below is =
    (found plan (record { number = i + 1 }) x
    (numbered-at plan.requests (i + 1) i (omega arith) ∙ subst (λ (l : List Req). slice_get l i ≡ Some x) same (slice_get_read items (length items) i x refl below is))).0
