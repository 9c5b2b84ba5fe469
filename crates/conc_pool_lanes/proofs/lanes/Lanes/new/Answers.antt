use Rattle.std.proofs.Common.{◌≡◌, true, sym, ◌∙◌, subst}
use Rattle.conc_pool_lanes.specs.Lanes.{are_shorter}
use Rattle.conc_pool_lanes.proofs.Rooms.{empty-shorter}
use Rattle.conc_pool_lanes.proofs.lanes.Lanes.new.Goals as goal

pub returns-clause-room : goal.returns-clause-room
returns-clause-room c = λ n some.
    subst (λ l. are_shorter n l ≡ true) (sym (c.in_ok-passes.ensures.same ∙ c.in_ok-lanes.ensures.empty)) (empty-shorter n c.len-3.result some)
