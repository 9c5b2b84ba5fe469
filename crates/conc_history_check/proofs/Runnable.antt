-- What is kept of a request of the plan, by its number.
use Rattle.std.proofs.Common.{◌≡◌, Bool, false, List, map, ◌∙◌, ap}
use Rattle.std.specs.Prelude.{unwrap_or}
use Rattle.std.specs.Option.{option_map}
use Rattle.conc_types.specs.declared.plan.Plan.{Plan}
use Rattle.conc_types.specs.declared.plan.Req.{Req}
use Rattle.conc_types.specs.Plans.{request}
use Rattle.conc_types.specs.Words.{numbered}
use Rattle.conc_base_law.specs.Next.{can_run}
use Rattle.conc_base_law.specs.Words.{Has}
use Rattle.conc_base_law.proofs.FactsAt.{numbered-map}
use Rattle.conc_base_law.proofs.Numbering.{numbered_plan}

-- the flag of a request is whether it can run at all
pub runnable-own : (plan : Plan) (flags : List Bool) (r : Req) → flags ≡ map (can_run plan) plan.requests → Has plan.requests r
    → unwrap_or (numbered flags r.number.number) false ≡ can_run plan r
unfolding request
runnable-own plan flags r are has =
    ap (λ l. unwrap_or (numbered l r.number.number) false) are
    ∙ ap (λ o. unwrap_or o false) (numbered-map (can_run plan) plan.requests r.number.number)
    ∙ ap (λ o. unwrap_or (option_map (can_run plan) o) false) (numbered_plan plan r has)
