-- A live request of each class: the one with the least number.
use Rattle.std.specs.Prelude.{◌≡◌, ℕ, IsSome, IsTrue, List, Option, Some, is_some, slice_get}
use Rattle.std.specs.List.{find}
use Rattle.std.specs.Option.{option_and_then}
use Rattle.conc_types.specs.declared.facts.State.{State}
use Rattle.conc_types.specs.declared.plan.Plan.{Plan}
use Rattle.conc_types.specs.declared.plan.Req.{Req}
use Rattle.conc_base_law.specs.State.{facts_at, is_live}
use Rattle.conc_base_law.specs.Words.{Has}
use Rattle.conc_event_classes.specs.Classes.{class_at, rivals_at}
use Rattle.conc_event_classes.specs.declared.classes.Classes.{Classes}
use Rattle.conc_event_queue.specs.Least.{least}

-- the number of the request that is noted for a class
unfoldable pub noted : List (List (Option ℕ)) → ℕ → Option ℕ
noted live c = option_and_then least (slice_get live c)

-- the request with the number is live and of the class
abbrev pub IsLiveOf : Plan → Classes → State → ℕ → ℕ → Type 0
IsLiveOf plan classes s c number =
    (q : Req) × Has plan.requests q × (q.number.number ≡ number) × IsTrue (is_live (facts_at s q)) × (class_at classes q ≡ c)

-- each live request has one noted for its class; what is noted is live
pub record AreLive (plan : Plan) (classes : Classes) (s : State) (live : List (List (Option ℕ))) : Type 0 where
  pub known : (q : Req) → Has plan.requests q → IsTrue (is_live (facts_at s q)) → IsSome (noted live (class_at classes q))
  pub own : (c number : ℕ) → noted live c ≡ Some number → IsLiveOf plan classes s c number

-- the request that is noted for the first class that excludes a class and has one
unfoldable pub rival_noted : Classes → List (List (Option ℕ)) → ℕ → Option ℕ
rival_noted classes live c = option_and_then (noted live) (find (λ d. is_some (noted live d)) (rivals_at classes c))
