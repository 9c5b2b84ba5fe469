-- What a teller was told of a run.
use Rattle.std.specs.Prelude.{◌≡◌, List, [], ◌∷◌, ◌++◌, Option, IfSome}
use Rattle.conc_types.specs.declared.event.Event.{Event}
use Rattle.conc_types.specs.declared.plan.Plan.{Plan}
use Rattle.conc_base_law.specs.Law.{LawfulSoFar}

-- a teller that has a list was told all but the last event
abbrev pub IsUntold : Option (List Event) → List Event → Type 0
IsUntold told list = IfSome told (λ l. (e : Event) × (list ≡ l ++ e ∷ []))

-- a teller that has a list was told all, and it takes each list that is lawful so far
pub record IsTold (told : Option (List Event)) (takes : List Event → Type 0) (plan : Plan) (list : List Event) : Type 0 where
  pub at : IfSome told (λ l. l ≡ list)
  pub takes_all : (events : List Event) → LawfulSoFar plan events → takes events
