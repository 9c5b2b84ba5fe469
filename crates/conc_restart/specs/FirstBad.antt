-- The first event of a list that may not follow those before it.
use Rattle.std.specs.Prelude.{◌≡◌, ℕ, ◌-◌, List, None, Some, IsFalse, reverse, take, ⊤}
use Rattle.conc_types.specs.declared.event.Event.{Event}
use Rattle.conc_types.specs.declared.plan.Plan.{Plan}
use Rattle.conc_types.specs.Words.{numbered}
use Rattle.conc_base_law.specs.Law.{may_follow, LawfulSoFar}
use Rattle.conc_types.specs.declared.error.CheckFail.{CheckFail}
use Rattle.conc_types.specs.declared.error.CheckFail.TheVariants as fail

-- the event at this position, counted from 1, may not follow those before it, and each of those may follow the ones
-- before it. Every life is judged as an earlier one
pub record IsFirstUnlawful (plan : Plan) (events : List Event) (position : ℕ) : Type 0 where
  pub bad : Event
  pub there : numbered events position ≡ Some bad
  pub before : LawfulSoFar plan (take (position - 1) events)
  pub refused : IsFalse (may_follow plan None (reverse (take (position - 1) events)) bad)

-- the failure names that position, or there is no memory
abbrev pub IsListRefused : Plan → List Event → CheckFail → Type 0
IsListRefused plan events (fail.Unlawful position) = IsFirstUnlawful plan events position
IsListRefused plan events fail.NoMemory = ⊤
