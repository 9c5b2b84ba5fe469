-- Which histories are lawful.
use Rattle.std.specs.Prelude.{Bool, true, ◌&&◌, List, [], ◌∷◌, reverse, Option, None, Some, IsTrue, is_none, if◌then◌else◌}
use Rattle.std.specs.Option.{option_map}
use Rattle.conc_types.specs.declared.event.Event.{Event}
use Rattle.conc_types.specs.declared.plan.Plan.{Plan}
use Rattle.conc_types.specs.declared.script.Reading.{Reading}
use Rattle.conc_base_law.specs.Kinds.{is_resume}
use Rattle.conc_base_law.specs.Next.{is_at_rest, may_come}
use Rattle.conc_base_law.specs.Readings.{next_reading}
use Rattle.conc_base_law.specs.State.{state}

-- the event may follow these, which are given with the latest first. The readings of the last life are known, or none are
unfoldable pub may_follow : Plan → Option (List Reading) → List Event → Event → Bool
may_follow plan readings past e =
    may_come plan (state plan past) (option_map (λ known. next_reading known past) readings) e

-- each event may follow those before it, where the readings of no life are known
unfoldable pub is_lawful_so_far : Plan → List Event → Bool
is_lawful_so_far plan [] = true
is_lawful_so_far plan (e ∷ past) = is_lawful_so_far plan past && may_follow plan None past e

-- the same, where the readings of the last life are known. At a resume the life before it becomes an earlier one
unfoldable pub is_lawful : Plan → List Reading → List Event → Bool
is_lawful plan readings [] = true
is_lawful plan readings (e ∷ past) =
    (if is_resume e then is_lawful_so_far plan past else is_lawful plan readings past) && may_follow plan (Some readings) past e

-- ---- of a history, whose events stand in the order in which they came

-- lawful, with every life judged as an earlier one
abbrev pub LawfulSoFar : Plan → List Event → Type 0
LawfulSoFar plan history = IsTrue (is_lawful_so_far plan (reverse history))

abbrev pub Lawful : Plan → List Reading → List Event → Type 0
Lawful plan readings history = IsTrue (is_lawful plan readings (reverse history))

abbrev pub AtRest : Plan → List Event → Type 0
AtRest plan history = IsTrue (is_at_rest plan (state plan (reverse history)))

-- at rest, and all readings of the last life are taken
abbrev pub Finished : Plan → List Reading → List Event → Type 0
Finished plan readings history = AtRest plan history × IsTrue (is_none (next_reading readings (reverse history)))
