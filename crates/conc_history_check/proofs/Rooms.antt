-- How many ticks there are.
use Rattle.std.proofs.Common.{◌≤◌, List, [], ◌∷◌, length, arith}
use Rattle.conc_types.specs.declared.event.Event.{Event}
use Rattle.conc_types.specs.declared.event.Event.TheVariants as event
use Rattle.conc_base_law.specs.Before.{last_life}
use Rattle.conc_base_law.specs.Readings.{ticks}

-- there are no more ticks than events
pub ticks-few : (past : List Event) → ticks past ≤ length past
unfolding ticks last_life
ticks-few [] = omega arith
ticks-few (event.Resume ∷ past) = omega arith
ticks-few (event.Tick t ∷ past) = let few : ticks past ≤ length past = ticks-few past in omega arith
ticks-few (_ ∷ past) = let few : ticks past ≤ length past = ticks-few past in omega arith
