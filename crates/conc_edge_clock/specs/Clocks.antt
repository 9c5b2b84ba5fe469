-- Clocks: the moments that they still give, and how often they failed.
use Rattle.std.specs.Prelude.{◌≡◌, ℕ, List, ◌∷◌, Option}
use Rattle.std.specs.Option.{option_map}
use Rattle.conc_types.specs.declared.event.Moment.{Moment}

-- the moments that a clock still gives, if it exposes them, and how often it failed
pub record ClockState : Type 0 where
  pub moments : Option (List Moment)
  pub faults : ℕ

-- the moment is the first of those that were exposed, and the rest is exposed now; or none were exposed, and none are
abbrev pub Gives : Option (List Moment) → Moment → Option (List Moment) → Type 0
Gives exposed moment rest = exposed ≡ option_map (λ moments. moment ∷ moments) rest
