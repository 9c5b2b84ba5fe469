-- Sets of stages, one bit for each of the stages 1 to 64, the lowest for stage 1.
use Rattle.std.specs.Prelude.{ℕ, ◌-◌, ◌/◌, ◌%◌, ◌^◌, Bool, ◌&&◌, ◌==◌, bit_or, if◌then◌else◌}
use Rattle.conc_types.specs.Words.{is_between}

-- the bit at a place, from 0, is set
abbrev pub has_bit : ℕ → ℕ → Bool
has_bit bits place = bits / 2 ^ place % 2 == 1

unfoldable pub has_stage : ℕ → ℕ → Bool
has_stage bits stage = is_between 1 64 stage && has_bit bits (stage - 1)

unfoldable pub with_stage : ℕ → ℕ → ℕ
with_stage bits stage = if is_between 1 64 stage then bit_or bits (2 ^ (stage - 1)) else bits
