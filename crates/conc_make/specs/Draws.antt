-- The numbers that inputs are drawn from.
use Rattle.std.specs.Prelude.{ℕ, zero, suc, ◌+◌, ◌*◌, ◌/◌, ◌%◌, ◌^◌}

-- the number that comes after one
unfoldable pub next : ℕ → ℕ
next x = (6364136223846793005 * x + 1442695040888963407) % 2 ^ 64

-- the number after so many draws that begin with a number
unfoldable pub after : ℕ → ℕ → ℕ
after zero x = x
after (suc n) x = next (after n x)

-- what is drawn, from 0 and below n, when a draw has come to a number
unfoldable pub drawn : ℕ → ℕ → ℕ
drawn n x = (x / 2 ^ 33) % n
