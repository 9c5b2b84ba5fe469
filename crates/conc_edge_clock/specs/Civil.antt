-- Civil moments, counted in seconds from 0001-01-01T00:00:00.
use Rattle.std.specs.Prelude.{◌⊎◌, ℤ, pos, ◌+ℤ◌, ◌≤ℤ◌, ◌<ℤ◌}

-- what clocks that are so many seconds ahead of UTC show at so many seconds after 1970-01-01T00:00:00 UTC
abbrev pub shown_at : ℤ → ℤ → ℤ
shown_at second ahead = second +ℤ ahead +ℤ pos 62135596800

-- not in the years 1 to 9999
abbrev pub IsOffYears : ℤ → Type 0
IsOffYears seconds = (seconds <ℤ pos 0) ⊎ (pos 315537897600 ≤ℤ seconds)
