-- The columns over which the events of a history are drawn.
use Rattle.std.specs.Prelude.{ℕ, ◌*◌, ◌/◌, List, flat_map}
use Rattle.std.specs.List.{range_with_len}

-- how many there are
abbrev pub column_count : ℕ
column_count = 48

-- the column of the event with this index, of so many events
abbrev pub column_of : ℕ → ℕ → ℕ
column_of count index = index * column_count / count

-- what is written for each column, from the first one on
unfoldable pub over_columns : (ℕ → List ℕ) → List ℕ
over_columns f = flat_map f (range_with_len 0 column_count)
