-- The calls that are to fail.
use Rattle.std.specs.Prelude.{◌≡◌, ◌+◌, min, Bool, ◌==◌}
use Rattle.std.specs.List.{list_any}
use Rattle.conc_edge_devices.specs.declared.counts.Counts.{Counts}

-- the coming call is one of those that are to fail
abbrev pub is_listed : Counts → Bool
is_listed counts = list_any (λ call. call == counts.calls) counts.fails.items

-- one call more was counted, in 64 bits, and the list stays
pub record IsNextCall (old new : Counts) : Type 0 where
  pub calls : new.calls ≡ min (old.calls + 1) 18446744073709551615
  pub fails : new.fails.items ≡ old.fails.items
