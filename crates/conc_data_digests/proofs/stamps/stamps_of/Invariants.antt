use Rattle.std.proofs.Common.{◌≡◌, ◌++◌, drop}
use Rattle.conc_data_digests.specs.Stamps.{stamps_behind, stamps_of}
use Rattle.conc_data_digests.proofs.stamps.stamps_of.Given as goal

-- the stamps so far, and those behind this hash, are all of them
abbrev pub invariant-loop-order : goal.invariant-loop-order
invariant-loop-order l = l.stamps.items ++ stamps_behind l.hash (drop l.order-index l.orders) ≡ stamps_of l.orders
