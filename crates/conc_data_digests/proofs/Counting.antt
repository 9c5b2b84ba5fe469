-- How many stamps there are.
use Rattle.std.proofs.Common.{◌≡◌, ℕ, suc, List, [], ◌∷◌, length, refl, ap}
use Rattle.conc_types.specs.declared.script.Order.{Order}
use Rattle.conc_data_digests.specs.Stamps.{hash_behind, stamps_behind}

-- one for each command
pub length-stamps_behind : (hash : List ℕ) (orders : List Order) → length (stamps_behind hash orders) ≡ length orders
unfolding stamps_behind
length-stamps_behind hash [] = refl
length-stamps_behind hash (order ∷ orders) = ap suc (length-stamps_behind (hash_behind hash order) orders)
