-- Numbers by which classes are found again.
use Rattle.std.specs.Prelude.{ℕ, ◌+◌, ◌*◌, ◌%◌, List, Option, None, Some}
use Rattle.std.specs.List.{fold}
use Rattle.conc_types.specs.declared.item.Item.{Item}
use Rattle.conc_types.specs.declared.item.Item.TheVariants as item
use Rattle.conc_event_classes.specs.Kinds.{Kind}

-- a number for each item
unfoldable pub item_key : Item → ℕ
item_key (item.Program n) = n * 2
item_key (item.Set n) = n * 2 + 1

-- a number for the item of a parent, and one for none
unfoldable pub parent_key : Option Item → ℕ
parent_key None = 0
parent_key (Some set) = item_key set

-- a number made of each byte in turn
unfoldable pub bytes_key : List ℕ → ℕ
bytes_key bytes = fold (λ key byte. (key * 31 + byte) % 1021) 0 bytes

-- a number for a domain
unfoldable pub domain_key : Kind → ℕ
domain_key kind = bytes_key kind.domain

-- a number for a kind
unfoldable pub kind_key : Kind → ℕ
kind_key kind = item_key kind.item * 1031 + parent_key kind.parent * 61 + domain_key kind
