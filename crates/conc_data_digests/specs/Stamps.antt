-- The stamps of commands.
use Rattle.std.specs.Prelude.{ℕ, List, [], ◌∷◌, ◌++◌, length, replicate, take}
use Rattle.std.specs.Int.{from_be_bytes, to_be_bytes, w32, w64}
use Rattle.sha2.specs.Sha256.{sha256}
use Rattle.conc_types.specs.declared.event.RequestId.{RequestId}
use Rattle.conc_types.specs.declared.item.Item.{Item}
use Rattle.conc_types.specs.declared.item.Item.TheVariants as item
use Rattle.conc_types.specs.declared.script.Act.{Act}
use Rattle.conc_types.specs.declared.script.Act.TheVariants as act
use Rattle.conc_types.specs.declared.script.Order.{Order}

-- ---- the coding of a command

-- bytes with their number before them, in 4 bytes
abbrev pub sized : List ℕ → List ℕ
sized bytes = to_be_bytes w32 (length bytes) ++ bytes

-- a program or a set, by its number in the setup, from 0
abbrev pub item_coding : Item → List ℕ
item_coding (item.Program number) = 1 ∷ to_be_bytes w32 number
item_coding (item.Set number) = 2 ∷ to_be_bytes w32 number

-- a command on a request
abbrev pub request_coding : ℕ → RequestId → List ℕ
request_coding code request = code ∷ to_be_bytes w32 request.number

abbrev pub act_coding : Act → List ℕ
act_coding (act.Submit what user priority start domain argument) =
    1 ∷ (item_coding what ++ (priority ∷ (to_be_bytes w64 start.seconds ++ (sized user ++ (sized domain ++ sized argument)))))
act_coding (act.Hold request) = request_coding 2 request
act_coding (act.Unhold request) = request_coding 3 request
act_coding (act.Cancel request) = request_coding 4 request
act_coding (act.Terminate request) = request_coding 5 request

abbrev pub coding : Order → List ℕ
coding order = to_be_bytes w64 order.at.seconds ++ act_coding order.act

-- ---- the chain

-- the hash of a command, behind that of the command before it
abbrev pub hash_behind : List ℕ → Order → List ℕ
hash_behind hash order = sha256 (hash ++ coding order)

-- the number in the first 8 bytes of a hash
abbrev pub stamp_of : List ℕ → ℕ
stamp_of hash = from_be_bytes w64 (take 8 hash)

unfoldable pub stamps_behind : List ℕ → List Order → List ℕ
stamps_behind hash [] = []
stamps_behind hash (order ∷ orders) = stamp_of (hash_behind hash order) ∷ stamps_behind (hash_behind hash order) orders

-- the stamps of these commands; before the first one stand 32 bytes of 0
abbrev pub stamps_of : List Order → List ℕ
stamps_of orders = stamps_behind (replicate 32 0) orders
