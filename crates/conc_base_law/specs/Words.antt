-- Words on searches and equal values that the other definitions share.
use Rattle.std.specs.Prelude.{◌≡◌, ◌⊎◌, Bool, true, false, not, ◌&&◌, ◌==◌, List, [], ◌∷◌, Option}
use Rattle.std.specs.List.{find, list_any}
use Rattle.conc_types.specs.declared.event.RequestId.{RequestId}
use Rattle.conc_types.specs.declared.item.Item.{Item}
use Rattle.conc_types.specs.declared.item.Item.TheVariants as item

-- the first of those that pass, by an order: no other one that passes stands before it
abbrev pub first_by : {T : Type 0} → (T → T → Bool) → (T → Bool) → List T → Option T
first_by before test xs = find (λ x. test x && not (list_any (λ y. test y && before y x) xs)) xs

abbrev pub item_eq : Item → Item → Bool
item_eq (item.Program a) (item.Program b) = a == b
item_eq (item.Set a) (item.Set b) = a == b
item_eq (item.Program a) (item.Set b) = false
item_eq (item.Set a) (item.Program b) = false

abbrev pub is_set : Item → Bool
is_set (item.Program a) = false
is_set (item.Set a) = true

abbrev pub id_eq : RequestId → RequestId → Bool
id_eq a b = a.number == b.number

-- x is one of the elements
abbrev pub Has : {T : Type 0} → List T → T → Type 0
Has [] x = ⊥
Has (y ∷ ys) x = (x ≡ y) ⊎ Has ys x
