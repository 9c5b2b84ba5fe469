-- The items that a draw can name, and how many requests each enters.
use Rattle.std.proofs.Common.{◌≡◌, ◌∙◌, ◌≤◌, ◌<◌, ℕ, Bool, true, false, ◌&&◌, ◌==◌, if◌then◌else◌, Option, Some, None, ap, arith, refl}
use Rattle.std.specs.Prelude.{nat_lt}
use Rattle.std.specs.Fmt.{digits}
use Rattle.std.specs.List.{list_all, range_with_len}
use Rattle.std.proofs.lemmas.Bool.{and_parts, eqb-true}
use Rattle.std.proofs.lemmas.Bool.Decides.{nat_tests}
use Rattle.conc_types.specs.declared.item.Item.{Item}
use Rattle.conc_types.specs.declared.item.Item.TheVariants as item
use Rattle.conc_types.specs.declared.setup.Setup.{Setup}
use Rattle.conc_types.specs.Scripts.{count_of}
use Rattle.conc_script.specs.Script.{item_named}
use Rattle.conc_make.specs.Files.{item_word}
use Rattle.conc_make.proofs.TheSetup.{got, reading, set_count, the_setup}
use Rattle.conc_make.proofs.Tried.{tried}

-- the item that a drawn number stands for
abbrev pub item_at : ℕ → Item
item_at n = if n == 8 then item.Set 0 else item.Program n

abbrev is_item : ℕ → Option Item → Bool
is_item n None = false
is_item n (Some (item.Program p)) = (p == n) && nat_lt n 8
is_item n (Some (item.Set p)) = (p == 0) && (n == 8)

abbrev finds : Setup → ℕ → Bool
finds setup n = is_item n (item_named setup (item_word n))

abbrev finds_all : Setup → Bool
finds_all setup = list_all (finds setup) (range_with_len 0 9)

all-found : finds_all the_setup ≡ true
unfolding reading the_setup got item_named digits
all-found = refl

item_so : (n : ℕ) (o : Option Item) → is_item n o ≡ true → o ≡ Some (item_at n)
item_so n None e = absurd (cc e)
item_so n (Some (item.Program p)) e =
    let parts = and_parts (p == n) (nat_lt n 8) e in
    let below : nat_lt n 8 ≡ true = parts.1 in
    let low : (n == 8) ≡ false = grind (arith, nat_tests) in
    ap (λ k. Some (item.Program k)) (eqb-true p n parts.0) ∙ rw low refl
item_so n (Some (item.Set p)) e =
    let parts = and_parts (p == 0) (n == 8) e in
    ap (λ k. Some (item.Set k)) (eqb-true p 0 parts.0) ∙ rw parts.1 refl

pub item-found : (n : ℕ) → n < 9 → item_named the_setup (item_word n) ≡ Some (item_at n)
item-found n below = item_so n _ (tried (finds the_setup) 0 9 n all-found (omega arith) (omega arith))

pub item-few : (n : ℕ) → count_of the_setup (item_at n) ≤ 4
item-few n = by (n == 8)
  where
    by : (b : Bool) → count_of the_setup (if b then item.Set 0 else item.Program n) ≤ 4
    by true = omega (arith, set_count)
    by false = omega arith
