-- What an accepted setup keeps.
use Rattle.std.specs.Prelude.{ℕ, Bool, ◌&&◌, nat_lt, List, ◌++◌, length, map}
use Rattle.std.specs.List.{list_all}
use Rattle.std.specs.Str.{bytes_eq}
use Rattle.conc_types.specs.declared.item.Entry.{Entry}
use Rattle.conc_types.specs.declared.item.Item.{Item}
use Rattle.conc_types.specs.declared.item.Item.TheVariants as item
use Rattle.conc_types.specs.declared.manager.Manager.{Manager}
use Rattle.conc_types.specs.declared.program.Program.{Program}
use Rattle.conc_types.specs.declared.manager.Rule.{Rule}
use Rattle.conc_types.specs.declared.set.SetDef.{SetDef}
use Rattle.conc_types.specs.declared.stage.Stage.{Stage}
use Rattle.conc_types.specs.Words.{are_distinct, none_or}

-- ---- names

-- no two programs or sets have one name, no two managers, and no table stands twice
abbrev pub are_named : List (List ℕ) → List Program → List Manager → List SetDef → Bool
are_named tables programs managers sets =
    are_distinct bytes_eq tables
    && (are_distinct bytes_eq (map (λ p. p.name) programs ++ map (λ s. s.name) sets)
    && are_distinct bytes_eq (map (λ m. m.name) managers))

-- ---- references

-- the item is the place of a program or a set, from 0
abbrev pub is_item : List Program → List SetDef → Item → Bool
is_item programs sets (item.Program n) = nat_lt n (length programs)
is_item programs sets (item.Set n) = nat_lt n (length sets)

abbrev pub is_entry : List Program → List SetDef → Entry → Bool
is_entry programs sets entry = is_item programs sets entry.owner && is_item programs sets entry.other

abbrev pub names_program : List Program → Rule → Bool
names_program programs rule = none_or (λ n. nat_lt n (length programs)) rule.program

abbrev pub is_manager : List Program → Manager → Bool
is_manager programs manager =
    list_all (names_program programs) manager.include && list_all (names_program programs) manager.exclude

abbrev pub has_members : List Program → Stage → Bool
has_members programs stage = list_all (λ n. nat_lt n (length programs)) stage.members

abbrev pub is_set_of : List Program → SetDef → Bool
is_set_of programs set = list_all (has_members programs) set.stages

-- each number is the place of a program, set or stage that is there
abbrev pub are_references : List Program → List Entry → List Manager → List SetDef → Bool
are_references programs entries managers sets =
    list_all (is_entry programs sets) entries
    && (list_all (is_manager programs) managers && list_all (is_set_of programs) sets)
