-- Which requests never run at the same time.
use Rattle.std.specs.Prelude.{Bool, true, false, not, ◌&&◌, ◌||◌, Option, slice_get}
use Rattle.std.specs.List.{list_any}
use Rattle.std.specs.Str.{bytes_eq}
use Rattle.conc_types.specs.declared.item.Entry.{Entry}
use Rattle.conc_types.specs.declared.item.Item.{Item}
use Rattle.conc_types.specs.declared.item.Item.TheVariants as item
use Rattle.conc_types.specs.declared.item.Reach.{Reach}
use Rattle.conc_types.specs.declared.item.Reach.TheVariants as reach
use Rattle.conc_types.specs.declared.item.Scope.{Scope}
use Rattle.conc_types.specs.declared.item.Scope.TheVariants as scope
use Rattle.conc_types.specs.declared.setup.Setup.{Setup}
use Rattle.conc_types.specs.declared.plan.Req.{Req}
use Rattle.conc_types.specs.Words.{some_and}
use Rattle.conc_base_law.specs.Words.{id_eq, item_eq}

-- one of the two is the parent of the other
unfoldable pub is_kin : Req → Req → Bool
is_kin x y = some_and (id_eq y.number) x.parent || some_and (id_eq x.number) y.parent

abbrev pub is_global : Reach → Bool
is_global reach.Domain = false
is_global reach.Global = true

abbrev pub is_set_scope : Scope → Bool
is_set_scope scope.Program = false
is_set_scope scope.Set = true

unfoldable pub same_domain : Req → Req → Bool
same_domain x y = bytes_eq x.domain y.domain

-- the entry covers a request of its other item; under scope set also one whose parent is a request of that set
unfoldable pub covers : Entry → Req → Option Item → Bool
covers entry y parent = item_eq entry.other y.item || (is_set_scope entry.scope && some_and (item_eq entry.other) parent)

-- the item is a program that runs alone
unfoldable pub runs_alone : Setup → Item → Bool
runs_alone setup (item.Program n) = some_and (λ p. p.run_alone) (slice_get setup.programs n)
runs_alone setup (item.Set n) = false

-- the entry is of x's item and covers y, and it is global or the domains are equal
unfoldable pub entry_excludes : Req → Req → Option Item → Entry → Bool
entry_excludes x y parent entry =
    item_eq entry.owner x.item && (covers entry y parent && (is_global entry.reach || same_domain x y))

-- such an entry is there; or x's program runs alone, and the domains are equal
unfoldable pub excludes_from : Setup → Req → Req → Option Item → Bool
excludes_from setup x y parent =
    list_any (entry_excludes x y parent) setup.entries
    || (runs_alone setup x.item && same_domain x y)

-- x and y, whose parents have these items, never run at the same time
unfoldable pub excludes : Setup → Req → Req → Option Item → Option Item → Bool
excludes setup x y x_parent y_parent =
    not (id_eq x.number y.number)
    && (not (is_kin x y)
    && (excludes_from setup x y y_parent || excludes_from setup y x x_parent))
