-- Where the classes stand that entries and marks speak of.
use Rattle.std.specs.Prelude.{◌≡◌, ℕ, ◌<◌, IsTrue, List, [], length, Some, slice_get, if◌then◌else◌}
use Rattle.conc_types.specs.declared.item.Entry.{Entry}
use Rattle.conc_types.specs.declared.plan.Plan.{Plan}
use Rattle.conc_base_law.specs.Exclusion.{is_set_scope, runs_alone}
use Rattle.conc_base_law.specs.Words.{Has}
use Rattle.conc_event_classes.specs.Keys.{domain_key, item_key, parent_key}
use Rattle.conc_event_classes.specs.Kinds.{kind_at}
use Rattle.conc_event_classes.specs.Shelf.{bucket, IsShelf}
use Rattle.conc_event_classes.specs.declared.kinds.Head.{Head}
use Rattle.conc_event_classes.specs.declared.shelves.Shelves.{Shelves}

-- of the first n classes, each stands where its item, that of its parent and its domain are looked for, and among those that
-- run alone if its program does
pub record AreShelvesTo (plan : Plan) (heads : List Head) (n : ℕ) (s : Shelves) : Type 0 where
  pub items : IsShelf s.by_item
  pub parents : IsShelf s.by_parent
  pub domains : IsShelf s.by_domain
  pub item : (c : ℕ) (head : Head) → c < n → slice_get heads c ≡ Some head → Has (bucket s.by_item (item_key head.item)) c
  pub parent : (c : ℕ) (head : Head) → c < n → slice_get heads c ≡ Some head → Has (bucket s.by_parent (parent_key head.parent)) c
  pub domain : (c : ℕ) (head : Head) → c < n → slice_get heads c ≡ Some head → Has (bucket s.by_domain (domain_key (kind_at plan head))) c
  pub alone : (c : ℕ) (head : Head) → c < n → slice_get heads c ≡ Some head → IsTrue (runs_alone plan.setup head.item) → Has s.alone.items c

-- so of all classes
abbrev pub AreShelves : Plan → List Head → Shelves → Type 0
AreShelves plan heads s = AreShelvesTo plan heads (length heads) s

-- where the members stand that an entry covers beside its other item
unfoldable pub members : Shelves → Entry → List ℕ
members s entry = if is_set_scope entry.scope then bucket s.by_parent (item_key entry.other) else []
