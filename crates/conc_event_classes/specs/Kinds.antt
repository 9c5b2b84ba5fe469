-- What the exclusion of a request depends on, but for kin.
use Rattle.std.specs.Prelude.{ℕ, Bool, true, false, ◌&&◌, ◌||◌, List, [], Option, None, Some, slice_get}
use Rattle.std.specs.List.{list_any}
use Rattle.std.specs.Option.{option_map_or}
use Rattle.std.specs.Str.{bytes_eq}
use Rattle.conc_types.specs.declared.item.Entry.{Entry}
use Rattle.conc_types.specs.declared.item.Item.{Item}
use Rattle.conc_types.specs.declared.plan.Plan.{Plan}
use Rattle.conc_types.specs.declared.plan.Req.{Req}
use Rattle.conc_types.specs.declared.setup.Setup.{Setup}
use Rattle.conc_types.specs.Words.{some_and}
use Rattle.conc_base_law.specs.Exclusion.{is_global, is_set_scope, runs_alone}
use Rattle.conc_base_law.specs.Plans.{parent_item}
use Rattle.conc_base_law.specs.Words.{item_eq}
use Rattle.conc_event_classes.specs.declared.kinds.Head.{Head}

-- an item, the item of the parent, and a domain
pub record Kind : Type 0 where
  pub item : Item
  pub parent : Option Item
  pub domain : List ℕ

unfoldable pub kind_of : Plan → Req → Kind
kind_of plan r = record { item = r.item; parent = parent_item plan r; domain = r.domain }

-- the domain of the request at an index
unfoldable pub domain_at : Plan → ℕ → List ℕ
domain_at plan i = option_map_or (λ r. r.domain) (slice_get plan.requests i) []

unfoldable pub kind_at : Plan → Head → Kind
kind_at plan head = record { item = head.item; parent = head.parent; domain = domain_at plan head.first }

abbrev pub parent_eq : Option Item → Option Item → Bool
parent_eq None None = true
parent_eq None (Some b) = false
parent_eq (Some a) None = false
parent_eq (Some a) (Some b) = item_eq a b

unfoldable pub kind_eq : Kind → Kind → Bool
kind_eq a b = item_eq a.item b.item && (parent_eq a.parent b.parent && bytes_eq a.domain b.domain)

unfoldable pub one_domain : Kind → Kind → Bool
one_domain a b = bytes_eq a.domain b.domain

-- the entry is of the item
unfoldable pub owns : Item → Entry → Bool
owns item entry = item_eq entry.owner item

-- the entry covers requests of the item, whose parents have this item
unfoldable pub covers_item : Item → Option Item → Entry → Bool
covers_item item parent entry = item_eq entry.other item || (is_set_scope entry.scope && some_and (item_eq entry.other) parent)

-- the entry counts between two domains
unfoldable pub reaches : Bool → Entry → Bool
reaches same entry = is_global entry.reach || same

-- an entry of the first, or its mark to run alone, excludes the second
unfoldable pub kind_excludes : Setup → Kind → Kind → Bool
kind_excludes setup a b =
    list_any (λ entry. owns a.item entry && (covers_item b.item b.parent entry && reaches (one_domain a b) entry)) setup.entries
    || (runs_alone setup a.item && one_domain a b)

-- requests of the two kinds exclude each other, unless they are one or kin
unfoldable pub kinds_clash : Setup → Kind → Kind → Bool
kinds_clash setup a b = kind_excludes setup a b || kind_excludes setup b a
