-- Classes that entries and marks lead to from a class.
use Rattle.std.specs.Prelude.{◌≡◌, ◌⊎◌, ℕ, Bool, false, not, if◌then◌else◌, List, [], ◌++◌}
use Rattle.std.specs.List.{flat_map}
use Rattle.conc_types.specs.declared.item.Entry.{Entry}
use Rattle.conc_types.specs.declared.plan.Plan.{Plan}
use Rattle.conc_base_law.specs.Exclusion.{is_global}
use Rattle.conc_event_classes.specs.Keys.{domain_key, item_key}
use Rattle.conc_event_classes.specs.Kinds.{kind_at}
use Rattle.conc_event_classes.specs.Shelf.{bucket}
use Rattle.conc_event_classes.specs.Shelves.{members}
use Rattle.conc_event_classes.specs.declared.candidates.Side.{Side}
use Rattle.conc_event_classes.specs.declared.candidates.Side.TheVariants as side
use Rattle.conc_event_classes.specs.declared.rivals.Claim.{Claim}
use Rattle.conc_event_classes.specs.declared.shelves.Shelves.{Shelves}

-- the entry counts in all domains, where that is asked, or in one
unfoldable pub has_reach : Bool → Entry → Bool
has_reach far entry = if far then is_global entry.reach else not (is_global entry.reach)

-- where the classes stand to which the entry leads: from its owner those that it covers, and from what it covers those of its owner
abbrev pub led : Side → Shelves → Entry → List ℕ
led side.Owner s entry = bucket s.by_item (item_key entry.other) ++ members s entry
led side.Covered s entry = bucket s.by_item (item_key entry.owner)

-- so if the entry has the reach
unfoldable pub reached : Side → Shelves → Bool → Entry → List ℕ
reached from s far entry = if has_reach far entry then led from s entry else []

-- where those stand to which entries of this reach join the class of the claim
unfoldable pub joined : Shelves → Bool → Claim → List ℕ
joined s far claim = flat_map (reached side.Owner s far) claim.owned.items ++ flat_map (reached side.Covered s far) claim.covering.items

-- what was added is where the classes in the domain of the claim's class stand; or, where that does not run alone, where those stand to
-- which entries join it that count in one domain, and those that run alone
abbrev pub AddsNear : Plan → Shelves → Claim → List ℕ → List ℕ → Type 0
AddsNear plan s claim old new =
    (new ≡ old ++ bucket s.by_domain (domain_key (kind_at plan claim.head)))
    ⊎ ((claim.alone ≡ false) × (new ≡ old ++ joined s false claim ++ s.alone.items))
