-- Which classes exclude a class.
use Rattle.std.specs.Prelude.{◌≡◌, ℕ, Bool, ◌&&◌, ◌||◌, List, map, slice_get}
use Rattle.std.specs.List.{filter, list_any}
use Rattle.conc_types.specs.declared.plan.Plan.{Plan}
use Rattle.conc_types.specs.Words.{some_and}
use Rattle.conc_base_law.specs.Exclusion.{runs_alone}
use Rattle.conc_event_classes.specs.declared.kinds.Head.{Head}
use Rattle.conc_event_classes.specs.declared.rivals.Claim.{Claim}
use Rattle.conc_event_classes.specs.Kinds.{covers_item, kind_at, kinds_clash, owns, reaches}
use Rattle.conc_event_classes.specs.Places.{places_from}

-- the entries of the item, those that cover it, and its mark to run alone
pub record IsClaim (plan : Plan) (h : Head) (claim : Claim) : Type 0 where
  pub head : claim.head ≡ h
  pub owned : claim.owned.items ≡ filter (owns h.item) plan.setup.entries
  pub covering : claim.covering.items ≡ filter (covers_item h.item h.parent) plan.setup.entries
  pub alone : claim.alone ≡ runs_alone plan.setup h.item

-- the class of the claim excludes the other, by an entry or because it runs alone
unfoldable pub claims : Claim → Head → Bool → Bool
claims claim other same =
    list_any (λ entry. covers_item other.item other.parent entry && reaches same entry) claim.owned.items || (claim.alone && same)

-- the other excludes the class of the claim
unfoldable pub claimed_by : Plan → Claim → Head → Bool → Bool
claimed_by plan claim other same =
    list_any (λ entry. owns other.item entry && reaches same entry) claim.covering.items || (runs_alone plan.setup other.item && same)

unfoldable pub either_claims : Plan → Claim → Head → Bool → Bool
either_claims plan claim other same = claims claim other same || claimed_by plan claim other same

unfoldable pub heads_clash : Plan → Head → Head → Bool
heads_clash plan a b = kinds_clash plan.setup (kind_at plan a) (kind_at plan b)

-- the class with this number excludes the class with this head
unfoldable pub clashes_at : Plan → List Head → Head → ℕ → Bool
clashes_at plan heads head c = some_and (heads_clash plan head) (slice_get heads c)

-- the classes with these heads that exclude the class with this head
unfoldable pub row_of : Plan → List Head → Head → List ℕ
row_of plan heads head = places_from (heads_clash plan head) 0 heads

abbrev pub rows_of : Plan → List Head → List Head → List (List ℕ)
rows_of plan all heads = map (row_of plan all) heads
