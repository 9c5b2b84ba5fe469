-- Records that are added to a journal, one after another.
use Rattle.std.proofs.Common.{◌≡◌, ℕ, ◌+◌, List, [], ◌∷◌, ◌++◌, length, Option, None, Some, is_some, MatchOption, IsSomeAnd, IfSome, refl, sym, ◌∙◌, ap, subst, arith}
use Rattle.conc_types.specs.declared.event.Event.{Event}
use Rattle.conc_types.specs.declared.plan.Plan.{Plan}
use Rattle.conc_disk.specs.Disk.{DiskState, written}
use Rattle.conc_journal.specs.Writes.{behind_open_gate, HasAppended, Spells}
use Rattle.conc_journal_image.specs.Layout.{offset_behind}
use Rattle.conc_run_state.specs.Adding.{AddsRecords, HasRecords, stamp_for}

-- none is added
pub adds-none : (plan : Plan) (records : ℕ) (disk : DiskState) → AddsRecords plan records [] disk disk
adds-none plan records disk = go disk.seen where
  go : (seen : Option (List ℕ)) → MatchOption seen (seen ≡ None) (λ before. IsSomeAnd seen (λ after. after ≡ before))
  go None = refl
  go (Some bytes) = refl

-- one is added
pub adds-one : (plan : Plan) (records : ℕ) (e : Event) (old new : DiskState) → HasAppended e (stamp_for plan e) records old new → is_some new.seen ≡ is_some old.seen → AddsRecords plan records (e ∷ []) old new
adds-one plan records e old new (bytes, spelled, wrote) exposes = go old.seen new.seen exposes wrote where
  go : (o s : Option (List ℕ)) → is_some s ≡ is_some o
      → IfSome o (λ before. (s ≡ Some (written (offset_behind records) (behind_open_gate bytes) before)) × ((image : List ℕ) → new.may_leave image → image ≡ written (offset_behind records) (behind_open_gate bytes) before))
      → MatchOption o (s ≡ None) (λ before. IsSomeAnd s (λ after. HasRecords plan records (e ∷ []) before after))
  go None None same wrote = refl
  go None (Some b) same wrote = absurd (cc same)
  go (Some a) s same wrote = subst (λ (x : Option (List ℕ)). IsSomeAnd x (λ after. HasRecords plan records (e ∷ []) a after)) (sym wrote.0) (bytes, spelled, refl)

-- the images behind some, and behind some more
has-twice : (plan : Plan) (records : ℕ) (first second : List Event) (a b c : List ℕ) → HasRecords plan records first a b → HasRecords plan (records + length first) second b c → HasRecords plan records (first ++ second) a c
has-twice plan records [] second a b c one two = subst (λ (z : ℕ × List ℕ). HasRecords plan z.0 second z.1 c) (λ i. (here i, one i)) two where
  here : records + 0 ≡ records
  here = omega arith
has-twice plan records (e ∷ first) second a b c (bytes, spelled, one) two = (
  bytes,
  spelled,
  has-twice plan (records + 1) first second (written (offset_behind records) (behind_open_gate bytes) a) b c one
      (subst (λ (n : ℕ). HasRecords plan n second b c) behind two),
)
  where
    behind : records + length (e ∷ first) ≡ records + 1 + length first
    behind = omega arith

-- some are added, and some more behind them
pub adds-twice : (plan : Plan) (records : ℕ) (first second : List Event) (old mid new : DiskState) → AddsRecords plan records first old mid → AddsRecords plan (records + length first) second mid new
    → AddsRecords plan records (first ++ second) old new
adds-twice plan records first second old mid new one two = go old.seen mid.seen new.seen one two where
  go : (o s t : Option (List ℕ)) → MatchOption o (s ≡ None) (λ a. IsSomeAnd s (λ b. HasRecords plan records first a b)) → MatchOption s (t ≡ None) (λ b. IsSomeAnd t (λ c. HasRecords plan (records + length first) second b c))
      → MatchOption o (t ≡ None) (λ a. IsSomeAnd t (λ c. HasRecords plan records (first ++ second) a c))
  go None None t one two = two
  go None (Some b) t one two = absurd (cc one)
  go (Some a) None t one two = absurd one
  go (Some a) (Some b) None one two = absurd two
  go (Some a) (Some b) (Some c) one two = has-twice plan records first second a b c one two
