-- The bytes of a journal in which a life is begun.
use Rattle.std.proofs.Common.{◌≡◌, inl, inr, ◌<◌, ℕ, List, [], ◌∷◌, length, take, Option, None, Some, Result, Ok, Err, OnOk, is_some, IsTrue, MatchOption, IsSomeAnd, IfSome, refl, sym, subst, arith}
use Rattle.std.specs.Option.{option_map}
use Rattle.conc_types.specs.declared.digests.Digests.{Digests}
use Rattle.conc_types.specs.declared.event.Event.{Event}
use Rattle.conc_types.specs.declared.event.Event.TheVariants as event
use Rattle.conc_types.specs.declared.plan.Plan.{Plan}
use Rattle.conc_disk.specs.Disk.{DiskState, SeenFollows, written}
use Rattle.conc_journal.specs.Journals.{FitsState, IsOn, list_of, stamps_held, state_of}
use Rattle.conc_journal.specs.Migrating.{HasMigrated, migrated_image}
use Rattle.conc_journal.specs.Writes.{HasAppended, HasBegun}
use Rattle.conc_journal.specs.declared.journal.Journal.{Journal}
use Rattle.conc_journal.specs.declared.journal.JournalState.{JournalState}
use Rattle.conc_journal.specs.declared.journal.JournalState.TheVariants.{NotBegun}
use Rattle.conc_journal_image.specs.Headers.{header_behind}
use Rattle.conc_journal_image.specs.Image.{is_not_begun}
use Rattle.conc_run_state.specs.Adding.{AddsRecords, HasRecords}
use Rattle.conc_run_state.specs.Inputs.{AreStampsOf}
use Rattle.conc_run_state.proofs.Adding.{adds-none, adds-one}
use Rattle.conc_run_open.specs.Starting.{IsOpened, IsRenewed, resume_behind}

-- ---- the header

pub header-opens : (plan : Plan) (digests : Digests) (journal : Journal) (old new : DiskState) → state_of journal ≡ NotBegun → IsOn journal old → IfSome old.seen old.may_leave
    → HasBegun digests old new → is_some new.seen ≡ is_some old.seen → SeenFollows (IsOpened plan digests (list_of journal)) old new
header-opens plan digests journal old new none on left wrote exposes =
    go old.seen new.seen exposes (subst (λ (s : JournalState). IfSome old.seen (λ bytes. (image : List ℕ) → old.may_leave image → FitsState s (stamps_held journal) (list_of journal) image)) none on) left wrote
  where
    go : (o s : Option (List ℕ)) → is_some s ≡ is_some o → IfSome o (λ bytes. (image : List ℕ) → old.may_leave image → IsTrue (is_not_begun image)) → IfSome o old.may_leave
        → IfSome o (λ before. (s ≡ Some (written 0 (1 ∷ header_behind digests.full (take 15 digests.base)) before)) × ((image : List ℕ) → new.may_leave image → image ≡ written 0 (1 ∷ header_behind digests.full (take 15 digests.base)) before))
        → MatchOption o (s ≡ None) (λ before. IsSomeAnd s (λ after. IsOpened plan digests (list_of journal) before after))
    go None None same on left wrote = refl
    go None (Some b) same on left wrote = absurd (cc same)
    go (Some a) s same on left wrote = subst (λ (x : Option (List ℕ)). IsSomeAnd x (λ after. IsOpened plan digests (list_of journal) a after)) (sym wrote.0) (inl (on a left, refl))

-- ---- version 2

pub still-renewed : (plan : Plan) (digests : Digests) (found : List Event) (disk : DiskState) → SeenFollows (IsRenewed plan digests found) disk disk
still-renewed plan digests found disk = go disk.seen where
  go : (o : Option (List ℕ)) → MatchOption o (o ≡ None) (λ before. IsSomeAnd o (λ after. IsRenewed plan digests found before after))
  go None = refl
  go (Some a) = inl refl

migrated-seen : (plan : Plan) (digests : Digests) (found : List Event) (stamps : List ℕ) (old new : DiskState) → AreStampsOf plan found stamps → HasMigrated found (take 15 digests.base) stamps old new → SeenFollows (IsRenewed plan digests found) old new
migrated-seen plan digests found stamps old new these is = go old.seen new.seen is where
  go : (o s : Option (List ℕ)) → s ≡ option_map (migrated_image found (take 15 digests.base) stamps) o → MatchOption o (s ≡ None) (λ before. IsSomeAnd s (λ after. IsRenewed plan digests found before after))
  go None s is = is
  go (Some a) s is = subst (λ (x : Option (List ℕ)). IsSomeAnd x (λ after. IsRenewed plan digests found a after)) (sym is) (inr (stamps, these, refl))

pub migrated-renewed : {E : Type 0} (answer : Result (Unit {0}) E) (plan : Plan) (digests : Digests) (found : List Event) (stamps : List ℕ) (old new : DiskState) → AreStampsOf plan found stamps
    → OnOk answer (HasMigrated found (take 15 digests.base) stamps old new) → OnOk answer (SeenFollows (IsRenewed plan digests found) old new)
migrated-renewed (Ok x) plan digests found stamps old new these is = migrated-seen plan digests found stamps old new these is
migrated-renewed (Err e) plan digests found stamps old new these is = tt

-- ---- the resume

pub resume-written : (plan : Plan) (list : List Event) (old new : DiskState) → 0 < length list → HasAppended event.Resume 0 (length list) old new → is_some new.seen ≡ is_some old.seen
    → AddsRecords plan (length list) (resume_behind list) old new
resume-written plan [] old new some wrote exposes = absurd (omega arith)
resume-written plan (e ∷ list) old new some wrote exposes = adds-one plan (length (e ∷ list)) event.Resume old new wrote exposes

pub no-resume-written : (plan : Plan) (list : List Event) (disk : DiskState) → length list ≡ 0 → AddsRecords plan (length list) (resume_behind list) disk disk
no-resume-written plan [] disk none = adds-none plan 0 disk
no-resume-written plan (e ∷ list) disk none = absurd (omega (arith, none))

-- renewed, and then resumed
pub opened-seen : (plan : Plan) (digests : Digests) (found renewed : List Event) (old mid new : DiskState) → renewed ≡ found → SeenFollows (IsRenewed plan digests found) old mid
    → AddsRecords plan (length renewed) (resume_behind renewed) mid new → SeenFollows (IsOpened plan digests found) old new
opened-seen plan digests found renewed old mid new same first second =
    go old.seen mid.seen new.seen first (subst (λ (l : List Event). AddsRecords plan (length l) (resume_behind l) mid new) same second)
  where
    go : (o s t : Option (List ℕ)) → MatchOption o (s ≡ None) (λ a. IsSomeAnd s (λ b. IsRenewed plan digests found a b)) → MatchOption s (t ≡ None) (λ b. IsSomeAnd t (λ c. HasRecords plan (length found) (resume_behind found) b c))
        → MatchOption o (t ≡ None) (λ a. IsSomeAnd t (λ c. IsOpened plan digests found a c))
    go None None t one two = two
    go None (Some b) t one two = absurd (cc one)
    go (Some a) None t one two = absurd one
    go (Some a) (Some b) None one two = absurd two
    go (Some a) (Some b) (Some c) one two = inr (b, one, two)

pub written-after : {A E : Type 0} (answer : Result A E) (plan : Plan) (digests : Digests) (found renewed : List Event) (old mid new : DiskState) → renewed ≡ found → SeenFollows (IsRenewed plan digests found) old mid
    → OnOk answer (AddsRecords plan (length renewed) (resume_behind renewed) mid new) → OnOk answer (SeenFollows (IsOpened plan digests found) old new)
written-after (Ok x) plan digests found renewed old mid new same first second = opened-seen plan digests found renewed old mid new same first second
written-after (Err e) plan digests found renewed old mid new same first second = tt

-- what was examined is what was found
pub seen-since : (step : List ℕ → List ℕ → Type 0) (old mid new : DiskState) → mid.seen ≡ old.seen → SeenFollows step mid new → SeenFollows step old new
seen-since step old mid new same follows = subst (λ (o : Option (List ℕ)). MatchOption o (new.seen ≡ None) (λ before. IsSomeAnd new.seen (λ after. step before after))) same follows
