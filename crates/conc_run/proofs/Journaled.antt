-- The bytes of the journal of a run.
use Rattle.std.proofs.Common.{◌≡◌, ◌++◌, ℕ, List, length, Option, None, Some, IsSomeAnd, MatchOption, ◌∙◌, ap, subst}
use Rattle.conc_types.specs.declared.digests.Digests.{Digests}
use Rattle.conc_types.specs.declared.event.Event.{Event}
use Rattle.conc_types.specs.declared.plan.Plan.{Plan}
use Rattle.conc_base_law.specs.Alone.{opening}
use Rattle.conc_disk.specs.Disk.{DiskState, SeenFollows}
use Rattle.conc_run_open.specs.Starting.{IsOpened}
use Rattle.conc_run_state.specs.Adding.{AddsRecords, HasRecords}
use Rattle.conc_run.specs.Whole.{IsJournaled}

-- a life was begun, and then the records of further events were added
pub journaled-seen : (plan : Plan) (digests : Digests) (found first list added : List Event) (old mid new : DiskState) → first ≡ opening found → list ≡ first ++ added → SeenFollows (IsOpened plan digests found) old mid
    → AddsRecords plan (length first) added mid new → SeenFollows (IsJournaled plan digests found list) old new
journaled-seen plan digests found first list added old mid new begins all opened records =
    go old.seen mid.seen new.seen opened (subst (λ (l : List Event). AddsRecords plan (length l) added mid new) begins records)
  where
    go : (o s t : Option (List ℕ)) → MatchOption o (s ≡ None) (λ a. IsSomeAnd s (λ b. IsOpened plan digests found a b)) → MatchOption s (t ≡ None) (λ b. IsSomeAnd t (λ c. HasRecords plan (length (opening found)) added b c))
        → MatchOption o (t ≡ None) (λ a. IsSomeAnd t (λ c. IsJournaled plan digests found list a c))
    go None None t one two = two
    go None (Some b) t one two = absurd (cc one)
    go (Some a) None t one two = absurd one
    go (Some a) (Some b) None one two = absurd two
    go (Some a) (Some b) (Some c) one two = record { begun = b; opened = one; added = added; all = all ∙ ap (λ l. l ++ added) begins; records = two }
