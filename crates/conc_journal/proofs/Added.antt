-- What images of a journal are while a record is added.
use Rattle.std.proofs.Common.{◌≡◌, ◌⊎◌, inl, inr, ℕ, ◌+◌, ◌*◌, ◌<◌, List, [], ◌∷◌, ◌++◌, length, drop, sym, subst, ◌∙◌, ap, arith}
use Rattle.conc_types.specs.declared.event.Event.{Event}
use Rattle.conc_disk.specs.Disk.{written}
use Rattle.conc_journal_image.specs.Fields.{command_stamp}
use Rattle.conc_journal_image.specs.Image.{HasNext, IsJournal}
use Rattle.conc_journal_image.specs.declared.label.Label.{Label}
use Rattle.conc_journal_image.proofs.Appends.{gate-either, gate-written, record-written, written-stays}
use Rattle.conc_journal.specs.Left.{AddsTo}
use Rattle.conc_journal.specs.Records.{IsSpelled}

module _ (label : Label) (stamps : List ℕ) (events : List Event) (event : Event) (stamp : ℕ) (spelled old : List ℕ) (room : length events < 1048576) (is : IsSpelled event stamp spelled) (journal : IsJournal label stamps events old) where
  abbrev at : ℕ
  at = 64 + 32 * length events

  -- after the first write the record stands behind the gate
  record-stands : IsJournal label stamps events (written (at + 1) spelled old) × HasNext events event stamp (written (at + 1) spelled old)
  record-stands =
      subst (λ (s : List ℕ). IsJournal label stamps events (written (at + 1) s old) × HasNext events event stamp (written (at + 1) s old)) (sym is.2)
      (record-written label stamps events event stamp is.0 old (drop (at + 1 + length (is.0 ++ 0 ∷ [])) old) journal is.1)

  adds-here : (new : List ℕ) → AddsTo at spelled old new → IsJournal label stamps events new ⊎ IsJournal label (stamps ++ command_stamp event stamp) (events ++ event ∷ []) new
  adds-here new (inl torn) = inl (written-stays label stamps events old new journal torn.before)
  adds-here new (inr torn) = gate-either label stamps events event stamp (written (at + 1) spelled old) new record-stands.0 room record-stands.1 torn.before torn.after torn.no_shorter

  -- an image to which the record is being added
  pub adds-fits : (here : ℕ) (new : List ℕ) → here ≡ at → AddsTo here spelled old new → IsJournal label stamps events new ⊎ IsJournal label (stamps ++ command_stamp event stamp) (events ++ event ∷ []) new
  adds-fits here new is_here adds = adds-here new (subst (λ (k : ℕ). AddsTo k spelled old new) is_here adds)

  -- an image to which it was added
  pub added-fits : (here : ℕ) (new : List ℕ) → here ≡ at → new ≡ written here (1 ∷ []) (written (here + 1) spelled old) → IsJournal label (stamps ++ command_stamp event stamp) (events ++ event ∷ []) new
  added-fits here new is_here is_new =
      subst (λ (c : List ℕ). IsJournal label (stamps ++ command_stamp event stamp) (events ++ event ∷ []) c) (sym (is_new ∙ ap (λ (k : ℕ). written k (1 ∷ []) (written (k + 1) spelled old)) is_here))
      (gate-written label stamps events event stamp 1 (written (at + 1) spelled old) record-stands.0 room record-stands.1 (omega arith))
