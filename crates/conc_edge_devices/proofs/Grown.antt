-- A trace with one more change: what is read, what a crash may leave, and how time goes on.
use Rattle.std.proofs.Common.{◌≡◌, ℕ, ◌≤◌, List, [], ◌∷◌, ◌++◌, Some, sym, ◌∙◌, ap, subst}
use Rattle.conc_disk.specs.Disk.{IsLater, Stays}
use Rattle.conc_edge_devices.specs.Grows.{Grows, start}
use Rattle.conc_edge_devices.specs.Laws.{seen-is-left}
use Rattle.conc_edge_devices.specs.Memory.{exposed}
use Rattle.conc_edge_devices.specs.Trace.{ActLeaves, after, after_act, Leaves}
use Rattle.conc_edge_devices.specs.declared.trace.Act.{Act}
use Rattle.conc_edge_devices.specs.declared.trace.Act.TheVariants.{Sync}
use Rattle.conc_edge_devices.specs.declared.trace.Change.{Change}
use Rattle.conc_edge_devices.specs.declared.trace.Trace.{Trace}
use Rattle.conc_edge_devices.proofs.Changes.{after-push, leaves-push}
use Rattle.conc_edge_devices.proofs.Moments.{later-push}

module _ (old new : Trace) (number : ℕ) (act : Act) (grows : Grows old new number act) where
  change : Change
  change = record { number = number; act = act }

  pub bytes-grown : new.bytes.items ≡ after_act act old.bytes.items
  bytes-grown =
      new.replays
      ∙ ap (after new.changes.items) grows.start
      ∙ ap (λ (l : List Change). after l (start old)) grows.changes
      ∙ after-push old.changes.items (record { number = number; act = act }) (start old)
      ∙ ap (after_act act) (sym old.replays)

  pub images-grown : (c : List ℕ) → Leaves new.changes.items (start new) (start new) c → (d : List ℕ) × Leaves old.changes.items (start old) (start old) d × ActLeaves act old.bytes.items d c
  images-grown c left =
      let here : Leaves new.changes.items (start old) (start old) c = subst (λ (s : List ℕ). Leaves new.changes.items s s c) grows.start left in
      let more : Leaves (old.changes.items ++ record { number = number; act = act } ∷ []) (start old) (start old) c = subst (λ (l : List Change). Leaves l (start old) (start old) c) grows.changes here in
      let split = leaves-push old.changes.items (record { number = number; act = act }) (start old) (start old) c more in
      (split.0, split.1, subst (λ (s : List ℕ). ActLeaves act s split.0 c) (sym old.replays) split.2)

  pub later-grown : (before now : ℕ) → before ≤ now → IsLater (exposed (start old) old.bytes.items old.changes.items before) (exposed (start new) new.bytes.items new.changes.items now)
  later-grown before now le =
      subst (λ (s : List ℕ). IsLater (exposed (start old) old.bytes.items old.changes.items before) (exposed s new.bytes.items new.changes.items now)) (sym grows.start)
      (subst (λ (l : List Change). IsLater (exposed (start old) old.bytes.items old.changes.items before) (exposed (start old) new.bytes.items l now)) (sym grows.changes)
      (later-push old.changes.items (record { number = number; act = act }) (start old) old.bytes.items new.bytes.items before now le))

-- a sync
pub stays-synced : (old new : Trace) (number before now : ℕ) → Grows old new number Sync → Stays (exposed (start old) old.bytes.items old.changes.items before) (exposed (start new) new.bytes.items new.changes.items now)
stays-synced old new number before now grows = record {
  seen = ap Some (bytes-grown old new number Sync grows);
  images = λ c left.
      let split = images-grown old new number Sync grows c left in
      subst (λ (l : List ℕ). Leaves old.changes.items (start old) (start old) l) (sym split.2) (seen-is-left old.changes.items (start old) old.bytes.items old.replays old.fit);
}
