-- What a run has in common with the run without workers.
use Rattle.std.specs.Prelude.{◌≡◌, ℕ, [], List, take, drop, Some}
use Rattle.conc_types.specs.declared.event.Event.{Event}
use Rattle.conc_types.specs.declared.event.Event.TheVariants as event
use Rattle.conc_types.specs.declared.event.Extent.{Extent}
use Rattle.conc_types.specs.declared.event.Outcome.{Outcome}
use Rattle.conc_types.specs.declared.event.RequestId.{RequestId}
use Rattle.conc_base_law.specs.Alone.{Alone}
use Rattle.conc_base_law.specs.Words.{Has}
use Rattle.conc_base_law.specs.Sameness.{SaySame}
use Rattle.conc_disk.specs.Left.{EachImage}
use Rattle.conc_run_state.specs.Handed.{Handed}
use Rattle.conc_run_state.specs.Stored.{AreStored}

-- the bytes that stand at an extent
abbrev pub text_at : List ℕ → Extent → List ℕ
text_at bytes x = take x.length (drop x.offset bytes)

-- a request that ended with an extent in the one list ended with an extent in the other, with the same outcome, and the bytes of
-- the one have the text there that those of the other have
abbrev pub HasTexts : List Event → List ℕ → List Event → List ℕ → Type 0
HasTexts one bytes another texts =
    (id : RequestId) (o : Outcome) (x : Extent) → Has one (event.Ended id o (Some x))
    → (y : Extent) × Has another (event.Ended id o (Some y)) × (text_at bytes x ≡ text_at texts y)

-- The history has the result of the run without workers over an empty journal: the same table, the same requests with an end
-- that has a report, and each of these with the same outcome and the same text, in each image of the spool that is left and in
-- whatever bytes hold the texts of that run.
pub record HasResultOfAlone (h : Handed) (list : List Event) : Type 0 where
  pub same : (alone : List Event) → Alone h.plan h.readings [] alone → SaySame h.plan list alone
  pub texts : (alone : List Event) (texts : List ℕ) → Alone h.plan h.readings [] alone → AreStored h.plan 0 alone texts
      → EachImage (λ image. HasTexts list image alone texts × HasTexts alone texts list image) h.disks.spool_after
