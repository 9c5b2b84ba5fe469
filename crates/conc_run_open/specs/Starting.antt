-- What a life in a journal is begun with.
use Rattle.std.specs.Prelude.{◌≡◌, ◌⊎◌, ◌+◌, ℕ, List, [], ◌∷◌, length, take, Option, Result, Some, IfOk, IfSome, IsNone, IsTrue, OnOk}
use Rattle.conc_types.specs.declared.digests.Digests.{Digests}
use Rattle.conc_types.specs.declared.event.Event.{Event}
use Rattle.conc_types.specs.declared.event.Event.TheVariants as event
use Rattle.conc_types.specs.declared.plan.Plan.{Plan}
use Rattle.conc_base_law.specs.Alone.{opening}
use Rattle.conc_disk.specs.Disk.{DiskState, written}
use Rattle.conc_disk.specs.Left.{EachImage, LeavesOnly}
use Rattle.conc_disk.specs.declared.error.DiskFault.{DiskFault}
use Rattle.conc_journal_image.specs.Headers.{header_behind}
use Rattle.conc_journal_image.specs.Image.{is_not_begun}
use Rattle.conc_journal.specs.Journals.{list_of, room_of}
use Rattle.conc_journal.specs.Migrating.{migrated_image}
use Rattle.conc_journal.specs.Receipts.{IsNextOf}
use Rattle.conc_journal.specs.declared.journal.Journal.{Journal}
use Rattle.conc_journal.specs.declared.receipt.Receipt.{Receipt}
use Rattle.conc_run_state.specs.Adding.{HasRecords}
use Rattle.conc_run_state.specs.Inputs.{AreStampsOf}
use Rattle.conc_run_state.specs.Survival.{Survives}

-- What a crash left of the journal at each moment, and what it leaves now, is that of a journal of this input, whose list begins with the
-- first one and is a beginning of the last one.
pub record SurvivesBetween (plan : Plan) (digests : Digests) (first last : List Event) (before after : DiskState) : Type 0 where
  pub survives : LeavesOnly (Survives plan digests first last) before after
  pub now : EachImage (Survives plan digests first last) after

-- The list has the resume behind its events, if there were any, and there is so much less room. The receipt, if one is handed out, is that
-- of the resume; if none is, nothing was added.
pub record HasOpened (answer : Result (Option Receipt) DiskFault) (old new : Journal) : Type 0 where
  pub list : OnOk answer (list_of new ≡ opening (list_of old))
  pub room : OnOk answer (room_of new + length (list_of new) ≡ room_of old + length (list_of old))
  pub receipt : IfOk answer (λ resumed. IfSome resumed (IsNextOf (Some (list_of old)) (λ list. list ≡ list_of new)))
  pub still : IfOk answer (λ resumed. IsNone resumed → list_of new ≡ list_of old)

-- ---- the bytes

-- the resume of a life that goes on from events, if there are any
abbrev pub resume_behind : List Event → List Event
resume_behind [] = []
resume_behind (e ∷ events) = event.Resume ∷ []

-- The second image is the first, of a journal with these events, or what migrating makes of it: the stamps of the commands are in their records,
-- the base digest is in the header, and the gate of the version is 1.
abbrev pub IsRenewed : Plan → Digests → List Event → List ℕ → List ℕ → Type 0
IsRenewed plan digests found old new =
    (new ≡ old) ⊎ ((stamps : List ℕ) × AreStampsOf plan found stamps × (new ≡ migrated_image found (take 15 digests.base) stamps old))

-- The second image is that in which a life is begun, the first what was found: where no journal was begun it has the header, and the closed
-- gate behind it; else it was brought to version 2, where it was not of it, and has the record of the resume.
abbrev pub IsOpened : Plan → Digests → List Event → List ℕ → List ℕ → Type 0
IsOpened plan digests found old new =
    (IsTrue (is_not_begun old) × (new ≡ written 0 (1 ∷ header_behind digests.full (take 15 digests.base)) old))
    ⊎ ((renewed : List ℕ) × IsRenewed plan digests found old renewed × HasRecords plan (length found) (resume_behind found) renewed new)
