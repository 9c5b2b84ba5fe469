-- Which journals are those of a run's input: of a plan, and the digests of the files that gave it.
use Rattle.std.specs.Prelude.{◌≡◌, ℕ, ◌++◌, Bool, false, true, List, [], map, take, Option, None, Some, IsFalse, ⊤}
use Rattle.std.specs.List.{filter_map}
use Rattle.conc_types.specs.Plans.{stamp}
use Rattle.conc_types.specs.declared.digests.Digests.{Digests}
use Rattle.conc_types.specs.declared.event.Event.{Event}
use Rattle.conc_types.specs.declared.event.Event.TheVariants as event
use Rattle.conc_types.specs.declared.plan.Plan.{Plan}
use Rattle.conc_journal_image.specs.Fields.{command_stamp}
use Rattle.conc_journal_image.specs.declared.label.Label.{Label}
use Rattle.conc_journal_image.specs.declared.label.Version.{Version}
use Rattle.conc_journal_image.specs.declared.label.Version.TheVariants.{One, Two}
use Rattle.conc_journal.specs.Journals.{list_of, stamps_held, state_of}
use Rattle.conc_journal.specs.JournalStates.{state_label}
use Rattle.conc_journal.specs.declared.journal.Journal.{Journal}
use Rattle.conc_journal.specs.declared.journal.JournalState.{JournalState}
use Rattle.conc_journal.specs.declared.journal.JournalState.TheVariants.{NotBegun, BeginFailed, Begun, Broken, AppendFailed, MigrateFailed}
use Rattle.conc_journal.specs.Opens.{events_of, label_of, stamps_of}
use Rattle.conc_run_state.specs.Lists.{longest_of}

-- the number of the command that the event does
abbrev pub command_of : Event → Option ℕ
command_of (event.Command number) = Some number
command_of _ = None

-- the stamps are those of the commands that these events do, each of which the plan has
abbrev pub AreStampsOf : Plan → List Event → List ℕ → Type 0
AreStampsOf plan events stamps = map (stamp plan) (filter_map command_of events) ≡ map Some stamps

-- In version 1 the label has the digest of all files of the input. In version 2 it has the base digest, and the commands have
-- their stamps.
abbrev pub NamesInput : Version → Plan → Digests → Label → List Event → List ℕ → Type 0
NamesInput One plan digests label events stamps = label.digest ≡ digests.full
NamesInput Two plan digests label events stamps = (label.base ≡ take 15 digests.base) × AreStampsOf plan events stamps

-- a journal with this label, these events and these stamps is that of the input
abbrev pub IsOfInput : Plan → Digests → Label → List Event → List ℕ → Type 0
IsOfInput plan digests label events stamps = NamesInput label.version plan digests label events stamps

-- and so is one that is not begun
abbrev pub MayBeOfInput : Plan → Digests → Option Label → List Event → List ℕ → Type 0
MayBeOfInput plan digests None events stamps = ⊤
MayBeOfInput plan digests (Some label) events stamps = IsOfInput plan digests label events stamps

-- no journal was begun in the image, or one of this input
abbrev pub IsOwn : Plan → Digests → List ℕ → Type 0
IsOwn plan digests image = MayBeOfInput plan digests (label_of image) (events_of image) (stamps_of image)

-- ---- of a journal

-- it is begun, and of this input
pub record IsBegunFor (plan : Plan) (digests : Digests) (journal : Journal) : Type 0 where
  pub label : Label
  pub state : state_of journal ≡ Begun label
  pub of_input : IsOfInput plan digests label (list_of journal) (stamps_held journal)

-- the stamp of the command whose append met a fault
abbrev pub failed_stamps : JournalState → List ℕ
failed_stamps NotBegun = []
failed_stamps (BeginFailed label) = []
failed_stamps (Begun label) = []
failed_stamps (Broken label) = []
failed_stamps (AppendFailed label event stamp) = command_stamp event stamp
failed_stamps (MigrateFailed label base) = []

-- its migration met a fault
abbrev pub migrate_failed : JournalState → Bool
migrate_failed (MigrateFailed label base) = true
migrate_failed _ = false

-- it was begun, no migration of it met a fault, and with the event whose append met a fault, if one did, it is of this input
pub record IsHeldFor (plan : Plan) (digests : Digests) (journal : Journal) : Type 0 where
  pub label : Label
  pub labelled : state_label (state_of journal) ≡ Some label
  pub not_migrating : IsFalse (migrate_failed (state_of journal))
  pub of_input : IsOfInput plan digests label (longest_of journal) (stamps_held journal ++ failed_stamps (state_of journal))

-- its label, where it has one, is of version 2
abbrev pub IsOfVersionTwo : Journal → Type 0
IsOfVersionTwo journal = (label : Label) → state_label (state_of journal) ≡ Some label → label.version ≡ Two
