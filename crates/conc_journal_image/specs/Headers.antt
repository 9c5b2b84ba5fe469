-- What begins an image.
use Rattle.std.specs.Prelude.{◌≡◌, ◌≢◌, ℕ, List, [], ◌∷◌, ◌++◌, codes, take, IsFalse, IsTrue}
use Rattle.conc_journal_image.specs.Image.{has_header, IsJournal, is_not_begun, label_in}
use Rattle.conc_journal_image.specs.declared.header.Header.{Header}
use Rattle.conc_journal_image.specs.declared.header.Header.TheVariants.{Begun, Foreign, NotBegun}
use Rattle.conc_types.specs.declared.digests.Digests.{Digests}
use Rattle.conc_journal_image.specs.declared.label.Label.{Label}
use Rattle.conc_journal_image.specs.declared.label.Version.TheVariants.{Two}

-- the image begins like this
abbrev pub IsJudged : List ℕ → Header → Type 0
IsJudged image NotBegun = IsTrue (is_not_begun image)
IsJudged image (Begun label) = IsTrue (has_header image) × (label_in image ≡ label)
IsJudged image Foreign = IsFalse (is_not_begun image) × IsFalse (has_header image)

-- behind an open gate these bytes begin a journal without events, whatever stands behind them
abbrev pub BeginsJournal : Label → List ℕ → Type 0
BeginsJournal label header = (gate : ℕ) (rest : List ℕ) → gate ≢ 0 → IsJournal label [] [] (gate ∷ (header ++ rest))

-- the label of a journal that is begun: of version 2, with both digests
abbrev pub label_of : List ℕ → List ℕ → Label
label_of digest base = record { version = Two; digest = digest; base = base }

abbrev pub label_for : Digests → Label
label_for digests = label_of digests.full (take 15 digests.base)

-- the label of such a journal of version 2, once it has this base digest
abbrev pub migrated : Label → List ℕ → Label
migrated label base = label_of label.digest base

-- the bytes 1 to 64 of a journal's file: the title, the two digests, the open gate of version 2, and the closed gate of the first record
abbrev pub header_behind : List ℕ → List ℕ → List ℕ
header_behind digest base = codes "conc journal 1\n" ++ (digest ++ (base ++ 1 ∷ 0 ∷ []))
