-- What a crash leaves of a run is not refused.
use Rattle.std.specs.Prelude.{ℕ, List, IsFalse}
use Rattle.conc_types.specs.declared.digests.Digests.{Digests}
use Rattle.conc_types.specs.declared.event.Event.{Event}
use Rattle.conc_types.specs.declared.plan.Plan.{Plan}
use Rattle.conc_base_law.specs.Law.{LawfulSoFar}
use Rattle.conc_journal.specs.Opens.{broken_of, events_of, may_open}
use Rattle.conc_run_state.specs.Causes.{IsOther, IsOtherScript}
use Rattle.conc_run_state.specs.Handed.{IsOwnJournal}
use Rattle.conc_run_state.specs.Judging.{AreGood, EndWithin, IsBadRecord}
use Rattle.conc_run_state.specs.Survival.{Survives}

-- the image is a good journal of this input, for a spool of this many bytes
abbrev pub IsGoodJournal : Plan → Digests → ℕ → List ℕ → Type 0
IsGoodJournal plan digests len image = IsOwnJournal plan digests image × AreGood plan len (events_of image) (broken_of image)

-- it is taken neither for no journal, nor for that of another input or of another script, and no record of it is bad
pub record IsNotRefused (plan : Plan) (digests : Digests) (len : ℕ) (image : List ℕ) : Type 0 where
  pub opens : IsFalse (may_open image) → ⊥
  pub own : (found given : List ℕ) → IsOther digests found given image → ⊥
  pub same_script : (command found given : ℕ) → IsOtherScript plan digests command found given image → ⊥
  pub good : (number : ℕ) → IsBadRecord plan len (events_of image) (broken_of image) number → ⊥

-- ---- the laws

-- what a crash leaves of a journal whose longest list is lawful is good, where the spool has the extents of its events
abbrev pub WhatACrashLeavesIsGood : Type 0
WhatACrashLeavesIsGood =
    (plan : Plan) (digests : Digests) (first last : List Event) (image : List ℕ) (len : ℕ)
    → LawfulSoFar plan last → Survives plan digests first last image → EndWithin len (events_of image)
    → IsGoodJournal plan digests len image

abbrev pub WhatIsGoodIsNotRefused : Type 0
WhatIsGoodIsNotRefused =
    (plan : Plan) (digests : Digests) (len : ℕ) (image : List ℕ)
    → IsGoodJournal plan digests len image → IsNotRefused plan digests len image
