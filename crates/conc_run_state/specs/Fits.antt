-- Where a journal and a spool fit together.
use Rattle.std.specs.Prelude.{ℕ, List, length, IfSome}
use Rattle.conc_types.specs.declared.digests.Digests.{Digests}
use Rattle.conc_types.specs.declared.plan.Plan.{Plan}
use Rattle.conc_journal.specs.Opens.{broken_of, events_of}
use Rattle.conc_run_state.specs.Disks.{Disks}
use Rattle.conc_run_state.specs.Handed.{IsOwnJournal}
use Rattle.conc_run_state.specs.Judging.{AreGood}
use Rattle.conc_run_state.specs.Stored.{AreStored}

-- The first image is that of a journal of this input, or of one that is not begun, and is good for the second, that of a spool.
-- This holds the text of each of its ends with an extent, from this position on.
pub record Fit (plan : Plan) (digests : Digests) (from : ℕ) (journal spool : List ℕ) : Type 0 where
  pub own : IsOwnJournal plan digests journal
  pub good : AreGood plan (length spool) (events_of journal) (broken_of journal)
  pub stored : AreStored plan from (events_of journal) spool

-- where both disks expose their bytes, what a crash may have left of the journal at some moment since the first fits what it may have left
-- of the spool
abbrev pub FitThroughout : Plan → Digests → ℕ → Disks → Type 0
FitThroughout plan digests from d = IfSome d.journal_before.seen (λ list. IfSome d.spool_before.seen (λ texts.
    (journal spool : List ℕ) → d.journal_after.left_since d.journal_before.moment journal
    → d.spool_after.left_since d.spool_before.moment spool → Fit plan digests from journal spool))
