use Rattle.std.proofs.Common.{◌∙◌, Some, subst, sym, ℕ}
use Rattle.conc_journal_image.specs.Finding.{AreAll}
use Rattle.conc_journal_image.proofs.Pieces.{ends-broken, ends-closed}
use Rattle.conc_journal_image.proofs.found.Found.broken_behind.Goals as goal

pub returns-then-is_closed : goal.returns-then-is_closed
returns-then-is_closed c = λ image first is. ends-closed image c.args.rest.now c.args.self.now first is (sym c.is_closed.ensures ∙ c.if-is_closed.true)

pub returns-else-is_closed : goal.returns-else-is_closed
returns-else-is_closed c = λ image first is.
    subst (λ (n : ℕ). AreAll image c.args.self.now (Some n)) (sym c.next_number.ensures)
    (ends-broken image c.args.rest.now c.args.self.now c.requires.counted first is c.requires.short (sym c.is_closed.ensures ∙ c.if-is_closed.false))
