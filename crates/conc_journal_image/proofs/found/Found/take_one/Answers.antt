use Rattle.std.proofs.Common.{◌∙◌, ◌++◌, Some, ap, arith, subst, sym, ℕ}
use Rattle.conc_journal_image.specs.Fields.{command_stamp}
use Rattle.conc_journal_image.specs.Finding.{AreAll}
use Rattle.conc_journal_image.proofs.Pieces.{leads-broken, leads-closed, leads-full, leads-taken}
use Rattle.conc_journal_image.proofs.found.Found.take_one.Goals as goal

pub returns-then-is_closed-clause-leads : goal.returns-then-is_closed-clause-leads
returns-then-is_closed-clause-leads c = λ image first begins.
    leads-closed image c.args.bytes.now c.args.self.now first begins c.requires.long (sym c.is_closed.ensures ∙ c.if-is_closed.true)

pub returns-then-len-eq-MOST_RECORDS-clause-leads : goal.returns-then-len-eq-MOST_RECORDS-clause-leads
returns-then-len-eq-MOST_RECORDS-clause-leads c = λ image first begins.
    subst (λ (n : ℕ). AreAll image c.args.self.now (Some n)) (sym c.next_number.ensures)
    (leads-full image c.args.bytes.now c.args.self.now first begins c.requires.long (sym c.is_closed.ensures ∙ c.if-is_closed.false) (omega arith))

pub returns-in_default-clause-leads : goal.returns-in_default-clause-leads
returns-in_default-clause-leads c = λ image first begins.
    subst (λ (n : ℕ). AreAll image c.args.self.now (Some n)) (sym c.next_number-in_default.ensures)
    (leads-broken image c.args.bytes.now c.args.self.now first begins c.requires.long (sym c.is_closed.ensures ∙ c.if-is_closed.false) (omega arith) (sym c.in_default.ensures.event))

pub returns-clause-leads : goal.returns-clause-leads
returns-clause-leads c = λ image first begins.
    leads-taken image c.args.bytes.now c.args.self.now _ c.in-Some.whole.event first begins c.requires.long (sym c.is_closed.ensures ∙ c.if-is_closed.false) (omega arith)
    (sym c.in-Some.ensures.event) c.in_ok-push.ensures.items
    (c.in_ok-push_stamp.ensures ∙ ap (λ s. c.args.self.now.stamps.items ++ command_stamp c.in-Some.whole.event s) c.in-Some.ensures.stamp)
