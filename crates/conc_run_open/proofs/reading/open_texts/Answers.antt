use Rattle.std.proofs.Common.{subst, ℕ}
use Rattle.conc_journal_spool.specs.Spools.{IsShort}
use Rattle.conc_run_open.specs.Refusals.{IsRefused}
use Rattle.conc_run_open.proofs.Finding.{short-unreadable}
use Rattle.conc_run_open.proofs.reading.open_texts.Goals as goal

pub returns-in-Err-Short-clause-unreadable : goal.returns-in-Err-Short-clause-unreadable
returns-in-Err-Short-clause-unreadable g c = λ broken.
    let events = c.args.events.now in
    let disk = g.E.Disk.state c.args.disk.now in
    let short = subst (IsShort c.count_bytes.result disk) c.in-Err-Short.field-0-is c.in-Err-Short.ensures.short in
    short-unreadable c.args.plan.now events broken disk (g.E.Disk.state c.open_on.new.disk) c.in-Err-Short.len c.refuse_short.result short.1
    (subst (λ (n : ℕ). IsRefused c.args.plan.now n events broken c.refuse_short.result) c.in-Err-Short.len-is (c.refuse_short.ensures broken))
