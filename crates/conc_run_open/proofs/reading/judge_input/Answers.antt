use Rattle.std.proofs.Common.{rules, ◌≡◌, ℕ, List, length, sym, ◌∙◌, ap, subst}
use Rattle.std.specs.Prelude.{count_by}
use Rattle.std.specs.Option.{MatchOption}
use Rattle.conc_types.specs.declared.event.Event.{Event}
use Rattle.conc_journal_image.specs.Fields.{has_stamp}
use Rattle.conc_run_state.specs.Causes.{told, told_for}
use Rattle.conc_run_state.specs.Inputs.{AreStampsOf}
use Rattle.conc_run_open.specs.Scripts.{IsOtherCommand}
use Rattle.conc_run_open.proofs.Judged.{judged}
use Rattle.conc_run_open.proofs.reading.judge_input.Goals as goal

pub first_other-requires : goal.first_other-requires
first_other-requires c =
    let journal = c.args.journal.now in
    ap length c.stamps.ensures ∙ sym journal.stamps.ok.0 ∙ journal.stamped ∙ ap (λ (l : List Event). count_by has_stamp l) (sym c.events.ensures)

pub returns-in-Two : goal.returns-in-Two
returns-in-Two c =
    let journal = c.args.journal.now in
    let plan = c.args.plan.now in
    let tested : c.told-found.result ≡ c.told_for-given.result = search rules in
    let same : told c.args.label ≡ told_for c.args.label.version c.args.digests.now = sym c.told-found.ensures ∙ tested ∙ c.told_for-given.ensures in
    let r = c.first_other.result in
    judged plan c.args.digests.now c.args.label journal.events.items journal.stamps.items r c.in-Two.is same
    (subst (λ (s : List ℕ). MatchOption r (AreStampsOf plan journal.events.items s) (IsOtherCommand plan journal.events.items s)) c.stamps.ensures
    (subst (λ (l : List Event). MatchOption r (AreStampsOf plan l c.stamps.result.now) (IsOtherCommand plan l c.stamps.result.now)) c.events.ensures c.first_other.ensures))
