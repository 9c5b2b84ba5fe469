use Rattle.std.proofs.Common.{sym, ◌∙◌, ap, map}
use Rattle.std.specs.List.{list_any, range_with_len}
use Rattle.conc_base_law.specs.Next.{may_start}
use Rattle.conc_base_law.specs.Places.{all_places}
use Rattle.conc_history_check.proofs.Firsts.{none_waits}
use Rattle.conc_history_check.proofs.Places.{somewhere}
use Rattle.conc_history_check.proofs.starts.one_may_start_somewhere.Goals as goal

pub returns-then-not-one_waits : goal.returns-then-not-one_waits
returns-then-not-one_waits c = sym (none_waits c.args.position c.requires (sym c.one_waits.ensures ∙ c.if-not-one_waits.true))

pub returns : goal.returns
unfolding all_places
returns c =
    c.one_may_start_among.ensures
    ∙ ap (λ n. list_any (λ p. list_any (λ r. may_start c.args.position.plan.now c.args.position.state.now r p) c.args.position.plan.now.requests) (map (λ index. record { index = index }) (range_with_len 0 n)))
    c.place_count.ensures.count
    ∙ somewhere c.args.position.plan.now c.args.position.state.now
