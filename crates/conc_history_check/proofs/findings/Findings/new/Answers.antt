use Rattle.std.proofs.Common.{[], length, refl, ◌∙◌, ap, arith}
use Rattle.conc_base_law.specs.Before.{earlier_lives, last_life}
use Rattle.conc_base_law.specs.Readings.{ticks}
use Rattle.conc_base_law.specs.State.{now}
use Rattle.conc_event_reach.proofs.InLife.{none-started}
use Rattle.conc_history_check.proofs.Slots.{length-vacant}
use Rattle.conc_history_check.proofs.Quiet.{active-whole}
use Rattle.conc_history_check.proofs.findings.Findings.new.Goals as goal

pub renew_all-requires-clause-size : goal.renew_all-requires-clause-size
renew_all-requires-clause-size c = ap length c.in_ok-coming.ensures ∙ length-vacant _ ∙ c.len-2.ensures

pub returns : goal.returns
unfolding earlier_lives last_life ticks now
returns c = record {
  taken = record { state = c.in_ok-state.ensures; earlier = refl; ticks = refl };
  marks = c.renew_all.ensures.marks;
  coming = c.renew_all.ensures.coming;
  active = active-whole c.args.plan.now [] _ _ c.in_ok-state.ensures (omega (arith, c.len.ensures)) (omega (arith, c.len.ensures)) (omega (arith, c.len.ensures));
  undone = c.first_undone.ensures;
  started = none-started c.args.plan.now _ _ c.in_ok-state.ensures refl;
}
