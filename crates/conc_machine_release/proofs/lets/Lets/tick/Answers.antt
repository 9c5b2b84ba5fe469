use Rattle.std.proofs.Common.{length, sym, ◌∙◌, ap, arith}
use Rattle.std.specs.Prelude.{unwrap_or}
use Rattle.std.proofs.lemmas.List.FromFn.{length-map-range_with_len}
use Rattle.conc_types.specs.Words.{numbered}
use Rattle.conc_base_law.specs.State.{facts_at, no_facts}
use Rattle.conc_base_law.specs.Next.{is_ready}
use Rattle.conc_machine_release.specs.Lets.{live_rivals}
use Rattle.conc_machine_release.specs.Refresh.{queues_of}
use Rattle.conc_machine_release.specs.declared.starts.StartWindow.{StartWindow}
use Rattle.conc_machine_release.proofs.Alike.{kept-in_window, window-begun, rivals-alike}
use Rattle.conc_machine_release.proofs.Lists.{map_range-same}
use Rattle.conc_machine_release.proofs.PutRight.{candidates-refreshed, have-queues}
use Rattle.conc_machine_release.proofs.Slots.{HaveSlots-kept, length-candidates, length-kept}
use Rattle.conc_machine_release.proofs.Written.{all-renewed}
use Rattle.conc_machine_release.proofs.lets.Lets.tick.Goals as goal

pub refresh_span-requires-clause-slots : goal.refresh_span-requires-clause-slots
refresh_span-requires-clause-slots c =
    let related = c.requires.related in
    HaveSlots-kept c.args.plan.now c.args.classes.now related.0 c.args.self.now c.requires.classes related.2

pub put_within-requires-clause-have : goal.put_within-requires-clause-have
unfolding queues_of
put_within-requires-clause-have c =
    let related = c.requires.related in
    have-queues (length c.args.classes.now.sizes) _ _ _
    (ap length (c.as_slice.ensures.value ∙ c.refresh_span.ensures
    ∙ all-renewed c.args.plan.now c.args.classes.now c.requires.classes c.args.after.now (is_ready c.args.plan.now related.0) c.len.result c.len.ensures c.args.self.now.ready.items related.2.ready)
    ∙ length-map-range_with_len _ 0 (length c.args.classes.now.sizes))
    (length-kept c.args.plan.now c.args.classes.now related.0 c.args.self.now related.2)
    (length-candidates c.args.plan.now c.args.classes.now related.0 c.args.self.now related.2)

pub put_within-requires-clause-known : goal.put_within-requires-clause-known
put_within-requires-clause-known c = length-candidates c.args.plan.now c.args.classes.now c.requires.related.0 c.args.self.now c.requires.related.2

pub returns-then-contains : goal.returns-then-contains
returns-then-contains c before same are =
    kept-in_window c.args.plan.now c.args.classes.now before c.args.after.now c.args.self.now same (sym c.if-contains.ensures) are

pub returns : goal.returns
unfolding queues_of facts_at
returns c before same are = record {
  ready = c.refresh_span.ensures
      ∙ all-renewed c.args.plan.now c.args.classes.now c.requires.classes c.args.after.now (is_ready c.args.plan.now before) c.len.result c.len.ensures
      c.args.self.now.ready.items are.ready;
  rivals = are.rivals ∙ map_range-same (live_rivals c.args.plan.now c.args.classes.now before) (live_rivals c.args.plan.now c.args.classes.now c.args.after.now) 0 (length c.args.classes.now.sizes)
      (λ n le. rivals-alike c.args.plan.now c.args.classes.now before c.args.after.now (λ q. ap (λ l. unwrap_or (numbered l q.number.number) no_facts) same) n);
  candidates = candidates-refreshed c.args.plan.now c.args.classes.now c.args.after.now (record { from = 0; to = c.len.result }) (length c.args.classes.now.sizes)
      c.args.self.now.ready.items _ _ c.args.self.now.rivals c.args.self.now.candidates _
      c.refresh_span.ensures c.as_slice.ensures.value are.candidates c.put_within.ensures;
  kin = are.kin;
  window = λ t since next r has. window-begun c.args.plan.now c.args.after.now.time t
      (omega (arith, since, ap (λ (l : StartWindow). l.since) c.at-self.ensures)) (omega (arith, next, ap (λ (l : StartWindow). l.next) c.at-self.ensures)) r has;
  few = are.few;
}
