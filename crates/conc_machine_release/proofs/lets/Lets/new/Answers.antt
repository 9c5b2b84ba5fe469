use Rattle.std.proofs.Common.{◌∙◌, ap, arith}
use Rattle.std.specs.List.{filter, range_with_len}
use Rattle.conc_event_classes.specs.Classes.{excludes_kin_at}
use Rattle.conc_machine_release.proofs.NoEvents.{candidates-none, queues-none, zeros-none}
use Rattle.conc_machine_release.proofs.lets.Lets.new.Goals as goal

pub returns : goal.returns
returns c = record {
  ready = c.in_ok-vacant_queues.ensures ∙ queues-none c.args._plan.now c.args.classes.now c.requires c.count-count.result c.count-count.ensures;
  rivals = c.in_ok-zeros.ensures ∙ zeros-none c.args._plan.now c.args.classes.now c.count-count.result c.count-count.ensures;
  candidates = c.in_ok-new.ensures ∙ candidates-none c.args.classes.now c.count-count.result c.count-count.ensures _ _ c.in_ok-vacant_queues.ensures;
  kin = c.in_ok-kin_classes.ensures ∙ ap (λ n. filter (excludes_kin_at c.args.classes.now) (range_with_len 0 n)) c.count-count.ensures;
  window = λ t since next r has. absurd (omega (arith, next));
  few = omega (arith, c.if-count.false, c.count.ensures);
}
