use Rattle.std.proofs.Common.{get_or, length, ◌∙◌, ap, arith}
use Rattle.conc_event_classes.specs.Classes.{class_at, rivals_at}
use Rattle.conc_machine_release.proofs.PutRight.{puts-touched}
use Rattle.conc_machine_release.proofs.Slots.{rivals-known}
use Rattle.conc_machine_release.proofs.candidates.renew_candidates.Goals as goal

pub put_rivals-requires-clause-known : goal.put_rivals-requires-clause-known
put_rivals-requires-clause-known c k d within =
    let same = c.rivals.ensures ∙ ap (rivals_at c.args.position.classes.now) c.class-class.ensures in
    let known = rivals-known c.args.position.plan.now c.args.position.classes.now c.requires.classes (class_at c.args.position.classes.now c.args.r.now) k d (omega (arith, within, ap length same)) in
    omega (arith, known, ap (λ l. get_or l k d) same, c.put_members.ensures.count, c.put_candidate.ensures.count, c.requires.count)

pub returns : goal.returns
returns c =
    puts-touched c.args.position.plan.now c.args.position.classes.now c.args.position.spans.now c.args.position.state.now c.args.old c.args.r.now c.args.ready.now c.args.rivals.now
    _ _ _ _ c.class-class.result c.facts_at-facts.result c.span_of_members-span.result c.is_live.result c.is_live-2.result c.rivals.result.now
    c.class-class.ensures c.facts_at-facts.ensures c.span_of_members-span.ensures c.is_live.ensures c.is_live-2.ensures c.rivals.ensures
    c.put_candidate.ensures c.put_members.ensures c.put_rivals.ensures
