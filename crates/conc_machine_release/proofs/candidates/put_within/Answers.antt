use Rattle.std.proofs.Common.{get_or, length, ◌∙◌, ap, refl, arith}
use Rattle.std.proofs.lemmas.Option.{slice_get_read}
use Rattle.conc_event_queue.proofs.Maps.{request_at_place}
use Rattle.conc_event_classes.specs.Classes.{class_at}
use Rattle.conc_machine_release.specs.Candidates.{classes_within}
use Rattle.conc_machine_release.proofs.PutRight.{have-still, puts-end, puts-one_more, puts-start, within-end, within-next}
use Rattle.conc_machine_release.proofs.candidates.put_within.Goals as goal

pub loop-i-init : goal.loop-i-init
loop-i-init c = puts-start c.args.ready.now c.args.rivals.now (classes_within c.args.plan.now c.args.classes.now c.args.span) c.args.candidates.now

pub put_candidate-requires-clause-have : goal.put_candidate-requires-clause-have
put_candidate-requires-clause-have c =
    have-still c.args.ready.now c.args.rivals.now c.args.candidates.now c.loop-i.candidates c.requires.have c.loop-i.invariant.count

pub put_candidate-requires-clause-known : goal.put_candidate-requires-clause-known
put_candidate-requires-clause-known c =
    let at = slice_get_read c.args.plan.now.requests (length c.args.plan.now.requests) c.loop-i.i c.index-requests-i.result refl
    (omega (arith, c.loop-i-test.true, c.requires.inside))
    (c.index-requests-i.is ∙ ap (λ l. get_or l c.loop-i.i c.index-requests-i.result) c.as_slice-requests.ensures) in
    omega (arith, c.requires.classes.known c.index-requests-i.result (request_at_place c.args.plan.now c.loop-i.i c.index-requests-i.result at).1, c.class.ensures, c.requires.known, c.loop-i.invariant.count)

pub loop-i-preserved : goal.loop-i-preserved
loop-i-preserved c =
    let at = slice_get_read c.args.plan.now.requests (length c.args.plan.now.requests) c.loop-i.i c.index-requests-i.result refl
    (omega (arith, c.loop-i-test.true, c.requires.inside))
    (c.index-requests-i.is ∙ ap (λ l. get_or l c.loop-i.i c.index-requests-i.result) c.as_slice-requests.ensures) in
    puts-one_more c.args.ready.now c.args.rivals.now (classes_within c.args.plan.now c.args.classes.now c.args.span)
    (classes_within c.args.plan.now c.args.classes.now (record { from = c.loop-i.i; to = c.args.span.to })) _
    (class_at c.args.classes.now c.index-requests-i.result) c.class.result _ _ _ c.class.ensures
    (within-next c.args.plan.now c.args.classes.now c.loop-i.i c.args.span.to c.index-requests-i.result (omega (arith, c.loop-i-test.true)) at)
    c.loop-i.invariant c.put_candidate.ensures

pub returns : goal.returns
returns c =
    puts-end c.args.ready.now c.args.rivals.now (classes_within c.args.plan.now c.args.classes.now c.args.span)
    (classes_within c.args.plan.now c.args.classes.now (record { from = c.loop-i.i; to = c.args.span.to })) _ _
    (within-end c.args.plan.now c.args.classes.now c.loop-i.i c.args.span.to (omega (arith, c.loop-i-test.false))) c.loop-i.invariant
