use Rattle.std.proofs.Common.{◌+◌, ◌∙◌, List, ap, subst, sym}
use Rattle.conc_types.specs.declared.event.PlaceId.{PlaceId}
use Rattle.conc_run_workers.proofs.Crews.{DealtBelow, dealt-more, dealt-skip}
use Rattle.conc_run_workers.proofs.crew.dealt.Goals.{else-index-threads, then-index-threads+in_ok-push}
use Rattle.conc_run_workers.proofs.crew.dealt.Goals as goal

pub loop-index-preserved : goal.loop-index-preserved
loop-index-preserved c =
    let i = c.loop-index.invariant in let n = c.loop-index.index in
    let below : DealtBelow c.if-index-threads.places.items (n + 1) c.args.threads c.args.rest = elim c.if-index-threads.branch [
      | then-index-threads+in_ok-push w ↦
          subst (λ (l : List PlaceId). DealtBelow l (n + 1) c.args.threads c.args.rest) (sym (ap (λ v. v.items) w.places-is ∙ w.in_ok-push.ensures.items))
          (dealt-more c.loop-index.places.items n c.args.threads c.args.rest i.so_far w.if-index-threads.true)
      | else-index-threads w ↦
          subst (λ (l : List PlaceId). DealtBelow l (n + 1) c.args.threads c.args.rest) (sym (ap (λ v. v.items) w.places-is))
          (dealt-skip c.loop-index.places.items n c.args.threads c.args.rest i.so_far w.if-index-threads.false)
    ] in record { all = i.all; so_far = below }
