use Rattle.std.proofs.Common.{◌≡◌, get_or, length, Some, refl, ◌∙◌, ap}
use Rattle.std.specs.Prelude.{slice_get}
use Rattle.std.proofs.lemmas.List.FromFn.{length-map-range_with_len}
use Rattle.std.proofs.lemmas.Option.{slice_get_read}
use Rattle.conc_base_law.specs.State.{has_come}
use Rattle.conc_event_queue.proofs.Maps.{request_at_place}
use Rattle.conc_event_classes.specs.Classes.{class_at}
use Rattle.conc_machine_release.specs.Refresh.{queues_of}
use Rattle.conc_machine_release.proofs.Counts.{recounted-is}
use Rattle.conc_machine_release.proofs.PutRight.{candidates-written, have-queues}
use Rattle.conc_machine_release.proofs.Slots.{HaveSlots-kept, length-candidates, rivals-counted}
use Rattle.conc_machine_release.proofs.Written.{renewed-is, written-within}
use Rattle.conc_machine_release.proofs.lets.Lets.write.Goals as goal

pub renew-requires-clause-slots : goal.renew-requires-clause-slots
renew-requires-clause-slots c =
    let related = c.requires.related in
    HaveSlots-kept c.args.plan.now c.args.classes.now related.0 c.args.self.now c.requires.classes related.2

pub renew-requires-clause-known : goal.renew-requires-clause-known
renew-requires-clause-known c =
    let within = written-within c.args.plan.now c.requires.related.0 c.args.after.now c.args.i c.args.old c.requires.related.1 in
    let at : slice_get c.args.plan.now.requests c.args.i ≡ Some c.index-as_slice-i.result = slice_get_read c.args.plan.now.requests (length c.args.plan.now.requests) c.args.i c.index-as_slice-i.result refl within (c.index-as_slice-i.is ∙ ap (λ l. get_or l c.args.i c.index-as_slice-i.result) c.as_slice.ensures) in
    (request_at_place c.args.plan.now c.args.i c.index-as_slice-i.result at).1

pub recount-requires : goal.recount-requires
recount-requires c =
    let related = c.requires.related in
    rivals-counted c.args.plan.now c.args.classes.now related.0 c.args.self.now c.requires.classes related.2 (class_at c.args.classes.now c.index-as_slice-i.result)

pub renew_candidates-requires-clause-have : goal.renew_candidates-requires-clause-have
unfolding queues_of
renew_candidates-requires-clause-have c =
    let related = c.requires.related in
    let at = slice_get_read c.args.plan.now.requests (length c.args.plan.now.requests) c.args.i c.index-as_slice-i.result refl
    (written-within c.args.plan.now related.0 c.args.after.now c.args.i c.args.old related.1) (c.index-as_slice-i.is ∙ ap (λ l. get_or l c.args.i c.index-as_slice-i.result) c.as_slice.ensures) in
    have-queues (length c.args.classes.now.sizes) _ _ _
    (ap length (c.as_slice-2.ensures.value ∙ c.renew.ensures
    ∙ renewed-is c.args.plan.now c.args.classes.now c.args.spans.now c.requires.classes c.requires.spans related.0 c.args.after.now c.args.i c.args.old related.1 c.index-as_slice-i.result at
    c.args.self.now.ready.items related.2.ready)
    ∙ length-map-range_with_len _ 0 (length c.args.classes.now.sizes))
    (ap length (c.recount.ensures
    ∙ recounted-is c.args.plan.now c.args.classes.now c.requires.classes related.0 c.args.after.now c.args.i c.args.old related.1 c.index-as_slice-i.result at c.args.self.now.rivals related.2.rivals)
    ∙ length-map-range_with_len _ 0 (length c.args.classes.now.sizes))
    (length-candidates c.args.plan.now c.args.classes.now related.0 c.args.self.now related.2)

pub renew_candidates-requires-clause-count : goal.renew_candidates-requires-clause-count
renew_candidates-requires-clause-count c = length-candidates c.args.plan.now c.args.classes.now c.requires.related.0 c.args.self.now c.requires.related.2

pub renew_candidates-requires-clause-known : goal.renew_candidates-requires-clause-known
renew_candidates-requires-clause-known c =
    let within = written-within c.args.plan.now c.requires.related.0 c.args.after.now c.args.i c.args.old c.requires.related.1 in
    let at : slice_get c.args.plan.now.requests c.args.i ≡ Some c.index-as_slice-i.result = slice_get_read c.args.plan.now.requests (length c.args.plan.now.requests) c.args.i c.index-as_slice-i.result refl within (c.index-as_slice-i.is ∙ ap (λ l. get_or l c.args.i c.index-as_slice-i.result) c.as_slice.ensures) in
    (request_at_place c.args.plan.now c.args.i c.index-as_slice-i.result at).1

pub returns : goal.returns
unfolding queues_of
returns c before w are =
    let at = slice_get_read c.args.plan.now.requests (length c.args.plan.now.requests) c.args.i c.index-as_slice-i.result refl
    (written-within c.args.plan.now before c.args.after.now c.args.i c.args.old w) (c.index-as_slice-i.is ∙ ap (λ l. get_or l c.args.i c.index-as_slice-i.result) c.as_slice.ensures) in
    record {
      ready = c.renew.ensures
          ∙ renewed-is c.args.plan.now c.args.classes.now c.args.spans.now c.requires.classes c.requires.spans before c.args.after.now c.args.i c.args.old w c.index-as_slice-i.result at
          c.args.self.now.ready.items are.ready;
      rivals = c.recount.ensures
          ∙ recounted-is c.args.plan.now c.args.classes.now c.requires.classes before c.args.after.now c.args.i c.args.old w c.index-as_slice-i.result at c.args.self.now.rivals are.rivals;
      candidates = candidates-written c.args.plan.now c.args.classes.now c.args.spans.now c.args.after.now c.args.old c.index-as_slice-i.result (length c.args.classes.now.sizes)
          c.args.self.now.ready.items _ _ c.args.self.now.rivals _ c.args.self.now.candidates _
          c.renew.ensures c.as_slice-2.ensures.value c.recount.ensures are.candidates c.renew_candidates.ensures;
      kin = are.kin;
      window = λ t since next r has. ap (λ time. has_come time r.start) w.time ∙ are.window t since next r has;
      few = are.few;
    }
