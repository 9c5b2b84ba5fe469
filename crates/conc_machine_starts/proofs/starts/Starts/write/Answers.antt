use Rattle.std.proofs.Common.{◌∙◌, ◌<◌, All, ap, arith, get_or, length, map, refl, set, subst, sym}
use Rattle.std.proofs.lemmas.Option.{slice_get_read, slice_get_within}
use Rattle.conc_types.specs.declared.manager.Manager.{Manager}
use Rattle.conc_base_law.specs.State.{facts_at}
use Rattle.conc_machine_starts.specs.Updates.{key_of, with_one, without_one}
use Rattle.conc_machine_starts.proofs.Writes.{all-written, slots-kept, starts-written}
use Rattle.conc_machine_starts.proofs.starts.Starts.write.Goals as goal

pub refresh-requires : goal.refresh-requires
refresh-requires c =
    let related = c.requires in
    let within = slice_get_within related.0.facts c.args.i c.args.old related.1.was in
    subst (All (λ queue. c.args.i < length queue)) (sym c.as_mut_slice.ensures.value)
    (slots-kept c.args.plan.now related.0 c.args.self.now c.args.i related.2 (omega (arith, within, related.1.all)))

pub returns : goal.returns
returns c = λ before w are.
    let r = c.index-as_slice-i.result in
    let within = slice_get_within before.facts c.args.i c.args.old w.was in
    starts-written c.args.plan.now before c.args.after.now c.args.i c.args.old r c.args.self.now _
    (slice_get_read c.args.plan.now.requests (length c.args.plan.now.requests) c.args.i r refl (omega (arith, within, w.all))
    (c.index-as_slice-i.is ∙ ap (λ l. get_or l c.args.i r) c.as_slice.ensures))
    (record {
      queues = λ slots e.
          all-written c.args.self.now.queues c.refresh.new.queues slots
          (λ manager. set (slots manager) c.args.i (key_of (facts_at c.args.after.now r) manager r)) c.args.plan.now.setup.managers e
          (c.refresh.ensures slots (c.as_mut_slice.ensures.value ∙ e ∙ ap (map slots) (sym c.as_slice-2.ensures))
          ∙ ap (map (λ (manager : Manager). set (slots manager) c.args.i (key_of c.facts_at-facts.result manager r))) c.as_slice-2.ensures
          ∙ ap (λ facts. map (λ (manager : Manager). set (slots manager) c.args.i (key_of facts manager r)) c.args.plan.now.setup.managers) c.facts_at-facts.ensures);
      owners = refl;
      running =
          c.enter.ensures
          ∙ ap (λ l. with_one l c.facts_at-facts.result.place) c.leave.ensures
          ∙ ap (λ facts. with_one (without_one c.args.self.now.running c.args.old.place) facts.place) c.facts_at-facts.ensures;
      usable = refl;
    })
    w are
