use Rattle.std.proofs.Common.{◌≡◌, ◌<◌, ◌%◌, ℕ, true, List, length, set, get_or, Some, inr, refl, sym, ◌∙◌, ap, subst, arith, length-set, get_or-set_other, get_or-set_same, mod-lt}
use Rattle.std.proofs.lemmas.List.{get_or_default}
use mathlib.Core.Logic.{dite}
use native.Mathlib.Decide.{ℕ_discrete}
use Rattle.conc_types.specs.declared.event.PlaceId.{PlaceId}
use Rattle.conc_base_law.specs.Places.{count_of_places}
use Rattle.conc_board.specs.Seats.{places_of_lead, plan_of}
use Rattle.conc_pool_seats.specs.Places.{has}
use Rattle.conc_run_workers.specs.Crews.{AreDealt, IsFreeMember, places_had}
use Rattle.conc_run_workers.specs.declared.crew.CrewMember.{CrewMember}
use Rattle.conc_run_workers.proofs.Crews.{DealtBelow, has-at, has-without, not-dealt, some-item, with-hand}
use Rattle.conc_run_workers.proofs.crew.give_hands.Goals as goal

pub split-hand-requires-clause-places : goal.split-hand-requires-clause-places
split-hand-requires-clause-places c = λ p is.
    let i = c.loop-index.invariant in let k = c.loop-index.index in let ws = c.loop-index.crew in let x = c.index-crew-index.result in
    let places : c.as_slice.result.now ≡ (get_or ws k x).places.items = c.as_slice.ensures.value in
    let at = (i.dealt k x c.loop-index-test.true p).0 (ap (λ (l : List PlaceId). has l p) (sym places) ∙ is) in
    i.rest p (record { within = at.0 }) (omega (arith, at.1))

pub loop-index-preserved : goal.loop-index-preserved
loop-index-preserved c =
    let i = c.loop-index.invariant in let k = c.loop-index.index in let ws = c.loop-index.crew in let n = length c.args.crew.now in let plan = plan_of c.args.board.now in
    let x = c.index-crew-index.result in let y = c.index-crew-index-in-loop-index.result in let made = c.split-hand.ensures in
    let worker : CrewMember = record { hand = Some c.split-hand.result; pass = (get_or ws k y).pass; places = (get_or ws k y).places } in
    let below : k < n = c.loop-index-test.true in
    let here : k < length ws = omega (arith, below, i.long) in
    let same : get_or ws k x ≡ get_or ws k y = get_or_default ws k x y here in
    let places : c.as_slice.result.now ≡ worker.places.items = c.as_slice.ensures.value ∙ ap (λ (w : CrewMember). w.places.items) same in
    let dealt : DealtBelow worker.places.items (count_of_places plan) n k = i.dealt k y below in
    let now : (d : CrewMember) → get_or (set ws k worker) k d ≡ worker = λ d. get_or-set_same ws k worker d here in
    record {
      lead = made.lead;
      lead_states = record { each = λ r. made.lead_states.each r ∙ i.lead_states.each r };
      all = refl;
      long = length-set ws k worker ∙ i.long;
      dealt = λ j d small. dite (ℕ_discrete j k)
          (λ e. subst (λ (z : ℕ). AreDealt plan n z (get_or (set ws k worker) z d).places.items) (sym e) (subst (λ (w : CrewMember). AreDealt plan n k w.places.items) (sym (now d)) dealt))
          (λ other. subst (λ (w : CrewMember). AreDealt plan n j w.places.items) (sym (get_or-set_other ws k j worker d other)) (i.dealt j d small));
      rest = λ p is later. subst (λ (ps : List PlaceId). has ps p ≡ true) (sym made.left)
          (has-without (places_of_lead c.loop-index.lead) c.as_slice.result.now p (i.rest p is (omega (arith, later)))
          (ap (λ (l : List PlaceId). has l p) places ∙ not-dealt worker.places.items (count_of_places plan) n k p dealt (λ e. omega (arith, later, e))));
      free = λ j d small. dite (ℕ_discrete j k)
          (λ e. subst (λ (z : ℕ). IsFreeMember c.args.board.now (get_or (set ws k worker) z d)) (sym e) (subst (λ (w : CrewMember). IsFreeMember c.args.board.now w) (sym (now d))
          (with-hand c.args.board.now worker.places.items c.split-hand.result made.hand made.idle (made.passed ∙ places) (λ p h. ((dealt p).0 h).0))))
          (λ other. subst (λ (w : CrewMember). IsFreeMember c.args.board.now w) (sym (get_or-set_other ws k j worker d other)) (i.free j d (omega (arith, small, other))));
      own = λ j d small. dite (ℕ_discrete j k)
          (λ e. subst (λ (z : ℕ). places_had (get_or (set ws k worker) z d).hand ≡ (get_or (set ws k worker) z d).places.items) (sym e)
          (subst (λ (w : CrewMember). places_had w.hand ≡ w.places.items) (sym (now d)) (made.passed ∙ places)))
          (λ other. subst (λ (w : CrewMember). places_had w.hand ≡ w.places.items) (sym (get_or-set_other ws k j worker d other)) (i.own j d (omega (arith, small, other))));
      lists = λ j d small. dite (ℕ_discrete j k)
          (λ e. subst (λ (z : ℕ). (get_or (set ws k worker) z d).places.items ≡ (get_or c.args.crew.now z d).places.items) (sym e)
          (ap (λ (w : CrewMember). w.places.items) (now d) ∙ (i.lists k y below ∙ ap (λ (w : CrewMember). w.places.items) (get_or_default c.args.crew.now k y d below))))
          (λ other. ap (λ (w : CrewMember). w.places.items) (get_or-set_other ws k j worker d other) ∙ i.lists j d small);
      passes = λ j d small. dite (ℕ_discrete j k)
          (λ e. subst (λ (z : ℕ). (get_or (set ws k worker) z d).pass ≡ (get_or c.args.crew.now z d).pass) (sym e)
          (ap (λ (w : CrewMember). w.pass) (now d) ∙ (i.passes k y below ∙ ap (λ (w : CrewMember). w.pass) (get_or_default c.args.crew.now k y d below))))
          (λ other. ap (λ (w : CrewMember). w.pass) (get_or-set_other ws k j worker d other) ∙ i.passes j d small);
    }

pub returns-clause-covers : goal.returns-clause-covers
returns-clause-covers c =
    let i = c.loop-index.invariant in let n = length c.args.crew.now in let ws = c.loop-index.crew in
    let d = some-item c.args.crew.now c.requires.some in let done = c.loop-index-test.false in record {
      each = λ p is.
          let j = p.index % n in
          let small : j < n = mod-lt p.index c.requires.some in
          let w = get_or ws j d in
          inr (w, has-at ws j d (omega (arith, small, i.long)), ap (λ (l : List PlaceId). has l p) (i.own j d (omega (arith, small, done))) ∙ (i.dealt j d small p).1 (is.within, refl));
    }
