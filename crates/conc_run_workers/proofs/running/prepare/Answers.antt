use Rattle.std.proofs.Common.{rules, ◌≡◌, ◌<◌, ℕ, List, length, get_or, drop, sym, subst, arith}
use Rattle.conc_types.specs.declared.event.PlaceId.{PlaceId}
use Rattle.conc_pool_lanes.specs.Lanes.{IsHandPassOf}
use Rattle.conc_pool_lanes.specs.declared.lanes.HandPass.{HandPass}
use Rattle.conc_run_workers.specs.Crews.{AreDealt, HasPass, IsCrewFor, IsFreeMember, SameLists, SamePasses}
use Rattle.conc_run_workers.specs.declared.crew.CrewMember.{CrewMember}
use Rattle.conc_run_workers.proofs.Crews.{front-whole}
use Rattle.conc_run_workers.proofs.running.prepare.Goals as goal

pub returns-clause-crew : goal.returns-clause-crew
returns-clause-crew c =
    let lanes = c.in_ok-lanes.lanes in let board = c.in_ok-board.board in let ws = c.in_ok-crew.crew.items in let us = c.give_hands.new.crew in
    let had : (k : ℕ) (d : CrewMember) → k < length ws → HasPass lanes (get_or ws k d) = c.in_ok-crew.ensures.passes lanes c.in_ok-lanes.ensures.passes in
    let same : SamePasses ws us = search (rules, c.give_hands.ensures.passes) in
    let now : (k : ℕ) (d : CrewMember) → k < length us → HasPass lanes (get_or us k d) =
    λ k d below. let small : k < length ws = omega (arith, below, same.long) in subst (λ (p : HandPass). IsHandPassOf lanes p) (sym (same.each k d small)) (had k d small) in
    let count : length us ≡ c.in_ok-crew.crew.len = omega (arith, same.long, c.in_ok-crew.crew.ok) in
    let some : 0 < length us = omega (arith, count, c.in_ok-crew.ensures.count, c.crew_size-size.ensures) in
    let front = front-whole us (drop (length us) ws) c.in_ok-crew.crew.len count in (
      (sym c.in_ok-board.ensures.plan, c.in_ok-lanes.ensures.plan),
      subst (λ (l : List CrewMember). 0 < length l) front some,
      subst (λ (l : List CrewMember). (k : ℕ) (d : CrewMember) → k < length l → IsFreeMember board (get_or l k d)) front c.give_hands.ensures.free,
      subst (λ (l : List CrewMember). (k : ℕ) (d : CrewMember) → k < length l → HasPass lanes (get_or l k d)) front now,
    )

pub returns-clause-crew_for : goal.returns-clause-crew_for
returns-clause-crew_for c =
    let ws = c.in_ok-crew.crew.items in let us = c.give_hands.new.crew in
    let same : SameLists ws us = search (rules, c.give_hands.ensures.lists) in
    let count : length us ≡ c.in_ok-crew.crew.len = omega (arith, same.long, c.in_ok-crew.crew.ok) in
    let size : length us ≡ c.crew_size-size.result = omega (arith, count, c.in_ok-crew.ensures.count) in
    let front = front-whole us (drop (length us) ws) c.in_ok-crew.crew.len count in
    subst (λ (l : List CrewMember). IsCrewFor c.args.plan.now c.args.threads l) front record {
      some = omega (arith, size, c.crew_size-size.ensures.some);
      few = omega (arith, size, c.crew_size-size.ensures.few);
      spare = λ there. let few = c.crew_size-size.ensures.spare there in omega (arith, size, few);
      dealt = λ j d small.
          let below : j < c.crew_size-size.result = omega (arith, small, size) in
          subst (λ (n : ℕ). AreDealt c.args.plan.now n j (get_or us j d).places.items) (sym size)
          (subst (λ (l : List PlaceId). AreDealt c.args.plan.now c.crew_size-size.result j l) (sym (same.each j d (omega (arith, small, same.long)))) (c.in_ok-crew.ensures.dealt j d below));
    }
