use Rattle.std.proofs.Common.{rules, ◌≡◌, ◌<◌, ◌+◌, ◌++◌, ◌∷◌, [], ℕ, List, length, get_or, None, sym, ap, subst, arith, length-append}
use Rattle.conc_pool_lanes.specs.Lanes.{AreHandPasses}
use Rattle.conc_pool_lanes.specs.declared.lanes.HandPass.{HandPass}
use Rattle.conc_run_workers.specs.Crews.{AreDealt, HasPass}
use Rattle.conc_run_workers.specs.declared.crew.CrewMember.{CrewMember}
use Rattle.conc_run_workers.proofs.Crews.{each-more, passes-last}
use Rattle.conc_run_workers.proofs.crew.hire.Goals as goal

pub loop-rest-preserved : goal.loop-rest-preserved
loop-rest-preserved c =
    let i = c.loop-rest.invariant in let n = c.loop-rest.rest in let ws = c.loop-rest.crew.items in let us = c.pop.new.self.items in
    let worker : CrewMember = record { hand = None; pass = c.in-Some.pass; places = c.in_ok-places.places } in
    let was : c.loop-rest.passes.items ≡ us ++ c.in-Some.pass ∷ [] = search (rules, c.in-Some.ensures.items) in
    let now : c.push.new.self.items ≡ ws ++ worker ∷ [] = c.in_ok-push.ensures.items in
    let long : length ws ≡ n = omega (arith, i.count, c.loop-rest.crew.ok) in
    let whole : length (ws ++ worker ∷ []) ≡ n + 1 = omega (arith, long, length-append ws (worker ∷ [])) in
    record {
      count = omega (arith, i.count, c.in_ok-push.ensures.len);
      dealt = λ k d below. subst (λ (l : List CrewMember). AreDealt c.args.plan.now c.args.threads k (get_or l k d).places.items) (sym now)
          (each-more (λ j w. AreDealt c.args.plan.now c.args.threads j w.places.items) ws worker (λ j e less. i.dealt j e (omega (arith, less, long)))
          (subst (λ (j : ℕ). AreDealt c.args.plan.now c.args.threads j c.in_ok-places.places.items) (sym long) c.in_ok-places.ensures) k d (omega (arith, below, whole)));
      left = omega (arith, i.left, ap length was, length-append us (c.in-Some.pass ∷ []), c.loop-rest.passes.ok, c.pop.new.self.ok);
      passes = λ lanes are.
          let had = i.passes lanes are in
          let rest = passes-last lanes us c.in-Some.pass (subst (λ (l : List HandPass). AreHandPasses lanes l) was had.0) in (
            rest.0,
            subst (λ (l : List CrewMember). (k : ℕ) (d : CrewMember) → k < length l → HasPass lanes (get_or l k d)) (sym now) (each-more (λ j w. HasPass lanes w) ws worker had.1 rest.1),
          );
    }
