use Rattle.std.proofs.Common.{◌≡◌, ◌∙◌, ◌∷◌, ◌++◌, [], List, length, sym, subst, arith, length-append}
use Rattle.std.proofs.lemmas.Iterator.Adapters.{YieldsList-from_vec}
use Rattle.std.proofs.lemmas.Iterator.Consumers.{YieldsList-end, YieldsList-turn}
use Rattle.std.proofs.lemmas.List.Elements.{All-push, All-same}
use Rattle.conc_types.specs.declared.event.Event.{Event}
use Rattle.conc_types.specs.declared.plan.Plan.{Plan}
use Rattle.conc_view.specs.Told.{whole_of}
use Rattle.conc_run_watch.specs.Looks.{plan_in, Watches}
use Rattle.conc_run_watch.specs.Watches.{IsWatch}
use Rattle.conc_run_watch.proofs.Whole.{watch_lines}
use Rattle.conc_run_watch.proofs.crew.Watchers.finish.Goals as goal

pub push_reserved-requires : goal.push_reserved-requires
push_reserved-requires g c =
    let i = c.loop-watcher.invariant in
    let all = c.args.self.looks in
    let gives = c.into_iter-watcher-iterator.ensures.into_iter_gives in
    let yields = YieldsList-from_vec {s = c.into_iter-watcher-iterator.result} all.items gives.0 (omega (arith, gives.1, all.ok)) in
    let turn = YieldsList-turn yields c.loop-watcher.yielded c.loop-watcher.watcher-iterator c.loop-watcher.yielded_by c.next.result c.next.new.self c.in-Some.watcher c.in-Some.is c.next.ensures.steps in
    omega (arith, i.count, i.room, turn.0)

pub loop-watcher-preserved : goal.loop-watcher-preserved
loop-watcher-preserved g c =
    let i = c.loop-watcher.invariant in
    let all = c.args.self.looks in
    let gives = c.into_iter-watcher-iterator.ensures.into_iter_gives in
    let watcher = c.in-Some.watcher in
    let got = c.finish.result in
    let told = whole_of c.args.told.now in
    let yields = YieldsList-from_vec {s = c.into_iter-watcher-iterator.result} all.items gives.0 (omega (arith, gives.1, all.ok)) in
    let turn = YieldsList-turn yields c.loop-watcher.yielded c.loop-watcher.watcher-iterator c.loop-watcher.yielded_by c.next.result c.next.new.self watcher c.in-Some.is c.next.ensures.steps in
    record {
      count = omega (arith, i.count, c.push_reserved.ensures.len, length-append c.loop-watcher.yielded (watcher ∷ []));
      room = omega (arith, i.room, c.push_reserved.ensures.capacity);
      watches = λ plan each.
          let own : plan_in watcher ≡ plan = subst (Watches plan) (sym turn.1) (each (length c.loop-watcher.yielded) watcher turn.0) in
          let made : IsWatch plan told got.items =
          subst (λ (p : Plan). IsWatch p told got.items) own (subst (λ (h : List Event). IsWatch (plan_in watcher) h got.items) i.told c.finish.ensures.watch) in
          All-same (λ v. IsWatch plan told v.items) c.push_reserved.new.self.items (c.loop-watcher.kept.items ++ got ∷ []) c.push_reserved.ensures.items
          (All-push (λ v. IsWatch plan told v.items) c.loop-watcher.kept.items got (i.watches plan each) made);
      told = c.finish.ensures.told ∙ i.told;
    }

pub returns-clause-lines : goal.returns-clause-lines
returns-clause-lines g c plan count watching =
    let i = c.loop-watcher.invariant in
    let all = c.args.self.looks in
    let gives = c.into_iter-watcher-iterator.ensures.into_iter_gives in
    let kept = c.loop-watcher.kept.items in
    let yields = YieldsList-from_vec {s = c.into_iter-watcher-iterator.result} all.items gives.0 (omega (arith, gives.1, all.ok)) in
    let end = YieldsList-end yields c.loop-watcher.yielded c.loop-watcher.watcher-iterator c.loop-watcher.yielded_by c.next.result c.next.new.self c.in-None.is c.next.ensures.steps in
    watch_lines plan (whole_of c.args.told.now) (λ v. v.items) kept count (omega (arith, i.count, end.1, watching.long)) (i.watches plan watching.watches)
