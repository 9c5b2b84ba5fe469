use Rattle.std.proofs.Common.{◌≡◌, ◌∙◌, ◌∷◌, ◌++◌, [], length, sym, subst, arith, length-append}
use Rattle.std.proofs.lemmas.Iterator.Adapters.{YieldsList-from_vec}
use Rattle.std.proofs.lemmas.Iterator.Consumers.{YieldsList-end, YieldsList-turn}
use Rattle.std.proofs.lemmas.List.Elements.{All-push, All-same}
use Rattle.conc_view.specs.Watcher.{watched_plan}
use Rattle.conc_run_watch.specs.Looks.{IsWatcherOf, plan_in, Watches}
use Rattle.conc_run_watch.proofs.crew.Watchers.new.Goals as goal

pub loop-watcher-preserved : goal.loop-watcher-preserved
loop-watcher-preserved g c =
    let i = c.loop-watcher.invariant in
    let all = c.args.watchers in
    let gives = c.into_iter-watcher-iterator.ensures.into_iter_gives in
    let watcher = c.in-Some.watcher in
    let begun = c.in_ok-begun.begun in
    let yields = YieldsList-from_vec {s = c.into_iter-watcher-iterator.result} all.items gives.0 (omega (arith, gives.1, all.ok)) in
    let turn = YieldsList-turn yields c.loop-watcher.yielded c.loop-watcher.watcher-iterator c.loop-watcher.yielded_by c.next.result c.next.new.self watcher c.in-Some.is c.next.ensures.steps in
    record {
      count = omega (arith, i.count, c.in_ok-push.ensures.len, length-append c.loop-watcher.yielded (watcher ∷ []));
      watches = λ plan each.
          let of : watched_plan watcher ≡ plan = subst (IsWatcherOf plan) (sym turn.1) (each (length c.loop-watcher.yielded) watcher turn.0) in
          let own : plan_in begun ≡ plan = c.in_ok-begun.ensures.plan ∙ of in
          All-same (Watches plan) c.push.new.self.items (c.loop-watcher.looks.items ++ begun ∷ []) c.in_ok-push.ensures.items
          (All-push (Watches plan) c.loop-watcher.looks.items begun (i.watches plan each) own);
    }

pub returns : goal.returns
returns g c plan each =
    let i = c.loop-watcher.invariant in
    let all = c.args.watchers in
    let gives = c.into_iter-watcher-iterator.ensures.into_iter_gives in
    let yields = YieldsList-from_vec {s = c.into_iter-watcher-iterator.result} all.items gives.0 (omega (arith, gives.1, all.ok)) in
    let end = YieldsList-end yields c.loop-watcher.yielded c.loop-watcher.watcher-iterator c.loop-watcher.yielded_by c.next.result c.next.new.self c.in-None.is c.next.ensures.steps in
    record { long = omega (arith, i.count, end.1); watches = i.watches plan each }

pub invariant_of-result : goal.invariant_of-result
invariant_of-result g c =
    let i = c.loop-watcher.invariant in
    let all = c.args.watchers in
    let gives = c.into_iter-watcher-iterator.ensures.into_iter_gives in
    let yields = YieldsList-from_vec {s = c.into_iter-watcher-iterator.result} all.items gives.0 (omega (arith, gives.1, all.ok)) in
    let end = YieldsList-end yields c.loop-watcher.yielded c.loop-watcher.watcher-iterator c.loop-watcher.yielded_by c.next.result c.next.new.self c.in-None.is c.next.ensures.steps in
    record {
      empty = c.in_ok-room.ensures.items;
      enough = omega (arith, i.count, end.1, c.in_ok-room.ensures.capacity, all.ok, c.len.ensures);
    }
