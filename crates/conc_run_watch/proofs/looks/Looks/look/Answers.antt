use Rattle.std.proofs.Common.{◌<◌, ◌≤◌, ◌∙◌, arith, ap, length, sym}
use Rattle.conc_view.specs.Watcher.{seen_by, watched_plan}
use Rattle.conc_run_watch.proofs.Kept.{early_kept, early_passed, kept_count, kept_looking, kept_passing}
use Rattle.conc_run_watch.proofs.looks.Looks.look.Goals as goal

pub invariant_of-self-clause-looks : goal.invariant_of-self-clause-looks
invariant_of-self-clause-looks g c =
    let old = c.args.self.now in let new = c.look-snapshot.new.self in let look = c.look-snapshot.ensures in
    kept_looking (watched_plan old.watcher) (watched_plan new) (seen_by old.watcher) (seen_by new) old.kept.items c.keep.new.kept.items
    c.look-snapshot.result look.plan look.begins old.looks look.length look.counts c.keep.ensures.kept

pub invariant_of-self-clause-few : goal.invariant_of-self-clause-few
invariant_of-self-clause-few g c =
    let old = c.args.self.now.kept in
    omega (arith, c.if-len.true, c.len.ensures, old.ok, ap length c.keep.ensures.kept, kept_count old.items c.look-snapshot.result)

pub invariant_of-self-else-len-clause-looks : goal.invariant_of-self-else-len-clause-looks
invariant_of-self-else-len-clause-looks g c =
    let old = c.args.self.now in let new = c.look-snapshot.new.self in let look = c.look-snapshot.ensures in
    kept_passing (watched_plan old.watcher) (watched_plan new) (seen_by old.watcher) (seen_by new) old.kept.items look.plan look.begins old.looks

pub returns-then-len-clause-kept : goal.returns-then-len-clause-kept
returns-then-len-clause-kept g c =
    let old = c.args.self.now.kept in let look = c.look-snapshot.ensures in
    let few : length old.items < 63 = omega (arith, c.if-len.true, c.len.ensures, old.ok) in record {
      snapshot = c.look-snapshot.result;
      long = look.length;
      counts = look.counts;
      kept = c.keep.ensures.kept ∙ sym (early_kept old.items c.look-snapshot.result few);
    }

pub returns-else-len-clause-kept : goal.returns-else-len-clause-kept
returns-else-len-clause-kept g c =
    let old = c.args.self.now.kept in let look = c.look-snapshot.ensures in
    let many : 63 ≤ length old.items = omega (arith, c.if-len.false, c.len.ensures, old.ok) in record {
      snapshot = c.look-snapshot.result;
      long = look.length;
      counts = look.counts;
      kept = sym (early_passed old.items c.look-snapshot.result many);
    }
