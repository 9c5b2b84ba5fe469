use Rattle.std.proofs.Common.{ℕ, List, length, take, arith, subst, sym, length-take}
use Rattle.std.proofs.lemmas.Result.{on_ok_weaker}
use Rattle.conc_disk.specs.Disk.{Torn, written}
use Rattle.conc_edge_devices.specs.Laws.{torn-written}
use Rattle.conc_edge_devices.proofs.tear.tear_write.Goals as goal

pub returns-else-choice-gt1-clause-torn : goal.returns-else-choice-gt1-clause-torn
returns-else-choice-gt1-clause-torn c =
    let old = c.args.image.now.items in
    let bytes = c.args.bytes.now in
    let kept = c.reached-kept.result in
    let torn : Torn c.args.at (length bytes) old (written c.args.at (take kept bytes) old) =
    torn-written c.args.at (length bytes) (take kept bytes) old (omega arith) (omega (arith, length-take kept bytes)) in
    on_ok_weaker _ (λ is. subst (λ (l : List ℕ). Torn c.args.at (length bytes) old l) (sym is) torn) c.put-else-choice-gt1.ensures.ok
