use Rattle.std.proofs.lemmas.Result.{on_ok_weaker}
use Rattle.conc_history.proofs.Listed.{listed_after}
use Rattle.conc_history.proofs.listing.put_listed.Goals as goal

pub returns : goal.returns
returns c =
    on_ok_weaker c.put_names.result
    (listed_after c.args.plan.now c.args.r.now _ _ _ _ _ _
    c.in_ok-put_order.ensures c.in_ok-put_bytes.ensures c.in_ok-put_member.ensures c.in_ok-put_bytes-2.ensures)
    c.put_names.ensures
