use Rattle.std.proofs.Common.{refl}
use Rattle.std.proofs.lemmas.Option.{slice_get_read}
use Rattle.conc_event_reach.proofs.Widening.{up_to_all, up_to_more}
use Rattle.conc_event_reach.proofs.spans.Spans.new.Goals as goal

pub loop-i-preserved : goal.loop-i-preserved
loop-i-preserved c =
    up_to_more _ _ _ _ _ _ c.index-requests-i.result c.loop-i.invariant
    (rw c.as_slice-requests.ensures at (slice_get_read c.as_slice-requests.result.now _ c.loop-i.i _ refl c.loop-i-test.true c.index-requests-i.is))
    c.widen.ensures c.widen_set.ensures

pub returns : goal.returns
returns c = rw c.as_slice-requests.ensures (up_to_all _ _ _ _ c.loop-i.invariant (rw c.as_slice-requests.ensures at c.loop-i-test.false))
