use Rattle.std.proofs.Common.{rules, arith, ◌++◌, take}
use Rattle.conc_outside.proofs.Written.{took_prefix, took_more, written_more}
use Rattle.conc_outside.proofs.sink.write_all.Goals as goal

pub returns-in_err-n-clause-part : goal.returns-in_err-n-clause-part
returns-in_err-n-clause-part g c =
    let written = c.loop-rest.invariant.written in
    let part = took_prefix _ _ _ written.0 _ _ written.1 written.2 c.in_err-n.ensures.unchanged in
    search rules

pub loop-rest-preserved : goal.loop-rest-preserved
loop-rest-preserved g c =
    let written = c.loop-rest.invariant.written in
    record {
      faults = omega (arith, c.loop-rest.invariant.faults, c.in_ok-n.ensures.faults);
      written = (written.0 ++ take c.in_ok-n.n c.loop-rest.rest.now, written_more _ _ _ c.in_ok-n.n written.1, took_more _ _ _ _ _ written.2 c.in_ok-n.ensures.taken);
    }
