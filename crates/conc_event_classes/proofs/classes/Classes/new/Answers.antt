use Rattle.std.proofs.Common.{◌∙◌, ap}
use Rattle.conc_event_classes.specs.Rivals.{rows_of}
use Rattle.conc_event_classes.specs.ExcludesKin.{AreKinMarked}
use Rattle.conc_event_classes.proofs.Built.{made_of}
use Rattle.conc_event_classes.proofs.classes.Classes.new.Goals as goal

pub returns : goal.returns
returns c =
    let kin_marked : AreKinMarked c.args.plan.now.requests c.in_ok-partition.partition.classes.items c.in_ok-rivals.rivals c.in_ok-excludes_kin.excludes_kin =
    rw (← c.as_slice-2.ensures.value, ← c.as_slice-3.ensures) c.in_ok-excludes_kin.ensures in
    made_of c.args.plan.now c.in_ok-partition.partition _ c.in_ok-partition.ensures c.from_vec.ensures c.from_vec-2.ensures c.from_vec-3.ensures
    (c.in_ok-rivals.ensures ∙ ap (λ heads. rows_of c.args.plan.now heads heads) c.as_slice.ensures.value) kin_marked
