use Rattle.std.proofs.Common.{◌∙◌, ap, length, refl}
use Rattle.conc_machine_starts.specs.Starts.{is_usable_now}
use Rattle.conc_machine_starts.proofs.Alike.{starts-tick}
use Rattle.conc_machine_starts.proofs.Ranges.{length-places}
use Rattle.conc_machine_starts.proofs.starts.Starts.tick.Goals as goal

pub renew-requires : goal.renew-requires
renew-requires c =
    let related = c.requires in
    ap length related.2.usable ∙ length-places c.args.plan.now (is_usable_now c.args.plan.now related.0)

pub returns : goal.returns
returns c = λ before e are.
    starts-tick c.args.plan.now before c.args.after.now c.args.self.now _ e refl refl refl
    c.renew.ensures are
