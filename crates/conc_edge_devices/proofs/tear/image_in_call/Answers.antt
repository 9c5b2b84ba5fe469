use Rattle.std.proofs.Common.{◌≡◌, ◌∙◌, List, IsTrue, ap, subst, sym}
use Rattle.conc_edge_devices.specs.Trace.{all_fit, begun_in}
use Rattle.conc_edge_devices.specs.declared.trace.Change.{Change}
use Rattle.conc_edge_devices.proofs.Begun.{fit-begun}
use Rattle.conc_edge_devices.proofs.tear.image_in_call.Goals as goal

pub image_after-requires : goal.image_after-requires
image_after-requires c =
    let changes = c.args.trace.now.changes.items in
    let is : c.begun.result.now ≡ begun_in c.args.call changes = c.begun.ensures ∙ ap (begun_in c.args.call) c.changes.ensures in
    subst (λ (l : List Change). IsTrue (all_fit l c.start.result.now)) (sym is) (fit-begun c.args.call changes c.start.result.now c.start.ensures.fit)
