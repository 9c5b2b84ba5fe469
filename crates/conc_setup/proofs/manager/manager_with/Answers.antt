use Rattle.std.proofs.Common.{◌∙◌}
use Rattle.conc_setup.proofs.Proven.{manager-made}
use Rattle.conc_setup.proofs.manager.manager_with.Goals as goal

pub returns : goal.returns
returns c =
    manager-made c.args.raw.now _ c.args.include c.args.exclude _ _ _ c.in_ok-name.ensures
    (c.from_vec-shifts.ensures ∙ (c.in_ok-to_vec.ensures.items_if_clones_equal (λ x y e. e) ∙ c.as_slice.ensures))
