use Rattle.std.proofs.Common.{◌∷◌, [], set, subst, sym, ◌∙◌, ap}
use Rattle.conc_machine_release.specs.Candidates.{PutsRight}
use Rattle.conc_machine_release.proofs.PutRight.{puts-one}
use Rattle.conc_machine_release.proofs.candidates.put_candidate.Goals as goal

pub returns : goal.returns
returns c =
    subst (PutsRight c.args.ready.now c.args.rivals.now (c.args.class ∷ []) c.args.candidates.now)
    (sym (c.put.ensures ∙ ap (set c.args.candidates.now c.args.class) c.candidate-candidate.ensures))
    (puts-one c.args.ready.now c.args.rivals.now c.args.candidates.now c.args.class c.requires.known)
