use Rattle.std.proofs.Common.{◌≡◌, ◌*◌, ◌∷◌, ◌++◌}
use Rattle.conc_make.specs.Draws.{after}
use Rattle.conc_make.specs.Files.{made, script_header, submission, text_of}
use Rattle.conc_make.proofs.script.put_script.Given as goal

abbrev pub invariant-loop-submission : goal.invariant-loop-submission
invariant-loop-submission l =
    (l.draws.number ≡ after (4 * l._submission) l.fn.draws.number)
    × (l.out.items ≡ l.fn.out.items ++ text_of (script_header ∷ made submission 4 l._submission l.fn.draws.number))
