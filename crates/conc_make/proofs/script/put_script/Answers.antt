use Rattle.std.proofs.Common.{◌≡◌, ◌∷◌, ◌++◌, refl}
use Rattle.conc_make.specs.Draws.{after}
use Rattle.conc_make.specs.Files.{made, script_header, submission, text_of}
use Rattle.conc_make.proofs.Sequences.{after-more, at_end, put-more}
use Rattle.conc_make.proofs.script.put_script.Goals as goal

pub loop-submission-init : goal.loop-submission-init
unfolding after made text_of
loop-submission-init c = (refl, c.in_ok-put_bytes.ensures)

pub loop-submission-preserved : goal.loop-submission-preserved
loop-submission-preserved c = (
  after-more 4 c.loop-submission._submission c.args.draws.now.number _ _ c.loop-submission.invariant.0 c.in_ok-put_submission.ensures.number,
  put-more script_header submission 4 c.loop-submission._submission c.args.draws.now.number _ c.args.out.now.items _ _ c.loop-submission.invariant.0 c.loop-submission.invariant.1 c.in_ok-put_submission.ensures.text,
)

pub returns : goal.returns
returns c =
    at_end (λ n. c.loop-submission.out.items ≡ c.args.out.now.items ++ text_of (script_header ∷ made submission 4 n c.args.draws.now.number))
    c.loop-submission._submission c.args.size c.loop-submission.auto._submission-end c.loop-submission-test.false c.loop-submission.invariant.1
