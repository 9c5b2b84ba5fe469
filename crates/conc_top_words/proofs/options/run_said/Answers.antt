use Rattle.std.proofs.Common.{◌≡◌, ◌∙◌, Some, refl, ℕ}
use Rattle.std.proofs.lemmas.Result.{IfOk-weaker}
use Rattle.conc_top_words.specs.Saying.{shown}
use Rattle.conc_top_words.specs.Words.{run_among, run_said, Said, threads_of, watchers_of}
use Rattle.conc_top_words.proofs.options.run_said.Goals as goal

-- the run of words that give a number of threads and a number of watchers
some-run : (s : Said) (threads watchers : ℕ) → threads_of s.threads ≡ Some threads → watchers_of s.watch ≡ Some watchers
    → run_among threads watchers s.files ≡ run_said s
some-run s threads watchers given given' = rw (given, given') refl

pub returns : goal.returns
returns c =
    IfOk-weaker c.run_among.result _ _
    (λ command same. same ∙ (rw c.as_slice-3.ensures.value (some-run (shown c.args.said.now) c.in-Some.threads c.in-Some-watchers_of.watchers (cc) (cc))))
    c.run_among.ensures
