use Rattle.std.proofs.Common.{◌≡◌}
use Rattle.conc_repeat.specs.Written.{IsReady, bytes_of}
use Rattle.conc_repeat.proofs.LinesWritten.{text_to}
use Rattle.conc_repeat.proofs.writing.script_bytes.Given as goal

abbrev pub invariant-loop-due : goal.invariant-loop-due
invariant-loop-due l = IsReady l.lines × (bytes_of l.lines ≡ text_to l.all l.dues l.due-index)
