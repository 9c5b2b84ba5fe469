use Rattle.std.proofs.Common.{◌≡◌, length, map}
use Rattle.std.specs.String.{string_bytes}
use Rattle.conc_show_model.specs.Grammar.{nothing, said_from, shown}
use Rattle.conc_show_model.proofs.command.read_said.Given as goal

abbrev pub invariant-loop-word : goal.invariant-loop-word
invariant-loop-word l = said_from nothing (map string_bytes l.words) ≡ said_from (shown l.said) (map string_bytes l.rest)

abbrev pub decreases-loop-word : goal.decreases-loop-word
decreases-loop-word l = length l.rest
