use Rattle.std.proofs.Common.{◌≡◌, map, length}
use Rattle.std.specs.Option.{option_map}
use Rattle.std.specs.String.{string_bytes}
use Rattle.conc_top_words.specs.Saying.{before, shown}
use Rattle.conc_top_words.specs.Words as spec
use Rattle.conc_top_words.proofs.options.read_said.Given as goal

-- the words say what was read, and then what the rest says
abbrev pub invariant-loop-word : goal.invariant-loop-word
invariant-loop-word l = spec.said (map string_bytes l.fn.words)
    ≡ option_map (before (shown l.said)) (spec.said (map string_bytes l.rest))

abbrev pub decreases-loop-word : goal.decreases-loop-word
decreases-loop-word l = length l.rest
