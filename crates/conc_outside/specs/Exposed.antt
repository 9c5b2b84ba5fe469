-- Files that stand in memory.
use Rattle.std.specs.Prelude.{ℕ, List, map, Vec}
use Rattle.std.specs.declared.alloc.Global.{Global}
use Rattle.conc_outside.specs.Files.{Files}

-- names and vectors as a shelf exposes them
abbrev pub exposed : List (List ℕ × Vec ℕ Global) → Files
exposed files = map (λ f. (f.0, f.1.items)) files
