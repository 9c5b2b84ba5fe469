-- The first of what is read with which something is wrong.
use Rattle.std.specs.Prelude.{◌≡◌, ℕ, ◌+◌, List, ◌∷◌, ◌++◌, length, map, Result, Ok, Err}
use Rattle.conc_types.specs.declared.kind.RefusalKind.{RefusalKind}

-- before it stand values alone, and it has its line, where the first of all has the line given
pub record IsFirstWrong {A : Type 0} (line : ℕ) (all : List (Result A RefusalKind)) (wrong : ℕ × RefusalKind) : Type 0 where
  pub before : List A
  pub after : List (Result A RefusalKind)
  pub stands : all ≡ map Ok before ++ Err wrong.1 ∷ after
  pub numbered : wrong.0 ≡ line + length before
