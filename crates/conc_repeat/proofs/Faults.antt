-- The first fault of lines, after those that break no rule.
use Rattle.std.proofs.Common.{◌≡◌, refl, ap, ℕ, suc, ◌+◌}
use Rattle.std.specs.Prelude.{Option, None, Some}
use Rattle.conc_types.specs.declared.kind.RefusalKind.{RefusalKind}
use Rattle.conc_types.specs.Faults.{fault_or, first_fault}

pub fault_none : (kind_at : ℕ → Option RefusalKind) (line : ℕ) → first_fault kind_at line 0 ≡ None
unfolding first_fault
fault_none kind_at line = refl

pub fault_later : (kind_at : ℕ → Option RefusalKind) (line count : ℕ) → kind_at line ≡ None → first_fault kind_at line (suc count) ≡ first_fault kind_at (line + 1) count
unfolding first_fault
fault_later kind_at line count e = ap (λ (k : Option RefusalKind). fault_or line k (first_fault kind_at (line + 1) count)) e

pub fault_here : (kind_at : ℕ → Option RefusalKind) (line count : ℕ) (kind : RefusalKind) → kind_at line ≡ Some kind → first_fault kind_at line (suc count) ≡ Some (line, kind)
unfolding first_fault
fault_here kind_at line count kind e = ap (λ (k : Option RefusalKind). fault_or line k (first_fault kind_at (line + 1) count)) e
