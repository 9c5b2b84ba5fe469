-- Where the postings of a setup have no fault, no program breaks a rule.
use Rattle.std.proofs.Common.{◌≡◌, ℕ, zero, suc, ◌+◌, ◌-◌, ◌<◌, Bool, true, false, not, List, [], ◌∷◌, length, Option, None, Some, refl, ◌∙◌, ap, subst, arith}
use Rattle.std.specs.Prelude.{slice_get}
use Rattle.std.specs.List.{enumerate_from, list_any}
use Rattle.std.proofs.lemmas.Bool.{not-false}
use Rattle.std.proofs.lemmas.Option.{slice_get_within}
use Rattle.conc_types.specs.declared.kind.RefusalKind.{RefusalKind}
use Rattle.conc_types.specs.declared.program.Program.{Program}
use Rattle.conc_types.specs.declared.setup.Setup.{Setup}
use Rattle.conc_types.specs.declared.table.Table.{Table}
use Rattle.conc_types.specs.Faults.{Fault, fault_or, first_broken, first_fault}
use Rattle.conc_types.specs.Words.{numbered}
use Rattle.conc_base_law.proofs.Numbering.{numbered-at}
use Rattle.conc_base_posts.specs.Targets.{clashes, has_target, post_kind, posts_fault}

-- where neither this line nor a later one has a fault
fault_or-none : (line : ℕ) (kind : Option RefusalKind) (later : Option Fault) → fault_or line kind later ≡ None → (kind ≡ None) × (later ≡ None)
fault_or-none line None later e = (refl, e)
fault_or-none line (Some kind) later e = cc

-- where there is no first fault, no line breaks a rule
none-at : (kind_at : ℕ → Option RefusalKind) (first count j : ℕ) → first_fault kind_at first count ≡ None → j < count → kind_at (first + j) ≡ None
unfolding first_fault
none-at kind_at first zero j e h = absurd (omega arith)
none-at kind_at first (suc count) zero e h =
    let here : first + 0 ≡ first = omega arith in
    ap kind_at here ∙ (fault_or-none first (kind_at first) (first_fault kind_at (first + 1) count) e).0
none-at kind_at first (suc count) (suc j) e h =
    let there : first + suc j ≡ first + 1 + j = omega arith in
    ap kind_at there ∙ none-at kind_at (first + 1) count j (fault_or-none first (kind_at first) (first_fault kind_at (first + 1) count) e).1 (omega arith)

-- where neither of two rules is broken
neither_broken : (a b : Bool) (k l : RefusalKind) → first_broken ((a, k) ∷ (b, l) ∷ []) ≡ None → (a ≡ false) × (b ≡ false)
neither_broken true b k l h = cc
neither_broken false true k l h = cc
neither_broken false false k l h = (refl, refl)

-- the program at a place has its table, and clashes with none up to that place
pub record BreaksNone (setup : Setup) (tables : List Table) (n : ℕ) (program : Program) : Type 0 where
  pub target : has_target setup tables program ≡ true
  pub apart : list_any (clashes setup n program) (enumerate_from 0 setup.programs) ≡ false

-- each program is so
pub breaks_none : (setup : Setup) (tables : List Table) (n : ℕ) (program : Program) → posts_fault setup tables ≡ None
    → slice_get setup.programs n ≡ Some program → BreaksNone setup tables n program
unfolding posts_fault post_kind
breaks_none setup tables n program none here =
    let below : n < length setup.programs = slice_get_within setup.programs n program here in
    let kind : post_kind setup tables (1 + n) ≡ None = none-at (post_kind setup tables) 1 (length setup.programs) n none below in
    let at : numbered setup.programs (1 + n) ≡ Some program = numbered-at setup.programs (1 + n) n refl ∙ here in
    let place : 1 + n - 1 ≡ n = omega arith in
    let both : (not (has_target setup tables program) ≡ false) × (list_any (clashes setup (1 + n - 1) program) (enumerate_from 0 setup.programs) ≡ false) =
    neither_broken _ _ _ _ (rw at at kind) in
    record {
      target = not-false _ both.0;
      apart = subst (λ k. list_any (clashes setup k program) (enumerate_from 0 setup.programs) ≡ false) place both.1;
    }
