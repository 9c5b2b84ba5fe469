-- The first fault of numbered things, one after the other.
use Rattle.std.proofs.Common.{◌≡◌, refl, sym, subst, ap, ◌∙◌, ℕ, zero, suc, ◌+◌, ◌-◌, ◌<◌, ◌≤◌, Bool, true, List, [], ◌∷◌, drop, length, get_or, Option, None, Some, false, arith, inl, inr}
use Rattle.std.specs.List.{list_all}
use Rattle.std.specs.Prelude.{is_none, not, ◌==◌}
use Rattle.std.proofs.lemmas.Bool.Decides.{nat_tests}
use Rattle.std.proofs.lemmas.Option.{slice_get_cases, slice_get_read}
use Rattle.std.proofs.lemmas.List.{drop_more}
use Rattle.std.proofs.Math.Seq.{drop-length}
use Rattle.conc_types.specs.declared.kind.RefusalKind.TheVariants as refused
use Rattle.conc_types.specs.declared.kind.RefusalKind.{RefusalKind}
use Rattle.conc_types.specs.declared.program.Program.{Program}
use Rattle.conc_types.specs.declared.setup.Setup.{Setup}
use Rattle.conc_types.specs.declared.table.Table.{Table}
use Rattle.conc_types.specs.Faults.{Fault, fault_or, first_broken, first_fault}
use Rattle.conc_types.specs.Tables.{are_tables, can_report, table_named}
use Rattle.conc_types.specs.Words.{numbered}
use Rattle.conc_plan.specs.Faults.{kind_for, program_kind}

-- the faults from one line on, by what that line has
pub fault_next : (kind_at : ℕ → Option RefusalKind) (line last i : ℕ) → i < last → first_fault kind_at line (last - i) ≡ fault_or line (kind_at line) (first_fault kind_at (line + 1) (last - (i + 1)))
unfolding first_fault
fault_next kind_at line last i below =
    let count : last - i ≡ suc (last - (i + 1)) = omega arith in
    rw count refl

at_number : {T : Type 0} → (xs : List T) (i : ℕ) (x : T) → i < length xs → x ≡ get_or xs i x → numbered xs (1 + i) ≡ Some x
at_number xs i x below here =
    let place : 1 + i - 1 ≡ i = omega arith in
    let test : (1 + i == 0) ≡ false = grind (arith, nat_tests) in
    rw (test, place) (slice_get_read xs (length xs) i x refl below here)

-- what the program with this number has
pub kind_at_program : (setup : Setup) (tables : List Table) (number i : ℕ) (program : Program) (items : List Program) → items ≡ setup.programs → number ≡ 1 + i → i < length items → program ≡ get_or items i program → program_kind setup tables number ≡ kind_for setup tables program
unfolding program_kind
kind_at_program setup tables number i program items same is below here =
    rw (is, at_number setup.programs i program (subst (λ l. i < length l) same below) (here ∙ ap (λ l. get_or l i program) same)) refl

-- it has a fault, and those before it have none
pub program_fails : (setup : Setup) (tables : List Table) (number i : ℕ) (kind : RefusalKind) (program : Program) (items : List Program) (wanted : Option Fault) → items ≡ setup.programs
    → number ≡ 1 + i → i < length items → program ≡ get_or items i program → kind_for setup tables program ≡ Some kind
    → first_fault (program_kind setup tables) number (length setup.programs - i) ≡ wanted → Some (number, kind) ≡ wanted
program_fails setup tables number i kind program items wanted same is below here fails rest =
    let next = fault_next (program_kind setup tables) number (length setup.programs) i (subst (λ l. i < length l) same below) in
    let at = kind_at_program setup tables number i program items same is below here ∙ fails in
    sym (ap (λ k. fault_or number k (first_fault (program_kind setup tables) (number + 1) (length setup.programs - (i + 1)))) at) ∙ sym next ∙ rest

-- it has none
pub program_passes : (setup : Setup) (tables : List Table) (number i : ℕ) (program : Program) (items : List Program) (wanted : Option Fault) → items ≡ setup.programs
    → number ≡ 1 + i → i < length items → program ≡ get_or items i program → kind_for setup tables program ≡ None
    → first_fault (program_kind setup tables) number (length setup.programs - i) ≡ wanted
    → first_fault (program_kind setup tables) (number + 1) (length setup.programs - (i + 1)) ≡ wanted
program_passes setup tables number i program items wanted same is below here passes rest =
    let next = fault_next (program_kind setup tables) number (length setup.programs) i (subst (λ l. i < length l) same below) in
    let at = kind_at_program setup tables number i program items same is below here ∙ passes in
    sym (ap (λ k. fault_or number k (first_fault (program_kind setup tables) (number + 1) (length setup.programs - (i + 1)))) at) ∙ sym next ∙ rest

-- past the last line there is no fault
pub no_more_faults : (kind_at : ℕ → Option RefusalKind) (line last i : ℕ) (wanted : Option Fault) → last ≤ i → first_fault kind_at line (last - i) ≡ wanted → None ≡ wanted
unfolding first_fault
no_more_faults kind_at line last i wanted past rest =
    let count : last - i ≡ 0 = omega arith in
    ap (first_fault kind_at line) (sym count) ∙ rest

-- ---- without a fault

second_holds : (a b : Bool) (m n : RefusalKind) → first_broken ((a, m) ∷ (not b, n) ∷ []) ≡ None → b ≡ true
second_holds true b m n e = absurd (cc e)
second_holds false true m n e = refl
second_holds false false m n e = absurd (cc e)

later_is_none : (line : ℕ) (k : Option RefusalKind) (later : Option Fault) → fault_or line k later ≡ None → (k ≡ None) × (later ≡ None)
later_is_none line None later e = (refl, e)
later_is_none line (Some n) later e = absurd (cc e)

-- programs without a fault can all report
programs_pass : (setup : Setup) (tables : List Table) (k i : ℕ) → k + i ≡ length setup.programs → first_fault (program_kind setup tables) (1 + i) k ≡ None → list_all (can_report setup tables) (drop i setup.programs) ≡ true
unfolding first_fault kind_for
programs_pass setup tables zero i count none =
    let past : i ≡ length setup.programs = omega arith in
    rw (past, drop-length setup.programs) refl
programs_pass setup tables (suc k) i count none =
    let both = later_is_none (1 + i) (program_kind setup tables (1 + i)) (first_fault (program_kind setup tables) (1 + i + 1) k) none in
    let next : 1 + i + 1 ≡ 1 + (i + 1) = omega arith in
    let rest = programs_pass setup tables k (i + 1) (omega arith) (subst (λ n. first_fault (program_kind setup tables) n k ≡ None) next both.1) in
    elim (slice_get_cases setup.programs i).1 [
      | inl found ↦
          let kind = kind_at_program setup tables (1 + i) i found.0 setup.programs refl refl found.1 (sym found.3) in
          let holds = second_holds (is_none (table_named setup tables found.0.job.table)) (can_report setup tables found.0) refused.UnknownTable refused.UnknownColumn (sym kind ∙ both.0) in
          rw (drop_more setup.programs i found.0 found.1, found.3, holds, rest) refl
      | inr past ↦ absurd (omega arith)
    ]

-- a setup and as many tables as it names have what a plan asks of them
pub are_tables_so : (setup : Setup) (tables : List Table) → length tables ≡ length setup.tables → first_fault (program_kind setup tables) 1 (length setup.programs) ≡ None → are_tables setup tables ≡ true
are_tables_so setup tables count none =
    let all = programs_pass setup tables (length setup.programs) 0 (omega arith) none in
    let same : (length tables == length setup.tables) ≡ true = rw count (grind (arith, nat_tests)) in
    rw (same, all) refl
