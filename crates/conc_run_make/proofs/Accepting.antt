-- What the readers and the plan make of files that are accepted.
use Rattle.std.proofs.Common.{◌≡◌, ◌∙◌, ℕ, List, [], ◌∷◌, Option, None, Result, Ok, Err, ap, length, refl, subst, sym}
use Rattle.std.specs.Prelude.{IfErr, IfOk}
use Rattle.std.proofs.lemmas.Result.{IfOk-at_ok}
use Rattle.conc_types.specs.declared.plan.Plan.{Plan}
use Rattle.conc_types.specs.declared.refusal.FileKind.{FileKind}
use Rattle.conc_types.specs.declared.error.ReadFail.{ReadFail}
use Rattle.conc_types.specs.declared.error.ReadFail.TheVariants as fail
use Rattle.conc_types.specs.declared.refusal.Refusal.{Refusal}
use Rattle.conc_types.specs.declared.script.Readings.{Readings}
use Rattle.conc_types.specs.declared.script.Script.{Script}
use Rattle.conc_types.specs.declared.setup.Setup.{Setup}
use Rattle.conc_types.specs.declared.table.Table.{Table}
use Rattle.conc_types.specs.Faults.{Fault}
use Rattle.conc_plan.specs.Faults.{IsFailure, plan_fault}
use Rattle.conc_script.specs.Clock.{SpellsClock}
use Rattle.conc_script.specs.Script.{SpellsScript}
use Rattle.conc_script.proofs.OneScript.{commands-one}
use Rattle.conc_setup.specs.Setups.{setup_in}
use Rattle.conc_tables.specs.Tables.{SpellsTable}
use Rattle.conc_tables.proofs.OneTable.{table-one}
use Rattle.conc_make.specs.Accepted.{AreAccepted}
use Rattle.conc_make.specs.Files.{clock_text, script_text, setup_text, table_text}
use Rattle.conc_make.proofs.TheSetup.{got, reading, setup-is, the_setup}
use Rattle.conc_run_make.specs.Generated.{AreGenerated}

-- what is said of the bytes that were read holds of a text that is the same
pub read-as : {A : Type 0} (P : List ℕ → A → Type 0) (bytes text : List ℕ) (r : Result A (ReadFail Refusal)) (value : A) → bytes ≡ text → r ≡ Ok value → IfOk r (P bytes) → P text value
read-as P bytes text r value same ok holds = subst (λ (b : List ℕ). P b value) same (IfOk-at_ok (P bytes) ok holds)

-- ---- the plan

-- files that are accepted give a plan
pub plan-faultless : (setup_bytes script_bytes clock_bytes table_bytes : List ℕ) (setup : Setup) (script : Script) (table : Table)
    → AreAccepted setup_bytes script_bytes clock_bytes table_bytes
    → setup_in setup_bytes ≡ Ok setup → SpellsScript setup script_bytes script → SpellsTable table_bytes table
    → plan_fault setup script.commands (table ∷ []) ≡ None
plan-faultless setup_bytes script_bytes clock_bytes table_bytes setup script table accepted setup_is script_is table_is =
    let same_setup : accepted.setup_read ≡ setup = cc (accepted.setup_is, setup_is) in
    let same_commands = commands-one setup script_bytes accepted.script_read script
    (subst (λ (s : Setup). SpellsScript s script_bytes accepted.script_read) same_setup accepted.script_is) script_is in
    let same_table = table-one table_bytes accepted.table_read table accepted.table_is table_is in
    cc (same_setup, same_commands, same_table, accepted.planned)

no-refusal : (e : ReadFail Refusal) → IsFailure None e → e ≡ fail.NoMemory
no-refusal fail.NoMemory is = refl
no-refusal (fail.Refused refusal) is = absurd (cc is)

-- without a fault a plan fails for want of memory alone
pub plan-fails : (fault : Option (FileKind × Fault)) (r : Result Plan (ReadFail Refusal)) → fault ≡ None → IfErr r (IsFailure fault) → IfErr r (λ e. e ≡ fail.NoMemory)
plan-fails fault (Ok value) none is = tt
plan-fails fault (Err e) none is = no-refusal e (subst (λ (f : Option (FileKind × Fault)). IsFailure f e) none is)

-- ---- the setup's one table

one-table : length the_setup.tables ≡ 1
unfolding reading the_setup got
one-table = refl

pub has-one_table : (setup : Setup) → setup_in setup_text ≡ Ok setup → length setup.tables ≡ 1
has-one_table setup is =
    let same : the_setup ≡ setup = cc (setup-is, is) in
    ap (λ (s : Setup). length s.tables) (sym same) ∙ one-table

-- ---- what is generated

pub generated-by : (seed size : ℕ) (plan : Plan) (readings : Readings) (setup : Setup) (script : Script) (table : Table)
    → setup_in setup_text ≡ Ok setup → SpellsScript setup (script_text seed size) script → SpellsClock clock_text readings → SpellsTable (table_text seed) table
    → plan.setup ≡ setup → plan.script ≡ script → plan.tables ≡ table ∷ [] → AreGenerated seed size plan readings
generated-by seed size plan readings setup script table setup_is script_is clock_is table_is same_setup same_script same_tables = record {
  setup = setup_is ∙ ap (λ (s : Setup). Ok s) (sym same_setup);
  script = subst (λ (s : Setup). SpellsScript s (script_text seed size) plan.script) (sym same_setup)
      (subst (λ (s : Script). SpellsScript setup (script_text seed size) s) (sym same_script) script_is);
  clock = clock_is;
  table = table;
  table_is = table_is;
  tables = same_tables;
}
