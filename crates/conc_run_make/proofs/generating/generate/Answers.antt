use Rattle.std.proofs.Common.{◌≡◌, ◌∙◌, ℕ, List, Ok, ap, length, subst, sym}
use Rattle.std.proofs.lemmas.Result.{IfOk-at_ok}
use Rattle.conc_types.specs.declared.plan.Plan.{Plan}
use Rattle.conc_types.specs.declared.setup.Setup.{Setup}
use Rattle.conc_plan.specs.Faults.{plan_fault}
use Rattle.conc_script.specs.Clock.{SpellsClock}
use Rattle.conc_script.specs.Script.{SpellsScript}
use Rattle.conc_setup.specs.Setups.{setup_in}
use Rattle.conc_tables.specs.Tables.{SpellsTable}
use Rattle.conc_run_make.specs.Generated.{AreGenerated}
use Rattle.conc_run_make.proofs.Accepting.{generated-by, has-one_table, plan-fails, plan-faultless, read-as}
use Rattle.conc_run_make.proofs.generating.generate.Goals as goal

pub make_plan-requires-clause-tables : goal.make_plan-requires-clause-tables
make_plan-requires-clause-tables c =
    let setup = c.in_ok-setup.setup in
    let read = read-as (λ (b : List ℕ) (s : Setup). setup_in b ≡ Ok s) _ _ _ setup (c.deref.ensures.value ∙ c.in_ok-inputs.ensures.setup) c.in_ok-setup.ensures c.read_setup.ensures.value in
    ap length c.in_ok-tables.ensures ∙ sym (has-one_table setup read)

pub accepted-requires-5 : goal.accepted-requires-5
accepted-requires-5 c =
    let setup = c.in_ok-setup.setup in
    let script = c.in_ok-script.script in
    let table = c.in_ok-table.table in
    plan-fails _ _
    (ap (plan_fault setup script.commands) c.in_ok-tables.ensures
    ∙ plan-faultless _ _ _ _ setup script table c.in_ok-inputs.ensures.accepted
    (read-as (λ (b : List ℕ) (s : Setup). setup_in b ≡ Ok s) _ _ _ setup c.deref.ensures.value c.in_ok-setup.ensures c.read_setup.ensures.value)
    (read-as (SpellsScript setup) _ _ _ script c.deref-2.ensures.value c.in_ok-script.ensures c.read_script.ensures.ok)
    (read-as SpellsTable _ _ _ table c.deref-4.ensures.value c.in_ok-table.ensures c.read_table.ensures.ok))
    c.make_plan.ensures.err

pub returns : goal.returns
returns c =
    let setup = c.in_ok-setup.setup in
    let script = c.in_ok-script.script in
    let readings = c.in_ok-readings.readings in
    let table = c.in_ok-table.table in
    let plan = c.in_ok-plan.plan in
    subst (λ (p : Plan). AreGenerated c.args.seed c.args.size p readings) (sym c.keep_columns-plan.ensures)
    (generated-by c.args.seed c.args.size plan readings setup script table
    (read-as (λ (b : List ℕ) (s : Setup). setup_in b ≡ Ok s) _ _ _ setup (c.deref.ensures.value ∙ c.in_ok-inputs.ensures.setup) c.in_ok-setup.ensures c.read_setup.ensures.value)
    (read-as (SpellsScript setup) _ _ _ script (c.deref-2.ensures.value ∙ c.in_ok-inputs.ensures.script) c.in_ok-script.ensures c.read_script.ensures.ok)
    (read-as SpellsClock _ _ _ readings (c.deref-3.ensures.value ∙ c.in_ok-inputs.ensures.clock) c.in_ok-readings.ensures c.read_clock.ensures.ok)
    (read-as SpellsTable _ _ _ table (c.deref-4.ensures.value ∙ c.in_ok-inputs.ensures.table) c.in_ok-table.ensures c.read_table.ensures.ok)
    (IfOk-at_ok (λ (p : Plan). p.setup ≡ setup) c.in_ok-plan.ensures c.make_plan.ensures.setup)
    (IfOk-at_ok (λ (p : Plan). p.script ≡ script) c.in_ok-plan.ensures c.make_plan.ensures.script)
    (IfOk-at_ok (λ (p : Plan). p.tables ≡ c.in_ok-tables.tables) c.in_ok-plan.ensures c.make_plan.ensures.tables ∙ c.in_ok-tables.ensures))
