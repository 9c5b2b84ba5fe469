-- What was read, against what a call accepts or stops at.
use Rattle.std.proofs.Common.{◌≡◌, ℕ, List, Option, Some, Result, Ok, Err, length, take, sym, ◌∙◌, ap, subst, inl, inr, refl}
use Rattle.std.specs.Prelude.{IfErr}
use Rattle.std.specs.Result.{IsErrAnd}
use Rattle.std.specs.Prelude.{slice_get}
use Rattle.std.specs.List.{sum_by, zip}
use Rattle.std.proofs.lemmas.Slice.Zip.{AllZip-long}
use Rattle.conc_types.specs.declared.refusal.FileKind.TheVariants as kind
use Rattle.conc_types.specs.declared.error.ReadFail.{ReadFail}
use Rattle.conc_types.specs.declared.error.ReadFail.TheVariants as fail
use Rattle.conc_types.specs.declared.refusal.Refusal.{Refusal}
use Rattle.conc_types.specs.declared.script.Readings.{Readings}
use Rattle.conc_types.specs.declared.script.Script.{Script}
use Rattle.conc_types.specs.declared.setup.Setup.{Setup}
use Rattle.conc_types.specs.declared.table.Table.{Table}
use Rattle.conc_data_digests.specs.Inputs.{input_digests}
use Rattle.conc_data_digests.specs.Stamps.{stamps_of}
use Rattle.conc_outside.specs.Files.{Files, Gives, IsLater, ShelfState}
use Rattle.conc_plan.specs.Faults.{IsFailure, plan_fault}
use Rattle.conc_tables.specs.Tables.{SpellsTable}
use Rattle.conc_top_inputs.specs.declared.accepting.Accepted.{Accepted}
use Rattle.conc_top_inputs.specs.declared.error.InputFail.{InputFail}
use Rattle.conc_top_inputs.specs.declared.reading.Start.{Start}
use Rattle.conc_edge_clock.specs.Clocks.{ClockState}
use Rattle.conc_top_inputs.specs.Accepting.{IsAccepted, IsAnswer, IsTimedAnswer, StartsReading}
use Rattle.conc_top_inputs.specs.Fails.{FailsWith}
use Rattle.conc_top_inputs.specs.Given.{HasAll, HasTables, named, Names, ReadsClock, Sources, sources, Exposed, exposed_by}
use Rattle.conc_top_inputs.specs.Reading.{HasInputs, HasStart}
use Rattle.conc_top_inputs.specs.Refusals.{fault_of_table}
use Rattle.conc_top_inputs.specs.Ways.{fail_without_plan}
use Rattle.conc_top_inputs.specs.FileFails.{Ends, IsTableFail, FailsInTables}
use Rattle.conc_top_inputs.proofs.FileFailing.{ends-wider, IsLater-refl, stops-at}

-- there are as many tables as names of them
pub tables-long : (exposed : Option Files) (names : List (List ℕ)) (tables : List Table) → HasTables exposed names tables → length tables ≡ length names
tables-long exposed names tables has =
    AllZip-long SpellsTable has.contents tables has.spell ∙ AllZip-long (Gives exposed) names has.contents has.given

-- a setup and a script that were read, and then the readings of a clock, or none
pub with-readings : (exposed : Exposed) (names : Names) (start : Start) (readings : Option Readings) → HasStart exposed.files names start
    → ReadsClock exposed names.clock readings → HasInputs exposed names start readings
with-readings exposed names start readings has given = record {
  files = record { before = has.files; readings = readings; given = given };
  setup = has.setup;
  script = has.script;
  same_readings = refl;
  digest = has.digest;
}

-- the tables that were read are those of the setup that was read
tables-of : (exposed : Exposed) (before : Option Files) (names : Names) (start : Start) (readings : Option Readings) (has : HasInputs exposed names start readings) (named : List (List ℕ)) (tables : List Table)
    → named ≡ start.setup.tables → before ≡ exposed.files → HasTables before named tables → HasAll exposed names tables
tables-of exposed before names start readings has named tables same files read =
    let at : named ≡ has.files.before.before.setup.tables = same ∙ ap (λ (s : Setup). s.tables) has.setup in
    record { before = has.files; given = subst (λ t. HasTables t has.files.before.before.setup.tables tables) files (subst (λ l. HasTables before l tables) at read) }

-- all was read, and this is the plan and these are the digests
pub accepted : (exposed : Exposed) (before : Option Files) (names : Names) (a : Accepted) (start : Start) (readings : Option Readings) (has : HasInputs exposed names start readings) (named : List (List ℕ)) (tables : List Table)
    → named ≡ start.setup.tables → before ≡ exposed.files → (read : HasTables before named tables)
    → a.digests ≡ input_digests has.files.before.before.bytes has.files.before.bytes (zip named read.contents)
    → a.plan.setup ≡ start.setup → a.plan.script ≡ start.script → a.plan.stamps ≡ stamps_of start.script.commands → a.plan.tables ≡ tables → IsAccepted exposed names readings a
accepted exposed before names a start readings has named tables same files read digest setup script stamps these =
    let P : Option Files → List (List ℕ) → List Table → Type 0 = λ all l t.
    (given : HasTables all l t) × (a.digests ≡ input_digests has.files.before.before.bytes has.files.before.bytes (zip l given.contents)) in
    let at : named ≡ has.files.before.before.setup.tables = same ∙ ap (λ (s : Setup). s.tables) has.setup in
    let there : P exposed.files has.files.before.before.setup.tables a.plan.tables
    = subst (λ all. P all has.files.before.before.setup.tables a.plan.tables) files
    (subst (λ l. P before l a.plan.tables) at (subst (λ t. P before named t) (sym these) (read, digest))) in
    record {
      accepts = record {
        files = record { before = has.files; given = there.0 };
        setup = setup ∙ has.setup;
        script = script ∙ has.script;
        stamps = stamps ∙ ap (λ (s : Script). stamps_of s.commands) has.script;
        same_readings = has.same_readings;
      };
      digests = there.1;
    }

-- all was read, and gives no plan
pub without-plan : (old new : Sources) (before : Option Files) (names : Names) (start : Start) (readings : Option Readings) (has : HasInputs (exposed_by old new) names start readings) (named : List (List ℕ)) (tables : List Table)
    → named ≡ start.setup.tables → before ≡ old.shelf.files → HasTables before named tables
    → (made : List Table) → made ≡ tables → (e : ReadFail Refusal) → IsFailure (plan_fault start.setup start.script.commands made) e
    → FailsWith old new names (fail_without_plan names.setup names.script e)
unfolding tables-of
without-plan old new before names start readings has named tables same files read made these fail.NoMemory failed = tt
without-plan old new before names start readings has named tables same files read made these (fail.Refused refusal) failed =
    let fault : plan_fault start.setup start.script.commands tables ≡ Some (refusal.file, (refusal.line, refusal.kind))
    = ap (plan_fault start.setup start.script.commands) (sym these) ∙ failed in
    inr (record {
      tables = tables;
      files = tables-of (exposed_by old new) before names start readings has named tables same files read;
      fault = ap (λ (s : Setup). plan_fault s has.files.before.script.commands tables) (sym has.setup)
          ∙ ap (λ (s : Script). plan_fault start.setup s.commands tables) (sym has.script) ∙ fault;
      named = refl;
    })

at-table : (old new : Sources) (mid : ShelfState) (names : Names) (start : Start) (readings : Option Readings) (has : HasInputs (exposed_by old new) names start readings) (named : List (List ℕ)) (end : InputFail)
    → named ≡ has.files.before.before.setup.tables → IsLater old.shelf mid → IsTableFail mid new.shelf named end → FailsWith old new names end
at-table old new mid names start readings has named end same later file_fail =
    let P : Option Files → List (List ℕ) → Type 0 = λ files all.
    (given : HasTables files (take file_fail.number all) file_fail.tables) × (slice_get all file_fail.number ≡ Some file_fail.name)
    × Ends old.shelf new.shelf (λ bytes fault. fault_of_table (sum_by length given.contents) bytes ≡ Some fault) (kind.Table file_fail.number) file_fail.name file_fail.cause in
    let here : P mid.files named = (
      file_fail.given,
      file_fail.named,
      ends-wider old.shelf mid new.shelf (λ bytes fault. fault_of_table (sum_by length file_fail.given.contents) bytes ≡ Some fault) (kind.Table file_fail.number) file_fail.name file_fail.cause later file_fail.ends,
    ) in
    let there : P old.shelf.files has.files.before.before.setup.tables = subst (P old.shelf.files) same (subst (λ t. P t named) later.files here) in
    stops-at old new old.shelf names (kind.Table file_fail.number) file_fail.name
    (record { before = has.files; tables = file_fail.tables; given = there.0; named = there.1 })
    file_fail.cause end (IsLater-refl old.shelf) there.2 (inl file_fail.is)

-- the reading of the tables ended
pub tables-end : (old new : Sources) (mid : ShelfState) (names : Names) (start : Start) (readings : Option Readings) (has : HasInputs (exposed_by old new) names start readings) (named : List (List ℕ)) (end : InputFail)
    → named ≡ start.setup.tables → IsLater old.shelf mid → FailsInTables mid new.shelf named end → FailsWith old new names end
tables-end old new mid names start readings has named end same later (inl none) = subst (FailsWith old new names) (sym none) tt
tables-end old new mid names start readings has named end same later (inr file_fail) =
    at-table old new mid names start readings has named end (same ∙ ap (λ (s : Setup). s.tables) has.setup) later file_fail

-- ---- an answer that hands on a failure

-- what holds of the failure holds of the answer
pub handed : {A : Type 0} (P : InputFail → Type 0) (answer : Result A InputFail) (fail : InputFail) → IsErrAnd answer (λ e. e ≡ fail) → P fail → IfErr answer P
handed P (Ok value) fail is holds = absurd is
handed P (Err e) fail is holds = subst P (sym is) holds

pub no-start : (old new : ShelfState) (setup script : List ℕ) (answer : Result Start InputFail) (fail : InputFail) → IsErrAnd answer (λ e. e ≡ fail)
    → ((before after : ClockState) (clock : Option (List ℕ)) → FailsWith (sources old before) (sources new after) (named setup script clock) fail)
    → StartsReading old new setup script answer
no-start old new setup script (Ok start) fail is why = absurd is
no-start old new setup script (Err e) fail is why = record {
  ok = λ clock. tt;
  err = λ before after clock. subst (FailsWith (sources old before) (sources new after) (named setup script clock)) (sym is) (why before after clock);
}

pub no-answer : (old new : Sources) (names : Names) (readings : Option Readings) (answer : Result Accepted InputFail) (fail : InputFail) → IsErrAnd answer (λ e. e ≡ fail)
    → FailsWith old new names fail → IsAnswer old new names readings answer
no-answer old new names readings (Ok a) fail is why = absurd is
no-answer old new names readings (Err e) fail is why = record { ok = tt; err = subst (FailsWith old new names) (sym is) why }

pub no-timed-answer : (old new : Sources) (names : Names) (answer : Result (Accepted × Readings) InputFail) (fail : InputFail) → IsErrAnd answer (λ e. e ≡ fail)
    → FailsWith old new names fail → IsTimedAnswer old new names answer
no-timed-answer old new names (Ok p) fail is why = absurd is
no-timed-answer old new names (Err e) fail is why = record { ok = tt; err = subst (FailsWith old new names) (sym is) why }
