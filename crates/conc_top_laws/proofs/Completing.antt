-- Each command does what it is for, by what its exit means.
use Rattle.std.proofs.Common.{◌≡◌, ℕ, List, None, Some, inl, inr}
use Rattle.conc_types.specs.declared.event.RequestId.{RequestId}
use Rattle.conc_history.specs.Listing.{listing}
use Rattle.conc_run_state.specs.Disks.{Disks}
use Rattle.conc_top.specs.declared.exit.Exit.{Exit}
use Rattle.conc_top.specs.Answers.{Around, handed_in, IsSummary, judging_in}
use Rattle.conc_top_inputs.specs.Given.{digests_of, named}
use Rattle.conc_top_laws.specs.Completes.{CheckCompletes, MakeCompletes, OutputCompletes, PlanCompletes, RepeatCompletes, RunCompletes, StatusCompletes}
use Rattle.conc_top_laws.proofs.Ending.{check-done, output-done, repeat-done, run-done, status-done}
use Rattle.conc_top_laws.proofs.Printed.{prints-done, unplanned-done}

module _ (a : Around) (d : Disks) (end : Exit) where
  pub run : (setup script file : List ℕ) (threads watchers : ℕ) → RunCompletes setup script file threads watchers a d end
  run setup script file threads watchers means accepted quiet still fits =
      let names = named setup script (Some file) in
      elim means [
        | inl planned ↦ run-done threads watchers (handed_in a names d planned.0) a.sink (fits planned.0) still.journal still.spool quiet.sink end planned.1
        | inr not ↦ unplanned-done names a end not.0 accepted quiet
      ]

  pub plan : (setup script : List ℕ) → PlanCompletes setup script a d end
  plan setup script means accepted quiet =
      elim means.0 [
        | inl planned ↦ prints-done (λ text. text ≡ listing planned.0.plan) a.sink end planned.1 quiet.sink
        | inr not ↦ unplanned-done (named setup script None) a end not accepted quiet
      ]

  pub check : (setup script file history : List ℕ) → CheckCompletes setup script file history a d end
  check setup script file history means accepted quiet lawful =
      let names = named setup script (Some file) in
      elim means.0 [
        | inl planned ↦ check-done (judging_in a names history planned.0) accepted.files accepted.exposed a.sink (lawful planned.0) quiet.absences quiet.shelf quiet.sink end planned.1
        | inr not ↦ unplanned-done names a end not accepted quiet
      ]

  pub status : (setup script : List ℕ) → StatusCompletes setup script a d end
  status setup script means accepted quiet still fits =
      elim means.0 [
        | inl planned ↦ status-done planned.0.plan (digests_of planned.0.accepted.files) d.journal_before d.journal_after a.sink (fits planned.0) still.journal quiet.sink end planned.1
        | inr not ↦ unplanned-done (named setup script None) a end not accepted quiet
      ]

  pub output : (setup script : List ℕ) (id : RequestId) → OutputCompletes setup script id a d end
  output setup script id means accepted quiet still fits =
      elim means.0 [
        | inl planned ↦ output-done planned.0.plan (digests_of planned.0.accepted.files) id d a.sink (fits planned.0) still quiet.sink end planned.1
        | inr not ↦ unplanned-done (named setup script None) a end not accepted quiet
      ]

  pub repeat : (name : List ℕ) → RepeatCompletes name a d end
  repeat name means has quiet = repeat-done (record { name = name; before = a.before.shelf; after = a.after.shelf }) has.files has.exposed has.bytes has.given has.faultless a.sink quiet.absences quiet.shelf quiet.sink end means.0

  pub make : (seed size : ℕ) → MakeCompletes seed size a d end
  make seed size means quiet = prints-done (IsSummary seed size) a.sink end means.0 quiet.sink
