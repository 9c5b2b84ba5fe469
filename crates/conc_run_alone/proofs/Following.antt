-- A run without workers follows its rule: each event that it adds is the one that comes next.
use Rattle.std.proofs.Common.{◌≡◌, ◌<◌, List, [], ◌∷◌, ◌++◌, length, reverse, take, Some, sym, inl, inr, ◌∙◌, ap, subst, arith}
use Rattle.std.specs.Prelude.{slice_get}
use Rattle.std.proofs.lemmas.Bool.{cases_lt}
use Rattle.std.proofs.lemmas.List.{take-append-le}
use Rattle.conc_types.specs.declared.event.Event.{Event}
use Rattle.conc_types.specs.declared.plan.Plan.{Plan}
use Rattle.conc_types.specs.declared.script.Reading.{Reading}
use Rattle.conc_base_law.specs.Alone.{next_alone}
use Rattle.conc_base_law.specs.Remaining.{remaining}
use Rattle.conc_base_law.proofs.AloneLawful.{next_alone-follows}
use Rattle.conc_base_law.proofs.Positions.{reverse-push}
use Rattle.conc_base_law.proofs.Remaining.{remaining_less}
use Rattle.conc_disk.specs.Disk.{DiskState}
use Rattle.conc_run_choice.proofs.Pushes.{Follows-push}
use Rattle.conc_run_state.specs.Disks.{Disks}
use Rattle.conc_run_state.specs.Lists.{GoesOn, GoesOnAlone}
use Rattle.conc_run_state.specs.Works.{list_in, longest_in}
use Rattle.conc_run_state.specs.declared.work.Work.{Work}
use Rattle.conc_run_steps.specs.Going.{WentOn}
use Rattle.conc_run_steps.specs.Steps.{IsReady, left_in, next_in, plan_in, readings_in}
use Rattle.conc_run_steps.proofs.Coming.{lawful-past}
use Rattle.conc_run_steps.proofs.Going.{get-front, sound-longest}
use Rattle.conc_run_steps.proofs.Underway.{by-first}

-- ---- one step

module _ (plan : Plan) (readings : List Reading) (list longest : List Event) where
  -- it adds nothing
  pub follows-none : longest ≡ list → GoesOnAlone plan readings list longest
  follows-none same = λ i from below. absurd (omega (arith, from, below, ap length same))

  -- it adds the event that comes next
  pub follows-one : (e : Event) → next_alone plan readings (reverse list) ≡ Some e → longest ≡ list ++ e ∷ [] → GoesOnAlone plan readings list longest
  follows-one e next more =
      subst (GoesOnAlone plan readings list) (sym more)
      (Follows-push plan readings (length list) list e (λ i from below. absurd (omega (arith, from, below))) next)

-- a work whose journal did not change
pub follows-still : (old new : Work) (journal spool : DiskState) → IsReady old journal spool → new.journal ≡ old.journal → GoesOnAlone (plan_in old) (readings_in old) (list_in old) (longest_in new)
follows-still old new journal spool ready same =
    follows-none (plan_in old) (readings_in old) (list_in old) (longest_in new)
    (ap (λ j. longest_in (record { machine = new.machine; journal = j; spool = new.spool })) same ∙ sound-longest old ready.sound)

-- ---- two parts of a run

pub follows-twice : (plan : Plan) (readings : List Reading) (a b c : List Event) → GoesOnAlone plan readings a b → GoesOn plan readings b c → GoesOnAlone plan readings b c → GoesOnAlone plan readings a c
follows-twice plan readings a b c first more second = λ i from below. elim (cases_lt i (length b)) [
  | inl lt ↦
      ap (λ l. slice_get l i) more.all ∙ get-front b more.added i lt ∙ first i from lt
      ∙ ap (λ l. next_alone plan readings (reverse l)) (sym (ap (take i) more.all ∙ take-append-le i b more.added (omega arith)))
  | inr ge ↦ second i ge below
]

-- a run that went on, by the plan and the readings of its first work, and one step more
pub follows-further : (first mid new : Work) (d d' : Disks) → WentOn (plan_in first) (readings_in first) d first mid → WentOn (plan_in mid) (readings_in mid) d' mid new
    → GoesOnAlone (plan_in first) (readings_in first) (list_in first) (list_in mid) → GoesOnAlone (plan_in mid) (readings_in mid) (list_in mid) (longest_in new)
    → GoesOnAlone (plan_in first) (readings_in first) (list_in first) (longest_in new)
follows-further first mid new d d' went more before after =
    let by = by-first first mid d went in
    follows-twice (plan_in first) (readings_in first) (list_in first) (list_in mid) (longest_in new) before
    (by (λ p l. GoesOn p l (list_in mid) (longest_in new)) more.list)
    (by (λ p l. GoesOnAlone p l (list_in mid) (longest_in new)) after)

-- ---- how much is left

pub less-left : (old new : Work) (e : Event) (journal spool : DiskState) → IsReady old journal spool → next_in old ≡ Some e → plan_in new ≡ plan_in old → readings_in new ≡ readings_in old
    → list_in new ≡ list_in old ++ e ∷ [] → left_in new < left_in old
less-left old new e journal spool ready next new-plan new-readings added =
    let past = lawful-past (plan_in old) old.machine (readings_in old) (list_in old) ready.tied.readings_are ready.tied.lawful in
    let may = next_alone-follows (plan_in old) (readings_in old) (reverse (list_in old)) e next in
    let less = remaining_less (plan_in old) (readings_in old) (reverse (list_in old)) e past may.1 may.0 in
    let same : left_in new ≡ remaining (plan_in old) (readings_in old) (e ∷ reverse (list_in old)) =
    ap (λ (p : Plan). remaining p (readings_in new) (reverse (list_in new))) new-plan
    ∙ ap (λ (l : List Reading). remaining (plan_in old) l (reverse (list_in new))) new-readings
    ∙ ap (λ (l : List Event). remaining (plan_in old) (readings_in old) (reverse l)) added
    ∙ ap (λ (l : List Event). remaining (plan_in old) (readings_in old) l) (reverse-push (list_in old) e) in
    omega (arith, less, same)
