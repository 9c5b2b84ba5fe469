-- How a run ends, from what its parts say.
use Rattle.std.proofs.Common.{◌≡◌, ◌∙◌, arith, inl, inr, ℕ, ◌++◌, List, [], map, None, Ok, Option, Result, Some, refl, subst, sym}
use Rattle.std.specs.Prelude.{IfOk, IfSome}
use Rattle.conc_types.specs.declared.event.Event.{Event}
use Rattle.conc_base_law.specs.Law.{Lawful, LawfulSoFar}
use Rattle.conc_base_law.specs.Overlap.{NoOverlap}
use Rattle.conc_base_law.specs.Text.{text_of}
use Rattle.conc_disk.specs.declared.disk.Disk.{Ghosts as DiskGhosts}
use Rattle.conc_types.specs.declared.digests.Digests.{Digests}
use Rattle.conc_types.specs.declared.script.Readings.{Readings}
use Rattle.conc_run_state.specs.Stores.{disks_of, ran_over}
use Rattle.conc_run_state.specs.declared.input.Input.{Input}
use Rattle.conc_run_state.specs.declared.stores.Stores.{Stores}
use Rattle.conc_top_inputs.specs.Accepting.{IsAccepted}
use Rattle.conc_top_inputs.specs.Given.{digests_of, Names}
use Rattle.conc_top_inputs.specs.declared.accepting.Accepted.{Accepted}
use Rattle.conc_top.specs.Answers.{AnswersRun, Around, exposed_in}
use Rattle.conc_run_state.specs.Handed.{Handed}
use Rattle.conc_run_state.specs.Survival.{HoldsList}
use Rattle.conc_run_state.specs.declared.error.HistoryFail.{HistoryFail}
use Rattle.conc_run_state.specs.declared.error.HistoryFail.TheVariants as history_fail
use Rattle.conc_run_state.specs.Works.{list_in}
use Rattle.conc_run_watched.specs.Ends.{HasWatched, IsCutShort, IsFinished, LacksToTell}
use Rattle.conc_run_watched.specs.declared.watched.Watched.{Watched}
use Rattle.conc_top.specs.declared.exit.Exit.{Exit}
use Rattle.conc_top.specs.declared.exit.Exit.TheVariants as exit
use Rattle.conc_top.specs.Printing.{Prints, Sunk, TookNothing}
use Rattle.conc_types.specs.declared.plan.Plan.{Plan}
use Rattle.conc_run_watch.specs.Lines.{AreWatchLines, watch_text}
use Rattle.conc_top.specs.Runs.{IsHistory, IsRunText, RunEnds}
use Rattle.conc_top.specs.Ways.{exit_for}

-- what a read gives is of this kind where each image is
read-of : (kind : List ℕ → Type 0) (seen : Option (List ℕ)) (may_leave : List ℕ → Type 0) → IfSome seen (λ bytes. (image : List ℕ) → may_leave image → kind image)
    → IfSome seen may_leave → IfSome seen kind
read-of kind None may_leave each left = tt
read-of kind (Some bytes) may_leave each left = each bytes left

-- a run that was cut short, and wrote nothing
pub cut-ends : (threads watchers : ℕ) (h : Handed) (sink : Sunk) (s : HistoryFail) → IsCutShort threads (LacksToTell watchers) h s → TookNothing sink → RunEnds threads watchers h sink (exit_for s)
cut-ends threads watchers h sink history_fail.NotJournal cut nothing = (cut, nothing)
cut-ends threads watchers h sink (history_fail.OtherInput found given) cut nothing = (cut, nothing)
cut-ends threads watchers h sink (history_fail.OtherScript command found given) cut nothing = (cut, nothing)
cut-ends threads watchers h sink (history_fail.Unlawful number) cut nothing = (cut, nothing)
cut-ends threads watchers h sink (history_fail.JournalFull len needed) cut nothing = (cut, nothing)
cut-ends threads watchers h sink (history_fail.DiskFault disk) cut nothing = (cut, nothing)
cut-ends threads watchers h sink history_fail.NoMemory cut nothing = inl (cut, nothing)

-- the run is finished, and its journal tells what its images have
pub history-of : (threads : ℕ) (h : Handed) (history : List Event) → IsFinished threads h history → (Lawful h.plan h.readings history → LawfulSoFar h.plan history)
    → (LawfulSoFar h.plan history → NoOverlap h.plan history) → IfSome h.disks.journal_after.seen h.disks.journal_after.may_leave → IsHistory threads h history
history-of threads h history finished so_far apart left = record {
  finished = finished;
  lawful = finished.goes_on.lawful;
  complete = finished.finished;
  apart = apart (so_far finished.goes_on.lawful);
  reported = finished.goes_on.reported;
  read = read-of (HoldsList h.plan h.digests history) h.disks.journal_after.seen h.disks.journal_after.may_leave finished.journal left;
}

-- without watchers there are no lines
pub no-lines : (plan : Plan) (history : List Event) → AreWatchLines plan history 0 (watch_text 1 [])
no-lines plan history = record { kept = []; count = refl; each = λ i d inside. absurd (omega (arith, inside)); text_is = refl }

-- a history that was finished, and whose text was printed with these lines behind it
pub history-ends : (threads watchers : ℕ) (h : Handed) (sink : Sunk) (history printed : List Event) (lines : List ℕ) (end : Exit) → printed ≡ history → IsHistory threads h history → AreWatchLines h.plan history watchers lines
    → Prints (λ text. text ≡ text_of h.plan printed ++ lines) sink end → RunEnds threads watchers h sink end
history-ends threads watchers h sink history printed lines end same is watched prints =
    ends end (subst (λ (l : List Event). Prints (λ text. text ≡ text_of h.plan l ++ lines) sink end) same prints)
  where
    run-text : (text : List ℕ) → text ≡ text_of h.plan history ++ lines → IsRunText h.plan watchers history text
    run-text text equal = record { lines = lines; watched = watched; text_is = equal }

    ends : (end : Exit) → Prints (λ text. text ≡ text_of h.plan history ++ lines) sink end → RunEnds threads watchers h sink end
    ends exit.Done wrote = (history, is, (wrote.0, run-text wrote.0 wrote.1, wrote.2))
    ends exit.WriteFault wrote = (history, is, (wrote.0, run-text wrote.0 wrote.1, wrote.2), wrote.3)
    ends exit.NoMemory wrote = inr ((history, is), wrote)
    ends exit.Usage wrote = absurd wrote
    ends exit.ClockFault wrote = absurd wrote
    ends (exit.Refused refusal name) wrote = absurd wrote
    ends (exit.Absent name) wrote = absurd wrote
    ends (exit.ReadFault name) wrote = absurd wrote
    ends (exit.DiskFault disk) wrote = absurd wrote
    ends exit.NotJournal wrote = absurd wrote
    ends (exit.OtherInput found given) wrote = absurd wrote
    ends (exit.JournalFull len needed) wrote = absurd wrote
    ends (exit.Unlawful number) wrote = absurd wrote
    ends (exit.NotLawful line) wrote = absurd wrote
    ends (exit.NotEnded number) wrote = absurd wrote
    ends (exit.OtherScript command found given) wrote = absurd wrote

-- what a run ended with that is finished, and whose text was printed with the lines of what its watchers kept
pub ended-prints : (threads watchers : ℕ) (h : Handed) (sink : Sunk) (ended : Result Watched HistoryFail) (w : Watched) (printed : List Event) (lines : List ℕ) (end : Exit) → ended ≡ Ok w
    → printed ≡ list_in w.work → lines ≡ watch_text 1 (map (λ k. k.items) w.kept.items) → HasWatched threads watchers h ended → (Lawful h.plan h.readings (list_in w.work) → LawfulSoFar h.plan (list_in w.work))
    → (LawfulSoFar h.plan (list_in w.work) → NoOverlap h.plan (list_in w.work)) → IfSome h.disks.journal_after.seen h.disks.journal_after.may_leave
    → Prints (λ text. text ≡ text_of h.plan printed ++ lines) sink end → RunEnds threads watchers h sink end
ended-prints threads watchers h sink ended w printed lines end is same lines_are has so_far apart left prints =
    let history = list_in w.work in
    let finished : IsFinished threads h history = subst (λ (r : Result Watched HistoryFail). IfOk r (λ watched. IsFinished threads h (list_in watched.work))) is has.finished in
    let watched : AreWatchLines h.plan history watchers (watch_text 1 (map (λ k. k.items) w.kept.items)) =
    subst (λ (r : Result Watched HistoryFail). IfOk r (λ watched. AreWatchLines h.plan (list_in watched.work) watchers (watch_text 1 (map (λ k. k.items) watched.kept.items)))) is has.watched in
    history-ends threads watchers h sink history printed lines end same (history-of threads h history finished so_far apart left)
    (subst (λ (l : List ℕ). AreWatchLines h.plan history watchers l) (sym lines_are) watched) prints

-- ---- a run of files that give a plan

module _ {D E : Type 0} (d : DiskGhosts D) (e : DiskGhosts E) (threads watchers : ℕ) (names : Names) (a : Around) (x : Accepted) (readings : Readings) (accepted : IsAccepted (exposed_in a) names (Some readings) x)
    (input : Input) (plan : input.plan.now ≡ x.plan) (same_readings : input.readings.now ≡ readings) (digests : input.digests.now ≡ x.digests) (old new : Stores D E) where
  -- it ended so
  pub ran : (end : Exit) → RunEnds threads watchers (ran_over d e input old new) a.sink end → AnswersRun threads watchers names a (disks_of d e old new) end
  ran end ends =
      let disks = disks_of d e old new in
      let at : Plan → Readings → Digests → Type 0 = λ p r s. RunEnds threads watchers (record { plan = p; readings = r.list; digests = s; disks = disks }) a.sink end in
      let of_plan : at x.plan input.readings.now input.digests.now = subst (λ p. at p input.readings.now input.digests.now) plan ends in
      let of_readings : at x.plan readings input.digests.now = subst (λ r. at x.plan r input.digests.now) same_readings of_plan in
      let of_digests : at x.plan readings (digests_of accepted.accepts.files) = subst (at x.plan readings) (digests ∙ accepted.digests) of_readings in
      inl (record { plan = x.plan; readings = readings; accepted = accepted.accepts }, of_digests)
