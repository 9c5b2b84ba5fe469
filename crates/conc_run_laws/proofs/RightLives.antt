-- A life that goes on from lawful events is a right one.
use Rattle.std.proofs.Common.{◌≡◌, ◌⊎◌, inl, inr, ℕ, ◌+◌, true, not, ◌&&◌, List, length, reverse, take, refl, sym, ◌∙◌, ap, subst, arith}
use Rattle.std.specs.Prelude.{is_none}
use Rattle.std.specs.List.{list_any}
use Rattle.std.proofs.lemmas.Bool.{and_parts, both_ways, not-true}
use Rattle.std.proofs.lemmas.List.{length-append, take_all, take_at}
use Rattle.conc_types.specs.declared.event.Event.{Event}
use Rattle.conc_types.specs.declared.event.RequestId.{RequestId}
use Rattle.conc_types.specs.declared.facts.State.{State}
use Rattle.conc_types.specs.declared.plan.Plan.{Plan}
use Rattle.conc_types.specs.declared.plan.Req.{Req}
use Rattle.conc_types.specs.declared.script.Reading.{Reading}
use Rattle.conc_types.specs.Scripts.{are_in_order}
use Rattle.conc_base_law.specs.Alone.{opening}
use Rattle.conc_base_law.specs.Facts.{runs}
use Rattle.conc_base_law.specs.Law.{AtRest, Finished, is_lawful_so_far}
use Rattle.conc_base_law.specs.Next.{forced, is_at_rest, may_start_somewhere, runs_somewhere}
use Rattle.conc_base_law.specs.State.{state}
use Rattle.conc_base_law.specs.Words.{Has}
use Rattle.conc_base_law.proofs.FactsAt.{is_running-state}
use Rattle.conc_base_law.proofs.FirstBy.{any-some}
use Rattle.conc_base_law.proofs.LawfulSoFar.{lawful_is_lawful_so_far}
use Rattle.conc_run_state.specs.Lists.{GoesOn}
use Rattle.conc_run_state.proofs.Prefixes.{prefix-opening, prefix-twice}
use Rattle.conc_run_laws.specs.Lives.{IsInterrupted, IsInterruptedFirst, IsRightLife, OnlyInterrupts}
use Rattle.conc_run_laws.proofs.Added.{each-comes}
use Rattle.conc_run_laws.proofs.Interrupts.{IsInterruptedIn, IsLeft, left-opening, StillRuns, walk}
use Rattle.conc_run_laws.proofs.Starts.{starts-no_more}

-- ---- interrupts

interrupted-in : (found list : List Event) (id : RequestId) (to : ℕ) → IsInterruptedIn (length (opening found)) to list id → IsInterrupted found list id
interrupted-in found list id to is = record { position = is.position; behind = is.behind; there = is.there; first = is.first }

-- at rest nothing runs
rest-runs-not : (plan : Plan) (list : List Event) (r : Req) → Has plan.requests r → AtRest plan list → runs (reverse list) r.number ≡ true → ⊥
unfolding is_at_rest runs_somewhere
rest-runs-not plan list r has rest is =
    let s : State = state plan (reverse list) in
    let p : (is_none (forced plan s) ≡ true) × ((not (list_any (runs_somewhere s) plan.requests) && not (list_any (may_start_somewhere plan s) plan.requests)) ≡ true) = and_parts _ _ rest in
    let q : (not (list_any (runs_somewhere s) plan.requests) ≡ true) × (not (list_any (may_start_somewhere plan s) plan.requests) ≡ true) = and_parts _ _ p.1 in
    both_ways _ (not-true _ q.0) (any-some (runs_somewhere s) plan.requests r has (is_running-state plan (reverse list) r has ∙ is))

-- ---- a life

module _ (plan : Plan) (readings : List Reading) (found list : List Event) (going : GoesOn plan readings (opening found) list) where
  start-is : take (length (opening found)) list ≡ opening found
  start-is = ap (take (length (opening found))) going.all ∙ take_at (opening found) going.added (length (opening found)) refl

  long : length list ≡ length (opening found) + length going.added
  long = ap length going.all ∙ length-append (opening found) going.added

  whole : take (length (opening found) + length going.added) list ≡ list
  whole = take_all (length (opening found) + length going.added) list (omega (arith, long))

  -- what ran was interrupted, or still runs
  walked : (r : Req) → Has plan.requests r → runs (reverse found) r.number ≡ true
      → IsInterruptedIn (length (opening found)) (length (opening found) + length going.added) list r.number ⊎ StillRuns (length (opening found)) (length (opening found) + length going.added) list r.number
  walked r has is =
      let left = subst (λ (l : List Event). IsLeft (reverse l) r.number) (sym start-is) (left-opening found r.number is) in
      walk plan readings (length (opening found)) list r has (each-comes plan readings (opening found) list going) left (length going.added) (omega (arith, long))

  running-first : (r : Req) → Has plan.requests r → runs (reverse found) r.number ≡ true → IsInterruptedFirst found list r.number
  running-first r has is = elim (walked r has is) [
    | inl in_it ↦ inl (interrupted-in found list r.number (length (opening found) + length going.added) in_it)
    | inr still ↦ inr (subst (λ (to : ℕ). OnlyInterrupts (length (opening found)) to list) (sym long) still.only)
  ]

  -- so a finished life has interrupted what ran
  pub finished-interrupts : (r : Req) → Has plan.requests r → Finished plan readings list → runs (reverse found) r.number ≡ true → IsInterrupted found list r.number
  finished-interrupts r has finished is = elim (walked r has is) [
    | inl in_it ↦ interrupted-in found list r.number (length (opening found) + length going.added) in_it
    | inr still ↦ absurd (rest-runs-not plan list r has finished.0 (subst (λ (l : List Event). runs (reverse l) r.number ≡ true) whole still.left.0))
  ]

  pub right-life : are_in_order readings ≡ true → IsRightLife plan found list
  right-life order =
      let behind = prefix-twice found (opening found) list (prefix-opening found) (going.added, going.all) in
      let lawful : is_lawful_so_far plan (reverse list) ≡ true = lawful_is_lawful_so_far plan readings (reverse list) order going.lawful in
      record {
        begins = behind;
        completed = λ r has done. starts-no_more plan found list behind.0 r has lawful behind.1 done;
        running = running-first;
      }
