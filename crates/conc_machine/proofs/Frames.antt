-- The parts of what is kept, where something that they do not read changes.
use Rattle.std.proofs.Common.{◌≡◌, ℕ, ◌≤◌, Bool, true, List, length, take, refl, sym, ◌∙◌, ap, subst, inl, inr, zero, suc, [], ◌∷◌, arith}
use Rattle.std.specs.Prelude.{nat_le, nat_lt, slice_set, unwrap_or, ◌-◌, ◌&&◌}
use Rattle.std.specs.List.{list_all}
use Rattle.std.proofs.lemmas.Bool.{and_from, and_parts, cases_Bool}
use Rattle.std.proofs.lemmas.List.{length-set}
use Rattle.conc_types.specs.declared.event.Event.{Event}
use Rattle.conc_types.specs.declared.event.Event.TheVariants as event
use Rattle.conc_types.specs.declared.facts.State.{State}
use Rattle.conc_types.specs.declared.plan.Plan.{Plan}
use Rattle.conc_types.specs.declared.plan.Req.{Req}
use Rattle.conc_types.specs.Words.{numbered}
use Rattle.conc_event_effects.specs.Advance.{done_after}
use Rattle.conc_base_law.specs.Next.{has_step, is_left_running, runs_somewhere}
use Rattle.conc_base_law.specs.State.{facts_at, no_facts}
use Rattle.conc_event_queue.specs.Written.{IsAlike}
use Rattle.conc_event_queue.proofs.Maps.{numbers_of-alike}
use Rattle.conc_event_classes.specs.Classes.{AreClasses}
use Rattle.conc_machine_release.specs.Lets.{AreLets}
use Rattle.conc_machine_release.proofs.Alike.{AreLets-alike}
use Rattle.conc_event_reach.specs.Spans.{AreSpans}
use Rattle.conc_machine_starts.specs.Starts.{AreStarts}
use Rattle.conc_machine_starts.proofs.Alike.{AreStarts-alike}
use Rattle.conc_machine_steps.specs.declared.running.Running.{Running}
use Rattle.conc_machine_steps.specs.declared.steps.Steps.{Steps}
use Rattle.conc_machine_steps.specs.Steps.{AreRunning, AreSteps}
use Rattle.conc_machine_steps.proofs.Alike.{AreRunning-alike, AreSteps-alike}
use Rattle.conc_machine_steps.proofs.Same.{has_step-same, is_left-same, runs-same}
use Rattle.conc_machine.specs.Indexes.{AreParts, first_undone}
use Rattle.conc_machine.specs.Taken.{HasParts}
use Rattle.conc_machine.specs.declared.indexes.Indexes.{Indexes}
use Rattle.conc_machine.proofs.Undone.{all_before, first_undone-few}

-- ---- the same facts, at another moment

facts_at-same : (before after : State) → after.facts ≡ before.facts → (q : Req) → facts_at after q ≡ facts_at before q
unfolding facts_at
facts_at-same before after same q = ap (λ facts. unwrap_or (numbered facts q.number.number) no_facts) same

pub AreRunning-same : (plan : Plan) (before after : State) (running : Running) → after.facts ≡ before.facts
    → AreRunning plan before running → AreRunning plan after running
AreRunning-same plan before after running same are = record {
  all = are.all ∙ sym (numbers_of-alike plan (runs_somewhere before) (runs_somewhere after) (λ q has. runs-same before after q (facts_at-same before after same q)));
  left = are.left ∙ sym (numbers_of-alike plan (is_left_running before) (is_left_running after) (λ q has. is_left-same before after q (facts_at-same before after same q)));
}

pub AreSteps-same : (plan : Plan) (before after : State) (steps : Steps) → after.facts ≡ before.facts
    → AreSteps plan before steps → AreSteps plan after steps
AreSteps-same plan before after steps same are = record {
  due = are.due ∙ sym (numbers_of-alike plan (has_step plan before) (has_step plan after)
      (λ q has. has_step-same plan before after q (facts_at-same before after same q) (λ stage x h member. facts_at-same before after same x)));
}

-- ---- the same facts, at the same moment

pub AreParts-alike : (plan : Plan) (before after : Indexes) → HasParts before after → IsAlike before.state after.state
    → AreParts plan before → AreParts plan after
AreParts-alike plan before after parts alike are = record {
  all = ap length alike.facts ∙ are.all;
  spans = subst (AreSpans plan) (sym parts.spans) are.spans;
  classes = subst (AreClasses plan) (sym parts.classes) are.classes;
  running = subst (AreRunning plan after.state) (sym parts.running) (AreRunning-alike plan before.state after.state alike before.running are.running);
  steps = subst (AreSteps plan after.state) (sym parts.steps) (AreSteps-alike plan before.state after.state alike before.steps are.steps);
  lets =
      subst (λ lets. AreLets plan after.classes after.state lets) (sym parts.lets)
      (subst (λ classes. AreLets plan classes after.state before.lets) (sym parts.classes)
      (AreLets-alike plan before.classes before.state after.state before.lets alike are.lets));
  starts = subst (AreStarts plan after.state) (sym parts.starts) (AreStarts-alike plan before.state after.state before.starts alike are.starts);
}

-- ---- one more command is done

all_before-set : (n k : ℕ) (done : List Bool) → list_all (λ d. d) (take n done) ≡ true → list_all (λ d. d) (take n (slice_set done k true)) ≡ true
all_before-set zero k done all = refl
all_before-set (suc n) k [] all = refl
all_before-set (suc n) zero (d ∷ done) all = and_from _ _ refl (and_parts d _ all).1
all_before-set (suc n) (suc k) (d ∷ done) all =
    let p : (d ≡ true) × (list_all (λ d. d) (take n done) ≡ true) = and_parts d _ all in
    and_from _ _ p.0 (all_before-set n k done p.1)

-- all commands before the first that was not done are done
pub all_before-after : (n : ℕ) (done : List Bool) (e : Event) → n ≡ first_undone done → list_all (λ d. d) (take n (done_after done e)) ≡ true
all_before-after n done (event.Command number) is = elim (cases_Bool (nat_lt 0 number && nat_le number (length done))) [
  | inl on ↦ rw on (all_before-set n (number - 1) done (all_before n done is))
  | inr off ↦ rw off (all_before n done is)
]
all_before-after n done (event.Tick t) is = all_before n done is
all_before-after n done (event.OpenSet s) is = all_before n done is
all_before-after n done (event.Stage s k) is = all_before n done is
all_before-after n done (event.CloseSet s o) is = all_before n done is
all_before-after n done (event.LetOut r) is = all_before n done is
all_before-after n done (event.Started r p) is = all_before n done is
all_before-after n done (event.Ended r o x) is = all_before n done is
all_before-after n done event.Resume is = all_before n done is
all_before-after n done (event.Interrupt r) is = all_before n done is

-- the flags are as many as before
pub length-after : (done : List Bool) (e : Event) → length (done_after done e) ≡ length done
length-after done (event.Command number) = elim (cases_Bool (nat_lt 0 number && nat_le number (length done))) [
  | inl on ↦ rw on (length-set done (number - 1) true)
  | inr off ↦ rw off refl
]
length-after done (event.Tick t) = refl
length-after done (event.OpenSet s) = refl
length-after done (event.Stage s k) = refl
length-after done (event.CloseSet s o) = refl
length-after done (event.LetOut r) = refl
length-after done (event.Started r p) = refl
length-after done (event.Ended r o x) = refl
length-after done event.Resume = refl
length-after done (event.Interrupt r) = refl

-- the first that was not done is among the commands, or behind all
pub few-after : (n : ℕ) (done : List Bool) (e : Event) → n ≡ first_undone done → n ≤ length (done_after done e)
few-after n done e is =
    let few : first_undone done ≤ length done = first_undone-few done in
    let same : length (done_after done e) ≡ length done = length-after done e in
    omega (arith, is, few, same)
