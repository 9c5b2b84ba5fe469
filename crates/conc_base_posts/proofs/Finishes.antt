-- Where nothing comes next in a run without workers, the history is finished, where programs post.
use Rattle.std.proofs.Common.{◌≡◌, ℕ, Bool, true, false, List, reverse, Option, None, Some, if◌then◌else◌, refl, sym, ◌∙◌, ap}
use Rattle.std.specs.List.{find}
use Rattle.std.specs.Option.{option_and_then, option_map, option_or}
use Rattle.conc_types.specs.declared.event.Event.{Event}
use Rattle.conc_types.specs.declared.event.Event.TheVariants as event
use Rattle.conc_types.specs.declared.event.Outcome.TheVariants as outcome
use Rattle.conc_types.specs.declared.facts.State.{State}
use Rattle.conc_types.specs.declared.plan.Plan.{Plan}
use Rattle.conc_types.specs.declared.plan.Req.{Req}
use Rattle.conc_types.specs.declared.script.Reading.{Reading}
use Rattle.conc_base_law.specs.Alone as law
use Rattle.conc_base_law.specs.Alone.{end_with, first_start, next_tick}
use Rattle.conc_base_law.specs.Law.{Finished, is_lawful_so_far}
use Rattle.conc_base_law.specs.Next.{forced, runs_somewhere}
use Rattle.conc_base_law.specs.Readings.{next_reading}
use Rattle.conc_base_law.specs.State.{facts_at, is_running, is_stopping, state}
use Rattle.conc_base_law.specs.Words.{Has}
use Rattle.conc_base_law.proofs.FactsAt.{is_running-state}
use Rattle.conc_base_law.proofs.Finishes as law_proofs
use Rattle.conc_base_law.proofs.FirstBy.{find-some}
use Rattle.conc_base_law.proofs.Used.{used_fits}
use Rattle.conc_base_posts.specs.Alone.{choice, end_of, first_end, next_alone}
use Rattle.conc_base_posts.specs.Positions.{last_report}
use Rattle.conc_base_posts.specs.Posts.{Booked}
use Rattle.conc_base_posts.proofs.Booked.{running_booked}

-- none of two options that give nothing gives something
pub or-none : {A : Type 0} (a b : Option A) → option_or a b ≡ None → (a ≡ None) × (b ≡ None)
or-none None b h = (refl, h)
or-none (Some x) b h = cc

-- a request with a report, where the spool has room, has an end
end_there : (plan : Plan) (past : List Event) (s : State) (r : Req) (made : Booked) (n : ℕ) → last_report plan past r.number ≡ Some made → s.used ≡ Some n → (stop : Bool)
    → (if stop then Some (event.Ended r.number outcome.Terminated None) else option_and_then (λ made. option_map (end_with r made.report) s.used) (last_report plan past r.number)) ≡ None → ⊥
end_there plan past s r made n h k true none = cc
end_there plan past s r made n h k false none =
    let some : option_and_then (λ made. option_map (end_with r made.report) s.used) (last_report plan past r.number) ≡ Some (end_with r made.report n) =
    ap (option_and_then (λ made. option_map (end_with r made.report) s.used)) h ∙ ap (option_map (end_with r made.report)) k in
    cc

-- where nothing ends nothing runs
none_runs : (plan : Plan) (past : List Event) → is_lawful_so_far plan past ≡ true → first_end plan past (state plan past) ≡ None
    → find (runs_somewhere (state plan past)) plan.requests ≡ None
unfolding first_end runs_somewhere
none_runs plan past lawful none = by (find runs plan.requests) refl none where
  s : State
  s = state plan past

  runs : Req → Bool
  runs r = is_running (facts_at s r)

  by : (o : Option Req) → find runs plan.requests ≡ o → option_and_then (end_of plan past s) o ≡ None → o ≡ None
  by None is h = refl
  by (Some r) is h =
      let f : (runs r ≡ true) × Has plan.requests r = find-some runs plan.requests r is in
      let made : (made : Booked) × (last_report plan past r.number ≡ Some made) =
      running_booked plan past r f.1 lawful (sym (is_running-state plan past r f.1) ∙ f.0) in
      let room : (n : ℕ) × (s.used ≡ Some n) = used_fits plan past lawful in
      absurd (end_there plan past s r made.0 room.0 made.1 room.1 (is_stopping (facts_at s r)) h)

-- so the run without workers in which no program posts ends nothing there
law_first_end-none : (plan : Plan) (s : State) → find (runs_somewhere s) plan.requests ≡ None → law.first_end plan s ≡ None
unfolding law.first_end
law_first_end-none plan s h = ap (option_and_then (law.end_of plan s)) h

-- where nothing comes next in a run without workers, the history is finished
pub next_alone-none : (plan : Plan) (readings : List Reading) (history : List Event) → is_lawful_so_far plan (reverse history) ≡ true
    → next_alone plan readings (reverse history) ≡ None → Finished plan readings history
unfolding next_alone choice law.next_alone law.choice
next_alone-none plan readings history lawful h =
    let past : List Event = reverse history in
    let s : State = state plan past in
    let tick : Option Event = next_tick plan s (next_reading readings past) in
    let a : (forced plan s ≡ None) × (option_or (first_end plan past s) (option_or (first_start plan s) tick) ≡ None) = or-none _ _ h in
    let b : (first_end plan past s ≡ None) × (option_or (first_start plan s) tick ≡ None) = or-none _ _ a.1 in
    let none : law.first_end plan s ≡ None = law_first_end-none plan s (none_runs plan past lawful b.0) in
    law_proofs.next_alone-none plan readings history lawful (rw (a.0, none) b.1)
