-- Where nothing comes next in a run without workers, the history is finished.
use Rattle.std.proofs.Common.{◌≡◌, ℕ, Bool, true, false, not, ◌&&◌, ◌||◌, List, [], ◌∷◌, reverse, Option, None, Some, is_none, if◌then◌else◌, refl, sym, ◌∙◌, ap, subst, inl, inr}
use Rattle.std.specs.List.{find, list_all, list_any}
use Rattle.std.specs.Option.{option_and_then, option_map, option_or}
use Rattle.std.specs.Bool.{then_some}
use Rattle.std.proofs.lemmas.Bool.{and_from, and_parts, both_ways, cases_Bool, not_from_false, or_cases, or_right}
use Rattle.conc_types.specs.declared.event.Event.{Event}
use Rattle.conc_types.specs.declared.event.Event.TheVariants as event
use Rattle.conc_types.specs.declared.event.Outcome.TheVariants as outcome
use Rattle.conc_types.specs.declared.facts.State.{State}
use Rattle.conc_types.specs.declared.item.Item.{Item}
use Rattle.conc_types.specs.declared.item.Item.TheVariants as item
use Rattle.conc_types.specs.declared.plan.Plan.{Plan}
use Rattle.conc_types.specs.declared.plan.Req.{Req}
use Rattle.conc_types.specs.declared.program.Program.{Program}
use Rattle.conc_types.specs.declared.script.Reading.{Reading}
use Rattle.conc_types.specs.declared.table.Table.{Table}
use Rattle.conc_types.specs.Tables.{can_report, has_columns, table_named}
use Rattle.conc_base_law.specs.Alone.{choice, end_of, end_with, first_end, first_start, next_alone, next_tick, report_of, start_of}
use Rattle.conc_base_law.specs.Facts.{is_let}
use Rattle.conc_base_law.specs.Law.{Finished, is_lawful_so_far, may_follow}
use Rattle.conc_base_law.specs.Next.{can_run, forced, is_at_rest, is_ready, may_let, may_start, may_start_somewhere, may_take, runs_somewhere}
use Rattle.conc_base_law.specs.Places.{all_places}
use Rattle.conc_base_law.specs.Plans.{is_admitted, is_enabled, precedes, program_at, program_of}
use Rattle.conc_base_law.specs.Readings.{next_reading}
use Rattle.conc_base_law.specs.Report.{report, Report}
use Rattle.conc_base_law.specs.State.{facts_at, has_come, is_completed, is_live, is_running, is_stopping, state}
use Rattle.conc_base_law.specs.Words.{first_by, Has, is_set}
use Rattle.conc_base_law.proofs.FactsAt.{is_running-state}
use Rattle.conc_base_law.proofs.FirstBy.{find-found, find-some, first_by-none, none_any, precedes-order}
use Rattle.conc_base_law.proofs.LawfulSoFar.{all-get}
use Rattle.conc_base_law.proofs.LiveApart.{is_let-more, let_could}
use Rattle.conc_base_law.proofs.Options.{some_and-some}
use Rattle.conc_base_law.proofs.RunningIsLet.{runs_let}
use Rattle.conc_base_law.proofs.Used.{used_fits}

-- ---- options and searches that give nothing

-- none of two options that give nothing gives something
or-none : {A : Type 0} (a b : Option A) → option_or a b ≡ None → (a ≡ None) × (b ≡ None)
or-none None b h = (refl, h)
or-none (Some x) b h = cc

-- what a map makes of nothing is nothing, and of a value something
map-none : {A B : Type 0} (f : A → B) (o : Option A) → option_map f o ≡ None → o ≡ None
map-none f None h = refl
map-none f (Some x) h = cc

-- a search finds nothing where no element passes
find-none_any : {T : Type 0} (test : T → Bool) (xs : List T) → find test xs ≡ None → list_any test xs ≡ false
find-none_any test xs h = none_any test xs (λ y k. elim (cases_Bool (test y)) [
  | inl t ↦ let f : (z : _) × (find test xs ≡ Some z) = find-found test xs y k t in absurd (cc (h, f.1))
  | inr f ↦ f
])

-- ---- the report of a request that runs

-- a request that could be let can run
could_run : (plan : Plan) (s : State) (r : Req) → may_let plan s r ≡ true → can_run plan r ≡ true
unfolding may_let is_ready
could_run plan s r h =
    let f = facts_at s r in
    let ready : is_ready plan s r ≡ true = (and_parts _ _ h).0 in
    let a = (and_parts f.entered _ ready).1 in
    let b = (and_parts (not (is_live f)) _ a).1 in
    let c = (and_parts (not (is_completed f)) _ b).1 in
    let d = (and_parts (not f.held) _ c).1 in
    let e = (and_parts (has_come s.time r.start) _ d).1 in
    (and_parts (can_run plan r) _ e).0

-- a request that can run, and is no set, is of a program
run_program : (plan : Plan) (r : Req) → can_run plan r ≡ true → is_set r.item ≡ false → (program : Program) × (program_of plan r ≡ Some program)
unfolding can_run is_enabled
run_program plan r h set = elim (or_cases (is_set r.item) _ h) [
  | inl t ↦ absurd (both_ways _ set t)
  | inr f ↦
      let p : (program : Program) × (program_of plan r ≡ Some program) × (program.enabled ≡ true) =
      some_and-some (λ program. program.enabled) (program_of plan r) (and_parts _ (is_admitted plan r) f).0 in
      (p.0, p.1)
]

-- so a let request is of a program
let_program : (plan : Plan) (past : List Event) (r : Req) → Has plan.requests r → is_lawful_so_far plan past ≡ true → is_let plan past r ≡ true
    → (program : Program) × (program_of plan r ≡ Some program)
unfolding is_lawful_so_far is_let
let_program plan [] r hr lawful h = cc
let_program plan (e ∷ past) r hr lawful h =
    let p : (is_lawful_so_far plan past ≡ true) × (may_follow plan None past e ≡ true) = and_parts _ _ lawful in
    elim (is_let-more plan past r e h) [
      | inl l ↦
          let could : (may_let plan (state plan past) r ≡ true) × (is_set r.item ≡ false) = let_could plan None past r hr (subst (λ d. may_follow plan None past d ≡ true) l p.1) in
          run_program plan r (could_run plan (state plan past) r could.0) could.1
      | inr s ↦ let_program plan past r hr p.0 s.1
    ]

-- the table of a program of the plan is there
table_there : (plan : Plan) (i : Item) (program : Program) → program_at plan i ≡ Some program
    → (table : Table) × (table_named plan.setup plan.tables program.job.table ≡ Some table)
unfolding program_at
table_there plan (item.Set n) program h = cc
table_there plan (item.Program n) program h =
    let all : list_all (can_report plan.setup plan.tables) plan.setup.programs ≡ true = (and_parts _ _ plan.reports).1 in
    let can : can_report plan.setup plan.tables program ≡ true = all-get (can_report plan.setup plan.tables) plan.setup.programs n program all h in
    let t : (table : Table) × (table_named plan.setup plan.tables program.job.table ≡ Some table) × (has_columns program.job table ≡ true) =
    some_and-some (has_columns program.job) (table_named plan.setup plan.tables program.job.table) can in
    (t.0, t.1)

-- so a request of a program has a report
report_there : (plan : Plan) (r : Req) (program : Program) → program_of plan r ≡ Some program → (made : Report) × (report_of plan r ≡ Some made)
unfolding report_of program_of
report_there plan r program h =
    let t : (table : Table) × (table_named plan.setup plan.tables program.job.table ≡ Some table) = table_there plan r.item program h in
    (report program.job r.argument t.0, rw h (ap (λ o. option_map (report program.job r.argument) o) t.1))

-- ---- nothing ends, starts or ticks

-- a request that has a report, where the spool has room, has an end
end_there : (plan : Plan) (s : State) (r : Req) (made : Report) (n : ℕ) → report_of plan r ≡ Some made → s.used ≡ Some n → (stop : Bool)
    → (if stop then Some (event.Ended r.number outcome.Terminated None) else option_and_then (λ made. option_map (end_with r made) s.used) (report_of plan r)) ≡ None → ⊥
end_there plan s r made n h k true none = cc
end_there plan s r made n h k false none =
    let some : option_and_then (λ made. option_map (end_with r made) s.used) (report_of plan r) ≡ Some (end_with r made n) =
    ap (option_and_then (λ made. option_map (end_with r made) s.used)) h ∙ ap (option_map (end_with r made)) k in
    cc

-- where nothing ends nothing runs
none_runs : (plan : Plan) (past : List Event) (n : ℕ) → is_lawful_so_far plan past ≡ true → (state plan past).used ≡ Some n → first_end plan (state plan past) ≡ None
    → list_any (runs_somewhere (state plan past)) plan.requests ≡ false
unfolding first_end runs_somewhere
none_runs plan past n lawful room none =
    by (find (λ r. is_running (facts_at (state plan past) r)) plan.requests) refl none where
      by : (o : Option Req) → find (λ r. is_running (facts_at (state plan past) r)) plan.requests ≡ o → option_and_then (end_of plan (state plan past)) o ≡ None
          → list_any (λ r. is_running (facts_at (state plan past) r)) plan.requests ≡ false
      by None is h = find-none_any (λ r. is_running (facts_at (state plan past) r)) plan.requests is
      by (Some r) is h =
          let s = state plan past in
          let f : (is_running (facts_at s r) ≡ true) × Has plan.requests r = find-some (λ r. is_running (facts_at s r)) plan.requests r is in
          let l : is_let plan past r ≡ true = runs_let plan past r f.1 lawful (sym (is_running-state plan past r f.1) ∙ f.0) in
          let p : (program : Program) × (program_of plan r ≡ Some program) = let_program plan past r f.1 lawful l in
          let made : (made : Report) × (report_of plan r ≡ Some made) = report_there plan r p.0 p.1 in
          absurd (end_there plan s r made.0 n made.1 room (is_stopping (facts_at s r)) h)

-- where nothing starts nothing may
none_starts : (plan : Plan) (s : State) → first_start plan s ≡ None → list_any (may_start_somewhere plan s) plan.requests ≡ false
unfolding first_start may_start_somewhere
none_starts plan s none = by (first_by precedes (may_start_somewhere plan s) plan.requests) refl none where
  by : (o : Option Req) → first_by precedes (may_start_somewhere plan s) plan.requests ≡ o → option_and_then (start_of plan s) o ≡ None
      → list_any (may_start_somewhere plan s) plan.requests ≡ false
  by None is h = none_any (may_start_somewhere plan s) plan.requests (first_by-none precedes (may_start_somewhere plan s) plan.requests precedes-order is)
  by (Some r) is h =
      let first : Req → Bool = λ x. may_start_somewhere plan s x && not (list_any (λ y. may_start_somewhere plan s y && precedes y x) plan.requests) in
      let f : (first r ≡ true) × Has plan.requests r = find-some first plan.requests r is in
      let here : list_any (may_start plan s r) (all_places plan) ≡ true = (and_parts (may_start_somewhere plan s r) _ f.0).0 in
      let gone : find (may_start plan s r) (all_places plan) ≡ None = map-none (λ place. event.Started r.number place) (find (may_start plan s r) (all_places plan)) h in
      absurd (both_ways _ (find-none_any (may_start plan s r) (all_places plan) gone) here)

-- where nothing ticks at rest no reading is left
none_left : (plan : Plan) (s : State) (next : Option Reading) → is_at_rest plan s ≡ true → next_tick plan s next ≡ None → is_none next ≡ true
unfolding next_tick may_take
none_left plan s None rest h = refl
none_left plan s (Some q) rest h =
    let take : (q.early || is_at_rest plan s) ≡ true = or_right _ _ rest in
    let some : then_some (q.early || is_at_rest plan s) (event.Tick q.moment) ≡ Some (event.Tick q.moment) = ap (λ b. then_some b (event.Tick q.moment)) take in
    cc

-- ---- all of them

-- where nothing comes next in a run without workers, the history is finished
pub next_alone-none : (plan : Plan) (readings : List Reading) (history : List Event) → is_lawful_so_far plan (reverse history) ≡ true
    → next_alone plan readings (reverse history) ≡ None → Finished plan readings history
unfolding next_alone choice is_at_rest
next_alone-none plan readings history lawful h =
    let past = reverse history in
    let s = state plan past in
    let room : (n : ℕ) × (s.used ≡ Some n) = used_fits plan past lawful in
    let a : (forced plan s ≡ None) × (option_or (first_end plan s) (option_or (first_start plan s) (next_tick plan s (next_reading readings past))) ≡ None) = or-none _ _ h in
    let b : (first_end plan s ≡ None) × (option_or (first_start plan s) (next_tick plan s (next_reading readings past)) ≡ None) = or-none _ _ a.1 in
    let c : (first_start plan s ≡ None) × (next_tick plan s (next_reading readings past) ≡ None) = or-none _ _ b.1 in
    let rest : (is_none (forced plan s) && (not (list_any (runs_somewhere s) plan.requests) && not (list_any (may_start_somewhere plan s) plan.requests))) ≡ true =
    and_from _ _ (ap is_none a.0) (and_from _ _ (not_from_false _ (none_runs plan past room.0 lawful room.1 b.0)) (not_from_false _ (none_starts plan s c.0))) in
    (rest, none_left plan s (next_reading readings past) rest c.1)
