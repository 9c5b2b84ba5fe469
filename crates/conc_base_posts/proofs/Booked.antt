-- A request that runs has a report at its last start, and each such report may be told by an end.
use Rattle.std.proofs.Common.{◌≡◌, ℕ, Bool, true, false, List, [], ◌∷◌, Option, None, Some, if◌then◌else◌, refl, sym, ◌∙◌, ap, subst, inl, inr, arith}
use Rattle.std.specs.List.{list_all}
use Rattle.std.specs.Option.{option_and_then, option_map}
use Rattle.std.proofs.lemmas.Bool.{and_parts, both_ways, cases_Bool, or_cases}
use Rattle.conc_types.specs.declared.event.Event.{Event}
use Rattle.conc_types.specs.declared.event.Event.TheVariants as event
use Rattle.conc_types.specs.declared.event.PlaceId.{PlaceId}
use Rattle.conc_types.specs.declared.event.RequestId.{RequestId}
use Rattle.conc_types.specs.declared.item.Item.{Item}
use Rattle.conc_types.specs.declared.item.Item.TheVariants as item
use Rattle.conc_types.specs.declared.plan.Plan.{Plan}
use Rattle.conc_types.specs.declared.plan.Req.{Req}
use Rattle.conc_types.specs.declared.program.Program.{Program}
use Rattle.conc_types.specs.declared.table.Table.{Table}
use Rattle.conc_types.specs.Plans.{request}
use Rattle.conc_types.specs.Tables.{can_report, has_columns, table_named}
use Rattle.conc_base_law.specs.Facts.{is_let, running_place, runs}
use Rattle.conc_base_law.specs.Kinds.{starts}
use Rattle.conc_base_law.specs.Law.{is_lawful_so_far, may_follow}
use Rattle.conc_base_law.specs.Next.{can_run, may_let}
use Rattle.conc_base_law.specs.Plans.{is_admitted, is_enabled, program_at, program_of}
use Rattle.conc_base_law.specs.Report.{report, Report}
use Rattle.conc_base_law.specs.State.{state}
use Rattle.conc_base_law.specs.Words.{Has, is_set}
use Rattle.conc_base_law.proofs.AloneLawful.{IsGood, report-good}
use Rattle.conc_base_law.proofs.EqualEvents.{eqb-refl}
use Rattle.conc_base_law.proofs.LawfulSoFar.{all-get}
use Rattle.conc_base_law.proofs.LiveApart.{is_let-more, let_could}
use Rattle.conc_base_law.proofs.Numbering.{numbered_plan}
use Rattle.conc_base_law.proofs.Options.{and_then-some, map-some, some_and-some}
use Rattle.conc_base_law.proofs.RunningIsLet.{start_let}
use Rattle.conc_base_law.proofs.RunningPlace.{place-runs, running_place-more, runs-place}
use Rattle.conc_base_law.proofs.Settled.{could-ready}
use Rattle.conc_base_posts.proofs.LastStart.{last_report-other, last_report-start, starts-event}
use Rattle.conc_base_posts.specs.Positions.{books_after, last_report, posts_after, report_after}
use Rattle.conc_base_posts.specs.Posts.{adds_rows, Booked, booked, booked_over, booked_to, Cells, fits, Post, posted, rows_posted, table_full, table_with, with_rows, without_rows}

-- ---- each report is good

-- a report that says that the table is full is good
table_full-good : IsGood table_full.report
table_full-good = record { outcome = refl; some = omega arith; short = omega arith }

-- what a good report becomes for the table to which its rows go is good
booked_to-good : (plan : Plan) (posts : List Post) (target : Option (List ℕ)) (made : Report) (rows : List Cells) → IsGood made
    → IsGood (booked_to plan posts target made rows).report
booked_to-good plan posts None made rows good = good
booked_to-good plan posts (Some target) made rows good = by (adds_rows made.outcome) (fits plan posts target rows) where
  with : Booked
  with = record { report = made; rows = rows }

  by : (adds fit : Bool) → IsGood (if adds then (if fit then with else table_full) else without_rows made).report
  by true true = good
  by true false = table_full-good
  by false fit = good

-- the report of a request over the tables with any posts is good
booked-good : (plan : Plan) (posts : List Post) (r : Req) (made : Booked) → booked plan posts r ≡ Some made → IsGood made.report
unfolding booked booked_over
booked-good plan posts r made h =
    let f : Program → Option Booked = λ program. option_map (booked_over plan posts program r.argument) (table_with plan posts program.job.table) in
    let p : (program : Program) × (program_of plan r ≡ Some program) × (f program ≡ Some made) = and_then-some f (program_of plan r) made h in
    let q : (table : Table) × (table_with plan posts p.0.job.table ≡ Some table) × (booked_over plan posts p.0 r.argument table ≡ made) =
    map-some (booked_over plan posts p.0 r.argument) (table_with plan posts p.0.job.table) made p.2 in
    subst (λ b. IsGood b.report) q.2
    (booked_to-good plan posts p.0.post (report p.0.job r.argument q.0) (rows_posted p.0.job r.argument q.0) (report-good p.0.job r.argument q.0))

-- the report at the last start of a request is good
pub last_report-good : (plan : Plan) (past : List Event) (id : RequestId) (made : Booked) → last_report plan past id ≡ Some made → IsGood made.report
unfolding last_report books_after report_after
last_report-good plan [] id made h = cc
last_report-good plan (e ∷ past) id made h = elim (cases_Bool (starts id e)) [
  | inl start ↦
      let s : (place : PlaceId) × (e ≡ event.Started id place) = starts-event id e start in
      let here : option_and_then (report_after plan past) (request plan id) ≡ Some made =
      sym (last_report-start plan past id s.0) ∙ subst (λ d. last_report plan (d ∷ past) id ≡ Some made) s.1 h in
      let p : (r : Req) × (request plan id ≡ Some r) × (report_after plan past r ≡ Some made) = and_then-some (report_after plan past) (request plan id) made here in
      booked-good plan (posts_after plan past) p.0 made p.2
  | inr other ↦ last_report-good plan past id made (sym (last_report-other plan past id e other) ∙ h)
]

-- ---- a request of a program has a report

-- the table of a program of the plan is there
table_there : (plan : Plan) (i : Item) (program : Program) → program_at plan i ≡ Some program
    → (table : Table) × (table_named plan.setup plan.tables program.job.table ≡ Some table)
unfolding program_at
table_there plan (item.Set n) program h = cc
table_there plan (item.Program n) program h =
    let all : list_all (can_report plan.setup plan.tables) plan.setup.programs ≡ true = (and_parts _ _ plan.reports).1 in
    let can : can_report plan.setup plan.tables program ≡ true = all-get (can_report plan.setup plan.tables) plan.setup.programs n program all h in
    let t : (table : Table) × (table_named plan.setup plan.tables program.job.table ≡ Some table) × (has_columns program.job table ≡ true) =
    some_and-some (has_columns program.job) (table_named plan.setup plan.tables program.job.table) can in
    (t.0, t.1)

-- so a request of a program has a report, whatever was posted
booked_there : (plan : Plan) (posts : List Post) (r : Req) (program : Program) → program_of plan r ≡ Some program
    → (made : Booked) × (booked plan posts r ≡ Some made)
unfolding booked table_with program_of
booked_there plan posts r program h =
    let t : (table : Table) × (table_named plan.setup plan.tables program.job.table ≡ Some table) = table_there plan r.item program h in
    let over : Table → Booked = booked_over plan posts program r.argument in
    let full : Table → Table = λ table. with_rows table (posted program.job.table posts) in
    (over (full t.0), rw h (ap (λ o. option_map over (option_map full o)) t.1))

-- ---- a request that runs is of a program

-- a request that can run, and is no set, is of a program
run_program : (plan : Plan) (r : Req) → can_run plan r ≡ true → is_set r.item ≡ false → (program : Program) × (program_of plan r ≡ Some program)
unfolding can_run is_enabled
run_program plan r h set = elim (or_cases (is_set r.item) _ h) [
  | inl t ↦ absurd (both_ways _ set t)
  | inr f ↦
      let p : (program : Program) × (program_of plan r ≡ Some program) × (program.enabled ≡ true) =
      some_and-some (λ program. program.enabled) (program_of plan r) (and_parts _ (is_admitted plan r) f).0 in
      (p.0, p.1)
]

-- so a let request is of a program
let_program : (plan : Plan) (past : List Event) (r : Req) → Has plan.requests r → is_lawful_so_far plan past ≡ true → is_let plan past r ≡ true
    → (program : Program) × (program_of plan r ≡ Some program)
unfolding is_lawful_so_far is_let
let_program plan [] r hr lawful h = cc
let_program plan (e ∷ past) r hr lawful h =
    let p : (is_lawful_so_far plan past ≡ true) × (may_follow plan None past e ≡ true) = and_parts _ _ lawful in
    elim (is_let-more plan past r e h) [
      | inl l ↦
          let could : (may_let plan (state plan past) r ≡ true) × (is_set r.item ≡ false) = let_could plan None past r hr (subst (λ d. may_follow plan None past d ≡ true) l p.1) in
          run_program plan r (could-ready plan past r hr could.0).can could.1
      | inr s ↦ let_program plan past r hr p.0 s.1
    ]

-- a start makes a report
start_booked : (plan : Plan) (past : List Event) (r : Req) (place : PlaceId) → Has plan.requests r → is_lawful_so_far plan past ≡ true
    → may_follow plan None past (event.Started r.number place) ≡ true
    → (made : Booked) × (last_report plan (event.Started r.number place ∷ past) r.number ≡ Some made)
unfolding report_after
start_booked plan past r place hr lawful h =
    let p : (program : Program) × (program_of plan r ≡ Some program) = let_program plan past r hr lawful (start_let plan None past r place hr h) in
    let b : (made : Booked) × (booked plan (posts_after plan past) r ≡ Some made) = booked_there plan (posts_after plan past) r p.0 p.1 in
    (b.0, last_report-start plan past r.number place ∙ ap (option_and_then (report_after plan past)) (numbered_plan plan r hr) ∙ b.1)

-- a request that runs after an event that does not start it ran before
ran_before : (past : List Event) (e : Event) (id : RequestId) → starts id e ≡ false → runs (e ∷ past) id ≡ true → runs past id ≡ true
ran_before past e id other run =
    let p = runs-place (e ∷ past) id run in
    elim (running_place-more past e id p.0 p.1) [
      | inl here ↦ absurd (both_ways _ other (ap (starts id) here ∙ eqb-refl id.number))
      | inr before ↦ place-runs past id p.0 before.1
    ]

-- behind a lawful history a request that runs has a report at its last start
pub running_booked : (plan : Plan) (past : List Event) (r : Req) → Has plan.requests r → is_lawful_so_far plan past ≡ true → runs past r.number ≡ true
    → (made : Booked) × (last_report plan past r.number ≡ Some made)
unfolding is_lawful_so_far runs running_place
running_booked plan [] r hr lawful run = cc
running_booked plan (e ∷ past) r hr lawful run =
    let p : (is_lawful_so_far plan past ≡ true) × (may_follow plan None past e ≡ true) = and_parts _ _ lawful in
    elim (cases_Bool (starts r.number e)) [
      | inl start ↦
          let s : (place : PlaceId) × (e ≡ event.Started r.number place) = starts-event r.number e start in
          let b = start_booked plan past r s.0 hr p.0 (subst (λ d. may_follow plan None past d ≡ true) s.1 p.1) in
          (b.0, ap (λ d. last_report plan (d ∷ past) r.number) s.1 ∙ b.1)
      | inr other ↦
          let b = running_booked plan past r hr p.0 (ran_before past e r.number other run) in
          (b.0, last_report-other plan past r.number e other ∙ b.1)
    ]
