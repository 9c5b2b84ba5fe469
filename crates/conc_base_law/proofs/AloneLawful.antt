-- What comes next in a run without workers is lawful.
use Rattle.std.proofs.Common.{◌≡◌, ◌==◌, ◌<◌, ◌≤◌, ◌+◌, ◌^◌, ◌++◌, [], ◌∷◌, lit≤, ℕ, Bool, true, false, not, ◌&&◌, List, length, Option, None, Some, if◌then◌else◌, refl, sym, ◌∙◌, ap, subst, inl, inr, arith}
use Rattle.std.specs.Prelude.{codes, is_none, nat_lt}
use Rattle.std.specs.Option.{option_and_then, option_map, option_or}
use Rattle.std.specs.Bool.{then_some}
use Rattle.std.specs.Fmt.{decimal}
use Rattle.std.specs.List.{enumerate_from, filter, find, list_any}
use Rattle.std.proofs.lemmas.Bool.Decides.{nat_tests}
use Rattle.std.proofs.lemmas.Fmt.{length-decimal-le}
use Rattle.std.proofs.lemmas.List.{length-append}
use Rattle.std.proofs.lemmas.Bool.{and_from, cases_Bool, lt-ltb, cond-true, cond-false}
use Rattle.conc_types.specs.declared.limits.TheConstants.{MOST_REPORT_BYTES}
use Rattle.conc_types.specs.declared.event.Event.{Event}
use Rattle.conc_types.specs.declared.event.Event.TheVariants as event
use Rattle.conc_types.specs.declared.event.Extent.{Extent}
use Rattle.conc_types.specs.declared.event.Outcome.TheVariants as outcome
use Rattle.conc_types.specs.declared.event.PlaceId.{PlaceId}
use Rattle.conc_types.specs.declared.facts.State.{State}
use Rattle.conc_types.specs.declared.plan.Plan.{Plan}
use Rattle.conc_types.specs.declared.plan.Req.{Req}
use Rattle.conc_types.specs.declared.program.Job.{Job}
use Rattle.conc_types.specs.declared.program.Program.{Program}
use Rattle.conc_types.specs.declared.script.Reading.{Reading}
use Rattle.conc_types.specs.declared.table.Table.{Table}
use Rattle.conc_types.specs.Tables.{table_named}
use Rattle.conc_types.specs.Words.{none_or, some_and}
use Rattle.conc_base_law.specs.Alone.{choice, end_of, end_with, first_end, first_start, next_alone, next_tick, report_of, start_of}
use Rattle.conc_base_law.specs.Events.{event_eq}
use Rattle.conc_base_law.specs.Kinds.{is_resume}
use Rattle.conc_base_law.specs.Law.{may_follow}
use Rattle.conc_base_law.specs.Next.{forced, is_allowed, is_next_extent, is_report_outcome, may_come, may_end, may_start, may_start_somewhere, may_take, may_tick, obeys, runs_somewhere}
use Rattle.conc_base_law.specs.Places.{all_places}
use Rattle.conc_base_law.specs.Plans.{precedes, program_of}
use Rattle.conc_base_law.specs.Readings.{next_reading}
use Rattle.conc_base_law.specs.Numbers.{whole_number}
use Rattle.conc_base_law.specs.Report.{cell, first_bad, passes, full_text, header, outcome_by, passing, report, Report, report_by, Row}
use Rattle.conc_base_law.specs.State.{facts_at, is_running, is_stopping, state}
use Rattle.conc_base_law.specs.Words.{first_by, Has}
use Rattle.conc_base_law.proofs.EqualEvents.{eqb-refl, event_eq-refl}
use Rattle.conc_base_law.proofs.FirstBy.{find-some}
use Rattle.conc_base_law.proofs.ForcedKinds.{forced_kind, forced_no_resume, is_forced_kind}
use Rattle.conc_base_law.proofs.Numbering.{numbered_plan}
use Rattle.conc_base_law.proofs.Options.{and_then-some, map-some, or-some, then_some-some}

-- ---- a report has a text, and one of three outcomes

-- the report has a text that is not empty and within the limit, and the outcome of one that ran to its end
pub record IsGood (made : Report) : Type 0 where
  pub outcome : is_report_outcome made.outcome ≡ true
  pub some : 0 < length made.text
  pub short : length made.text ≤ MOST_REPORT_BYTES

-- the outcome by the number of rows is one of the three
outcome_by-good : (job : Job) (rows : List Row) → is_report_outcome (outcome_by job rows) ≡ true
unfolding outcome_by
outcome_by-good job rows = grind arith

-- the text of a report is not empty
full_text-long : (job : Job) (table : Table) (rows : List Row) → 0 < length (full_text job table rows)
unfolding full_text header
full_text-long job table rows = omega arith

-- an element of a part of a list is one of the list
Has-filter : {T : Type 0} (test : T → Bool) (xs : List T) (x : T) → Has (filter test xs) x → Has xs x
Has-filter test [] x h = absurd h
Has-filter test (y ∷ ys) x h = elim (cases_Bool (test y)) [
  | inl hit ↦ elim (subst (λ l. Has l x) (cond-true (test y) (y ∷ filter test ys) (filter test ys) hit) h) [
    | inl same ↦ inl same
    | inr later ↦ inr (Has-filter test ys x later)
  ]
  | inr miss ↦ inr (Has-filter test ys x (subst (λ l. Has l x) (cond-false (test y) (y ∷ filter test ys) (filter test ys) miss) h))
]

-- the numbers of a list stay below its end
enumerated-below : {T : Type 0} (n : ℕ) (xs : List T) (x : ℕ × T) → Has (enumerate_from n xs) x → x.0 < n + length xs
enumerated-below n [] x h = absurd h
enumerated-below n (y ∷ ys) x h = elim h [
  | inl same ↦ let e : x.0 ≡ n = ap (λ z. z.0) same in omega (arith, e)
  | inr later ↦ let k : x.0 < n + 1 + length ys = enumerated-below (n + 1) ys x later in omega (arith, k)
]

-- the row that is named is one of the table
first_bad-row : (job : Job) (argument : List ℕ) (table : Table) (row : Row) → first_bad job table (passing job argument table) ≡ Some row → row.0 ≤ 1114112
unfolding first_bad passing
first_bad-row job argument table row h =
    let rows : List Row = filter (passes job argument table) (enumerate_from 1 table.rows) in
    let f : List ℕ → Option Row = λ column. find (λ r. is_none (whole_number (cell table column r))) rows in
    let p : (column : List ℕ) × (job.sum ≡ Some column) × (f column ≡ Some row) = and_then-some f job.sum row h in
    let q : (is_none (whole_number (cell table p.0 row)) ≡ true) × Has rows row = find-some (λ r. is_none (whole_number (cell table p.0 r))) rows row p.2 in
    let below : row.0 < 1 + length table.rows = enumerated-below 1 table.rows row (Has-filter (passes job argument table) (enumerate_from 1 table.rows) row q.1) in
    let few : length table.rows ≤ 1114112 = table.few in
    omega (arith, below, few)

-- the report on a row that is no number is good
bad_row-good : (row : Row) → row.0 ≤ 1114112 → IsGood (record { outcome = outcome.Error; text = codes "row " ++ decimal row.0 ++ codes ": not a whole number\n" })
bad_row-good row h =
    let short : length (decimal row.0) ≤ 7 = length-decimal-le 7 row.0 (lit≤ tt) (omega (arith, h)) (omega (arith, h)) in
    let joined : length (decimal row.0 ++ codes ": not a whole number\n") ≡ length (decimal row.0) + 21 = length-append (decimal row.0) (codes ": not a whole number\n") in
    record { outcome = refl; some = omega arith; short = omega (arith, short, joined) }

-- a text within the limit is the report, and else the report says that it is too long
long-good : (job : Job) (table : Table) (rows : List Row) → IsGood (report_by job table rows None)
long-good job table rows = elim (cases_Bool (nat_lt MOST_REPORT_BYTES (length (full_text job table rows)))) [
  | inl long ↦ subst IsGood (sym (cond-true (nat_lt MOST_REPORT_BYTES (length (full_text job table rows))) _ _ long)) (record { outcome = refl; some = omega arith; short = omega arith })
  | inr fits ↦ subst IsGood (sym (cond-false (nat_lt MOST_REPORT_BYTES (length (full_text job table rows))) _ _ fits))
      (record { outcome = outcome_by-good job rows; some = full_text-long job table rows; short = grind (arith, nat_tests) })
]

-- the report of a job is good
pub report-good : (job : Job) (argument : List ℕ) (table : Table) → IsGood (report job argument table)
unfolding report
report-good job argument table = by (first_bad job table (passing job argument table)) refl where
  by : (bad : Option Row) → first_bad job table (passing job argument table) ≡ bad → IsGood (report_by job table (passing job argument table) bad)
  by (Some row) h = bad_row-good row (first_bad-row job argument table row h)
  by None h = long-good job table (passing job argument table)

-- the report of a request is good
report_of-good : (plan : Plan) (r : Req) (made : Report) → report_of plan r ≡ Some made → IsGood made
unfolding report_of
report_of-good plan r made h =
    let f : Program → Option Report = λ program. option_map (report program.job r.argument) (table_named plan.setup plan.tables program.job.table) in
    let p : (program : Program) × (program_of plan r ≡ Some program) × (f program ≡ Some made) = and_then-some f (program_of plan r) made h in
    let q : (table : Table) × (table_named plan.setup plan.tables p.0.job.table ≡ Some table) × (report p.0.job r.argument table ≡ made) =
    map-some (report p.0.job r.argument) (table_named plan.setup plan.tables p.0.job.table) made p.2 in
    subst IsGood q.2 (report-good p.0.job r.argument q.0)

-- ---- an end

-- a request that is to stop may end as terminated
may_end-stopping : (s : State) (r : Req) → is_running (facts_at s r) ≡ true → is_stopping (facts_at s r) ≡ true → may_end s r outcome.Terminated None ≡ true
unfolding may_end
may_end-stopping s r run stop = and_from _ _ run (cond-true _ _ _ stop)

-- a request that runs on may end with a good report at the end of the spool
may_end-report : (s : State) (r : Req) (made : Report) (offset : ℕ) → is_running (facts_at s r) ≡ true → is_stopping (facts_at s r) ≡ false
    → s.used ≡ Some offset → IsGood made → may_end s r made.outcome (Some (record { offset = offset; length = length made.text })) ≡ true
unfolding may_end is_next_extent
may_end-report s r made offset run going used good =
    let wide : length made.text < 2 ^ 32 = omega (arith, good.short) in
    let fits : (nat_lt 0 (length made.text) && nat_lt (length made.text) (2 ^ 32)) ≡ true = and_from _ _ (lt-ltb _ _ good.some) (lt-ltb _ _ wide) in
    and_from _ _ run (cond-false (is_stopping (facts_at s r)) _ _ going
    ∙ and_from _ _ good.outcome (and_from _ _ (ap (some_and (λ n. offset == n)) used ∙ eqb-refl offset) fits))

-- the end of a request that runs is allowed
pub end_allowed : (plan : Plan) (s : State) (next : Option (Option Reading)) (r : Req) (e : Event) → Has plan.requests r → is_running (facts_at s r) ≡ true
    → (stop : Bool) → is_stopping (facts_at s r) ≡ stop
    → (if stop then Some (event.Ended r.number outcome.Terminated None) else option_and_then (λ made. option_map (end_with r made) s.used) (report_of plan r)) ≡ Some e
    → is_allowed plan s next e ≡ true
unfolding is_allowed
end_allowed plan s next r e hr run true is h =
    let same : event.Ended r.number outcome.Terminated None ≡ e = cc in
    let ok : is_allowed plan s next (event.Ended r.number outcome.Terminated None) ≡ true =
    ap (some_and (λ q. may_end s q outcome.Terminated None)) (numbered_plan plan r hr) ∙ may_end-stopping s r run is in
    subst (λ d. is_allowed plan s next d ≡ true) same ok
end_allowed plan s next r e hr run false is h =
    let p : (made : Report) × (report_of plan r ≡ Some made) × (option_map (end_with r made) s.used ≡ Some e) =
    and_then-some (λ made. option_map (end_with r made) s.used) (report_of plan r) e h in
    let q : (offset : ℕ) × (s.used ≡ Some offset) × (end_with r p.0 offset ≡ e) = map-some (end_with r p.0) s.used e p.2 in
    let x : Option Extent = Some (record { offset = q.0; length = length p.0.text }) in
    let ok : is_allowed plan s next (end_with r p.0 q.0) ≡ true =
    ap (some_and (λ y. may_end s y p.0.outcome x)) (numbered_plan plan r hr) ∙ may_end-report s r p.0 q.0 run is q.1 (report_of-good plan r p.0 p.1) in
    subst (λ d. is_allowed plan s next d ≡ true) q.2 ok

-- the end of the first request that runs is allowed
first_end-allowed : (plan : Plan) (s : State) (next : Option (Option Reading)) (e : Event) → first_end plan s ≡ Some e → is_allowed plan s next e ≡ true
unfolding first_end runs_somewhere
first_end-allowed plan s next e h =
    let p : (r : Req) × (find (runs_somewhere s) plan.requests ≡ Some r) × (end_of plan s r ≡ Some e) =
    and_then-some (end_of plan s) (find (runs_somewhere s) plan.requests) e h in
    let q : (runs_somewhere s p.0 ≡ true) × Has plan.requests p.0 = find-some (runs_somewhere s) plan.requests p.0 p.1 in
    end_allowed plan s next p.0 e q.1 q.0 (is_stopping (facts_at s p.0)) refl p.2

-- ---- a start

-- the start of the first request that may start is allowed
first_start-allowed : (plan : Plan) (s : State) (next : Option (Option Reading)) (e : Event) → first_start plan s ≡ Some e → is_allowed plan s next e ≡ true
unfolding first_start is_allowed
first_start-allowed plan s next e h =
    let p : (r : Req) × (first_by precedes (may_start_somewhere plan s) plan.requests ≡ Some r) × (start_of plan s r ≡ Some e) =
    and_then-some (start_of plan s) (first_by precedes (may_start_somewhere plan s) plan.requests) e h in
    let first : Req → Bool = λ x. may_start_somewhere plan s x && not (list_any (λ y. may_start_somewhere plan s y && precedes y x) plan.requests) in
    let q : (first p.0 ≡ true) × Has plan.requests p.0 = find-some first plan.requests p.0 p.1 in
    let t : (place : PlaceId) × (find (may_start plan s p.0) (all_places plan) ≡ Some place) × (event.Started p.0.number place ≡ e) =
    map-some (λ place. event.Started p.0.number place) (find (may_start plan s p.0) (all_places plan)) e p.2 in
    let u : may_start plan s p.0 t.0 ≡ true = (find-some (may_start plan s p.0) (all_places plan) t.0 t.1).0 in
    let ok : is_allowed plan s next (event.Started p.0.number t.0) ≡ true = ap (some_and (λ x. may_start plan s x t.0)) (numbered_plan plan p.0 q.1) ∙ u in
    subst (λ d. is_allowed plan s next d ≡ true) t.2 ok

-- ---- a tick

-- the tick of the next reading is allowed
next_tick-allowed : (plan : Plan) (s : State) (next : Option Reading) (e : Event) → next_tick plan s next ≡ Some e → is_allowed plan s (Some next) e ≡ true
unfolding next_tick is_allowed may_tick
next_tick-allowed plan s next e h =
    let p : (q : Reading) × (next ≡ Some q) × (then_some (may_take plan s q) (event.Tick q.moment) ≡ Some e) =
    and_then-some (λ q. then_some (may_take plan s q) (event.Tick q.moment)) next e h in
    let q : (may_take plan s p.0 ≡ true) × (event.Tick p.0.moment ≡ e) = then_some-some (may_take plan s p.0) (event.Tick p.0.moment) e p.2 in
    let ok : is_allowed plan s (Some next) (event.Tick p.0.moment) ≡ true =
    ap (some_and (λ r. p.0.moment.seconds == r.moment.seconds && may_take plan s r)) p.1 ∙ and_from _ _ (eqb-refl p.0.moment.seconds) q.0 in
    subst (λ d. is_allowed plan s (Some next) d ≡ true) q.1 ok

-- ---- one event

-- no resume is allowed as a free event
allowed_no_resume : (plan : Plan) (s : State) (next : Option (Option Reading)) (e : Event) → is_allowed plan s next e ≡ true → is_resume e ≡ false
unfolding is_allowed
allowed_no_resume plan s next event.Resume h = cc
allowed_no_resume plan s next _ h = refl

-- the choice is no resume, and is the forced event or one that is allowed
comes_by : (plan : Plan) (s : State) (next : Option Reading) (e : Event) → (due : Option Event) → forced plan s ≡ due
    → none_or is_forced_kind due ≡ true
    → option_or due (option_or (first_end plan s) (option_or (first_start plan s) (next_tick plan s next))) ≡ Some e
    → (is_resume e ≡ false) × (obeys plan s (Some next) e (forced plan s) ≡ true)
comes_by plan s next e (Some d) is kind h =
    let same : d ≡ e = cc in (
      subst (λ x. is_resume x ≡ false) same (forced_no_resume d kind),
      ap (obeys plan s (Some next) e) is ∙ subst (λ x. event_eq e x ≡ true) (sym same) (event_eq-refl e),
    )
comes_by plan s next e None is kind h =
    let ok : is_allowed plan s (Some next) e ≡ true = elim (or-some (first_end plan s) _ e h) [
      | inl a ↦ first_end-allowed plan s (Some next) e a
      | inr b ↦ elim (or-some (first_start plan s) _ e b) [
        | inl c ↦ first_start-allowed plan s (Some next) e c
        | inr d ↦ next_tick-allowed plan s next e d
      ]
    ] in
    (allowed_no_resume plan s (Some next) e ok, ap (obeys plan s (Some next) e) is ∙ ok)

-- the choice is no resume, and may come next
pub choice-comes : (plan : Plan) (s : State) (next : Option Reading) (e : Event) → choice plan s next ≡ Some e
    → (is_resume e ≡ false) × (may_come plan s (Some next) e ≡ true)
unfolding choice may_come
choice-comes plan s next e h =
    let p : (is_resume e ≡ false) × (obeys plan s (Some next) e (forced plan s) ≡ true) = comes_by plan s next e (forced plan s) refl (forced_kind plan s) h in
    (p.0, cond-false (is_resume e) _ _ p.0 ∙ p.1)

-- what comes next in a run without workers is no resume, and may follow
pub next_alone-follows : (plan : Plan) (readings : List Reading) (past : List Event) (e : Event) → next_alone plan readings past ≡ Some e
    → (is_resume e ≡ false) × (may_follow plan (Some readings) past e ≡ true)
unfolding next_alone may_follow
next_alone-follows plan readings past e h = choice-comes plan (state plan past) (next_reading readings past) e h
