-- A request that a manager admits has a report.
use Rattle.std.proofs.Common.{◌≡◌, ℕ, ◌+◌, Bool, true, false, not, List, [], ◌∷◌, ◌++◌, Option, None, Some, refl, sym, ◌∙◌, ap, subst, inl, inr, arith}
use Rattle.std.specs.Prelude.{nat_le, nat_lt, length, map, slice_get, IfOk, IsSome, Result, Ok, Err}
use Rattle.std.specs.List.{enumerate_from, flat_map, list_all}
use Rattle.std.specs.Option.{option_and_then, option_map, option_map_or}
use Rattle.std.proofs.lemmas.Bool.{and_from, and_parts, ltb-true}
use Rattle.std.proofs.lemmas.List.Folds.{list_all-append}
use Rattle.std.proofs.lemmas.Option.{slice_get_cases}
use Rattle.conc_types.specs.declared.error.NoMemory.{NoMemory as NoMemoryFail}
use Rattle.conc_types.specs.declared.event.PlaceId.{PlaceId}
use Rattle.conc_types.specs.declared.event.RequestId.{RequestId}
use Rattle.conc_types.specs.declared.item.Item.{Item}
use Rattle.conc_types.specs.declared.item.Item.TheVariants as item
use Rattle.conc_types.specs.declared.manager.Manager.{Manager}
use Rattle.conc_types.specs.declared.plan.Plan.{Plan}
use Rattle.conc_types.specs.declared.plan.Req.{Req}
use Rattle.conc_types.specs.declared.program.Program.{Program}
use Rattle.conc_types.specs.declared.script.Act.{Act}
use Rattle.conc_types.specs.declared.script.Act.TheVariants as act
use Rattle.conc_types.specs.declared.script.Order.{Order}
use Rattle.conc_types.specs.declared.set.SetDef.{SetDef}
use Rattle.conc_types.specs.declared.setup.Setup.{Setup}
use Rattle.conc_types.specs.declared.stage.Stage.{Stage}
use Rattle.conc_types.specs.declared.table.Table.{Table}
use Rattle.conc_types.specs.Expansion.{Part, entered, expansion_from, members_of, parts, parts_by, request_by}
use Rattle.conc_types.specs.Plans.{request}
use Rattle.conc_types.specs.Scripts.{are_commands_from, entered_by, is_act}
use Rattle.conc_types.specs.Setups.{has_members, is_item, is_set_of}
use Rattle.conc_types.specs.Tables.{can_report, has_columns, table_named}
use Rattle.conc_base_law.specs.Alone.{report_of}
use Rattle.conc_base_law.specs.Managers.{admits}
use Rattle.conc_base_law.specs.Plans.{program_at, program_of}
use Rattle.conc_base_law.specs.Report.{Report, report}
use Rattle.conc_base_law.specs.Words.{Has, is_set}
use Rattle.conc_base_law.proofs.LawfulSoFar.{all-get}
use Rattle.conc_base_law.proofs.Numbering.{found}
use Rattle.conc_base_law.proofs.Options.{some_and-some}
use Rattle.conc_reports.specs.Reports.{as_report}
use Rattle.conc_reports.specs.declared.making.Made.{Made}
use Rattle.conc_pool_seats.specs.Reports.{report_for}
use Rattle.conc_pool_seats.specs.declared.posted.Posted.{Posted}
use Rattle.conc_board.specs.declared.board.Board.{Board}
use Rattle.conc_board.specs.declared.hand.Hand.{Hand}
use Rattle.conc_board.specs.declared.hand.Permit.{Permit}
use Rattle.conc_board.specs.Admission.{IsAdmitted, admits_at, admits_request}
use Rattle.conc_board.specs.Claims.{HasPermit, permit_place, permit_request}
use Rattle.conc_board.specs.Seats.{IsHandOf, plan_of}
use Rattle.conc_board.specs.Owners.{manager_at}
use Rattle.conc_worker.specs.Leaving.{IsPostedAs, Leaves}

-- ---- each request of a plan is of a program or a set of the setup

abbrev is_there : Setup → Item → Bool
is_there setup i = is_item setup.programs setup.sets i

abbrev part_is_there : Setup → Part → Bool
part_is_there setup part = is_there setup part.1

abbrev request_is_there : Setup → Req → Bool
request_is_there setup r = is_there setup r.item

both_pass : {T : Type 0} (test : T → Bool) (xs ys : List T) → list_all test xs ≡ true → list_all test ys ≡ true → list_all test (xs ++ ys) ≡ true
both_pass test xs ys a b = list_all-append test xs ys ∙ and_from _ _ a b

members_there : (setup : Setup) (n : ℕ) (members : List ℕ) → list_all (λ m. nat_lt m (length setup.programs)) members ≡ true
    → list_all (part_is_there setup) (map (λ program. (n, item.Program program)) members) ≡ true
members_there setup n [] h = refl
members_there setup n (m ∷ ms) h = let p = and_parts (nat_lt m (length setup.programs)) _ h in and_from _ _ p.0 (members_there setup n ms p.1)

stages_there : (setup : Setup) (n : ℕ) (stages : List Stage) → list_all (has_members setup.programs) stages ≡ true
    → list_all (part_is_there setup) (flat_map members_of (enumerate_from n stages)) ≡ true
stages_there setup n [] h = refl
stages_there setup n (stage ∷ stages) h =
    let p = and_parts (has_members setup.programs stage) _ h in
    both_pass (part_is_there setup) (members_of (n, stage)) (flat_map members_of (enumerate_from (n + 1) stages))
    (members_there setup n stage.members p.0) (stages_there setup (n + 1) stages p.1)

-- what a set enters, if it is there
set_there : (setup : Setup) (n : ℕ) (o : Option SetDef) → slice_get setup.sets n ≡ o
    → list_all (part_is_there setup) (option_map_or (λ s. flat_map members_of (enumerate_from 1 s.stages)) o []) ≡ true
set_there setup n None e = refl
set_there setup n (Some s) e =
    let sets : list_all (is_set_of setup.programs) setup.sets ≡ true = (and_parts _ _ (and_parts _ _ setup.references).1).1 in
    stages_there setup 1 s.stages (all-get (is_set_of setup.programs) setup.sets n s sets e)

parts_there : (setup : Setup) (i : Item) → is_there setup i ≡ true → list_all (part_is_there setup) (parts setup i) ≡ true
parts_there setup (item.Program n) h = and_from _ _ h refl
parts_there setup (item.Set n) h = and_from _ _ h (set_there setup n (slice_get setup.sets n) refl)

each_there : (setup : Setup) (command first n : ℕ) (a : Act) (ps : List Part)
    → ((part : ℕ × Part) → part_is_there setup part.1 ≡ true → list_all (request_is_there setup) (request_by setup command first a part) ≡ true)
    → list_all (part_is_there setup) ps ≡ true
    → list_all (request_is_there setup) (flat_map (request_by setup command first a) (enumerate_from n ps)) ≡ true
each_there setup command first n a [] one h = refl
each_there setup command first n a (p ∷ ps) one h =
    let q = and_parts (part_is_there setup p) _ h in
    both_pass (request_is_there setup) (request_by setup command first a (n, p)) (flat_map (request_by setup command first a) (enumerate_from (n + 1) ps))
    (one (n, p) q.0) (each_there setup command first (n + 1) a ps one q.1)

entered_there : (setup : Setup) (command first next : ℕ) (a : Act) → is_act setup next a ≡ true
    → list_all (request_is_there setup) (flat_map (request_by setup command first a) (enumerate_from first (parts_by setup a))) ≡ true
entered_there setup command first next (act.Submit what user priority start domain argument) h =
    each_there setup command first first (act.Submit what user priority start domain argument) (parts setup what) (λ part k. and_from _ _ k refl)
    (parts_there setup what (and_parts (is_there setup what) _ h).0)
entered_there setup command first next (act.Hold r) h = refl
entered_there setup command first next (act.Unhold r) h = refl
entered_there setup command first next (act.Cancel r) h = refl
entered_there setup command first next (act.Terminate r) h = refl

all_there : (setup : Setup) (first next seconds k : ℕ) (orders : List Order) → are_commands_from setup next seconds orders ≡ true
    → list_all (request_is_there setup) (expansion_from setup first (enumerate_from k orders)) ≡ true
all_there setup first next seconds k [] h = refl
all_there setup first next seconds k (order ∷ orders) h =
    let p = and_parts (nat_le seconds order.at.seconds) _ h in
    let q = and_parts (is_act setup next order.act) _ p.1 in
    let later : ℕ = first + length (parts_by setup order.act) in
    both_pass (request_is_there setup) (entered setup first (k, order)) (expansion_from setup later (enumerate_from (k + 1) orders))
    (entered_there setup k first next order.act q.0)
    (all_there setup later (next + entered_by setup order.act) order.at.seconds (k + 1) orders q.1)

passes_if_had : {T : Type 0} (test : T → Bool) (xs : List T) (x : T) → list_all test xs ≡ true → Has xs x → test x ≡ true
passes_if_had test [] x h has = absurd has
passes_if_had test (y ∷ ys) x h (inl e) = ap test e ∙ (and_parts (test y) _ h).0
passes_if_had test (y ∷ ys) x h (inr has) = passes_if_had test ys x (and_parts (test y) _ h).1 has

request_there : (plan : Plan) (r : Req) → Has plan.requests r → is_there plan.setup r.item ≡ true
request_there plan r has =
    passes_if_had (request_is_there plan.setup) plan.requests r
    (ap (list_all (request_is_there plan.setup)) plan.expanded ∙ all_there plan.setup 1 1 0 1 plan.script.commands plan.commands) has

-- ---- so a request of a program has a report

program_there : (plan : Plan) (i : Item) → is_there plan.setup i ≡ true → is_set i ≡ false → (program : Program) × (program_at plan i ≡ Some program)
unfolding program_at
program_there plan (item.Set n) h f = absurd (cc)
program_there plan (item.Program n) h f =
    let within = ltb-true n (length plan.setup.programs) h in
    elim (slice_get_cases plan.setup.programs n).1 [
      | inl x ↦ (x.0, x.2)
      | inr past ↦ absurd (omega arith)
    ]

table_there : (plan : Plan) (i : Item) (program : Program) → program_at plan i ≡ Some program
    → (table : Table) × (table_named plan.setup plan.tables program.job.table ≡ Some table)
unfolding program_at
table_there plan (item.Set n) program h = cc
table_there plan (item.Program n) program h =
    let can : can_report plan.setup plan.tables program ≡ true =
    all-get (can_report plan.setup plan.tables) plan.setup.programs n program (and_parts _ _ plan.reports).1 h in
    let t = some_and-some (has_columns program.job) (table_named plan.setup plan.tables program.job.table) can in
    (t.0, t.1)

report_there : (plan : Plan) (r : Req) → Has plan.requests r → is_set r.item ≡ false → (made : Report) × (report_of plan r ≡ Some made)
unfolding report_of program_of
report_there plan r has no_set =
    let p = program_there plan r.item (request_there plan r has) no_set in
    let t = table_there plan r.item p.0 p.1 in
    (report p.0.job r.argument t.0, rw p.1 (ap (λ o. option_map (report p.0.job r.argument) o) t.1))

-- ---- what a manager admits is of a program

not_true : (b : Bool) → not b ≡ true → b ≡ false
not_true true e = absurd (cc)
not_true false e = refl

admitted_no_set : (manager : Manager) (r : Req) → admits manager r ≡ true → is_set r.item ≡ false
unfolding admits
admitted_no_set manager r h = not_true (is_set r.item) (and_parts _ _ h).0

some_there : {T : Type 0} (o : Option T) (x : T) → o ≡ Some x → IsSome o
some_there o x e = subst IsSome (sym e) refl

pub admitted_has_report : (plan : Plan) (place : PlaceId) (r : RequestId) → admits_at plan place r ≡ true → IsSome (report_for plan r)
admitted_has_report plan place r h =
    let manager = some_and-some (admits_request plan r) (manager_at plan place) h in
    let req = some_and-some (admits manager.0) (request plan r) manager.2 in
    let made = report_there plan req.0 (found plan r req.0 req.1).1 (admitted_no_set manager.0 req.0 req.2) in
    some_there (report_for plan r) made.0 (ap (option_and_then (report_of plan)) req.1 ∙ made.1)

-- ---- so has what a hand serves

pub served_has_report : (board : Board) (plan : Plan) (hand : Hand) (permit : Permit) → plan ≡ plan_of board → IsHandOf board hand → HasPermit hand permit → IsSome (report_for plan (permit_request permit))
served_has_report board plan hand permit is own has =
    subst (λ (p : Plan). IsSome (report_for p (permit_request permit))) (sym is)
    (admitted_has_report (plan_of board) (permit_place permit) (permit_request permit)
    (subst (IsAdmitted (plan_of board)) has.1 own.admitted))

-- ---- what was made of it

pub made_there : (o : Result (Option Made) NoMemoryFail) (want : Option Report) → IfOk o (λ made. option_map as_report made ≡ want) → IsSome want → IfOk o (λ made. IsSome made)
made_there (Ok (Some made)) want is there = refl
made_there (Ok None) want is there = subst IsSome (sym is) there
made_there (Err e) want is there = tt

pub leaves_made : (plan : Plan) (r : RequestId) (o : Result (Option Made) NoMemoryFail) (posted : Posted) → IfOk o (λ made. option_map as_report made ≡ report_for plan r) → IsPostedAs o posted
    → Leaves plan r false posted
leaves_made plan r (Ok (Some made)) posted is left = subst (Leaves plan r false) (sym left) (sym is)
leaves_made plan r (Ok None) posted is left = absurd left
leaves_made plan r (Err e) posted is left = subst (Leaves plan r false) (sym left) tt
