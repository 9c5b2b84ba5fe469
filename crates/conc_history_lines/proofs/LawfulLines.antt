-- Each event of a lawful history has a line.
use Rattle.std.proofs.Common.{◌≡◌, refl, sym, ◌∙◌, ap, ◌<◌, ◌≤◌, ◌+◌, ◌^◌, ℕ, zero, suc, Bool, true, false, ◌&&◌, ◌==◌, List, [], ◌∷◌, length, reverse, subst, arith}
use Rattle.std.specs.Prelude.{if◌then◌else◌, nat_le, nat_lt, slice_get, Option, None, Some, is_none, is_some}
use Rattle.std.specs.List.{enumerate_from, list_all}
use Rattle.std.specs.Option.{option_and_then, option_flatten, option_map}
use Rattle.std.proofs.lemmas.Bool.{and_from, and_parts, eqb-true, le-leb, lt-ltb, ltb-true}
use Rattle.std.proofs.lemmas.List.{reverse-append}
use Rattle.std.proofs.lemmas.List.Folds.{list_all-append}
use Rattle.std.proofs.lemmas.List.FromFn.{length-enumerate_from}
use Rattle.std.proofs.lemmas.Option.{slice_get_within}
use Rattle.conc_types.specs.declared.event.Event.{Event}
use Rattle.conc_types.specs.declared.event.Event.TheVariants as event
use Rattle.conc_types.specs.declared.event.Extent.{Extent}
use Rattle.conc_types.specs.declared.event.Outcome.{Outcome}
use Rattle.conc_types.specs.declared.event.PlaceId.{PlaceId}
use Rattle.conc_types.specs.declared.event.RequestId.{RequestId}
use Rattle.conc_types.specs.declared.facts.State.{State}
use Rattle.conc_types.specs.declared.plan.Plan.{Plan}
use Rattle.conc_types.specs.declared.plan.Req.{Req}
use Rattle.conc_types.specs.declared.stage.Stage.{Stage}
use Rattle.conc_types.specs.Plans.{request}
use Rattle.conc_types.specs.Words.{none_or, numbered, some_and}
use Rattle.conc_base_law.specs.Law.{is_lawful_so_far, may_follow}
use Rattle.conc_base_law.specs.Managers.{admits}
use Rattle.conc_base_law.specs.Next.{is_allowed, is_next_extent, is_report_outcome, is_terminated, may_end, may_start}
use Rattle.conc_base_law.specs.Places.{place_of}
use Rattle.conc_base_law.specs.Plans.{stages_of}
use Rattle.conc_base_law.specs.Readings.{next_reading}
use Rattle.conc_base_law.specs.Stages.{after_stage, has_ended, link, link_place, next_stage, set_step, stage_outcome, step_from}
use Rattle.conc_base_law.specs.State.{facts_at, is_running, is_stopping, state, used}
use Rattle.conc_base_law.specs.Words.{Has}
use Rattle.conc_base_law.proofs.Comes.{close_comes, comes_allowed, let_comes, Lettable, open_comes, Opened, stage_comes}
use Rattle.conc_base_law.proofs.Due.{command_undone, IsUndone}
use Rattle.conc_base_law.proofs.EqualEvents.{id_same}
use Rattle.conc_base_law.proofs.Numbering.{found, numbered-at, numbered_plan}
use Rattle.conc_base_law.proofs.Numbers.{enumerated-numbered}
use Rattle.conc_base_law.proofs.Outcomes.{close_outcome, stage_forced}
use Rattle.conc_base_law.proofs.Options.{and_then-some, map-some, some_and-some, then_some-some}
use Rattle.conc_base_law.proofs.Remaining.{end_about, IsAboutOne}
use Rattle.conc_base_law.proofs.Stops.{end_comes, interrupt_comes, LeftRunning}
use Rattle.conc_history_lines.specs.Lines.{ends_so, has_line, is_small}

-- ---- numbers

numbered_within : {T : Type 0} (xs : List T) (n : ℕ) (x : T) → numbered xs n ≡ Some x → n ≤ length xs
numbered_within xs zero x h = omega arith
numbered_within xs (suc k) x h =
    let within : k < length xs = slice_get_within xs k x (sym (numbered-at xs (suc k) k (omega arith)) ∙ h) in
    omega arith

-- the numbers of requests fit
small_request : (plan : Plan) (r : Req) → Has plan.requests r → is_small r.number.number ≡ true
unfolding request
small_request plan r hr =
    let within = numbered_within plan.requests r.number.number r (numbered_plan plan r hr) in
    let few = plan.few in
    lt-ltb r.number.number 4294967296 (omega arith)

small_id : (plan : Plan) (r : Req) (id : RequestId) → Has plan.requests r → r.number ≡ id → is_small id.number ≡ true
small_id plan r id hr e = ap (λ (q : RequestId). is_small q.number) (sym e) ∙ small_request plan r hr

-- the numbers of commands fit
small_command : (plan : Plan) (past : List Event) (n : ℕ) → IsUndone plan past n → is_small n ≡ true
small_command plan past n u =
    let within = numbered_within (enumerate_from 1 plan.script.commands) u.order.0 u.order (enumerated-numbered plan.script.commands u.order u.element) in
    let long = length-enumerate_from 1 plan.script.commands in
    let few = plan.script.few in
    let number = u.number in
    lt-ltb n 4294967296 (omega arith)

-- ---- the number of a stage

all_get : {T : Type 0} (test : T → Bool) (xs : List T) (k : ℕ) (x : T) → list_all test xs ≡ true → slice_get xs k ≡ Some x → test x ≡ true
all_get test [] k x h e = cc
all_get test (y ∷ xs) zero x h e =
    let same : y ≡ x = cc in
    ap test (sym same) ∙ (and_parts (test y) (list_all test xs) h).0
all_get test (y ∷ xs) (suc k) x h e = all_get test xs k x (and_parts (test y) (list_all test xs) h).1 e

flat : {T : Type 0} (o : Option (Option T)) (x : T) → option_flatten o ≡ Some x → o ≡ Some (Some x)
flat None x h = cc
flat (Some None) x h = cc
flat (Some (Some y)) x h = ap (λ o. Some o) h

link_near : (stage : Stage) (o : Outcome) (place : ℕ) → link stage o ≡ Some place → place < 64
link_near stage o place h =
    let e = flat (slice_get stage.links (link_place o)) place h in
    let near : list_all (none_or (λ place. nat_lt place 64)) stage.links ≡ true = stage.near in
    ltb-true place 64 (all_get (none_or (λ place. nat_lt place 64)) stage.links (link_place o) (Some place) near e)

next_near : (plan : Plan) (s : State) (set : Req) (stage k : ℕ) → next_stage plan s set stage ≡ Some k → (1 ≤ k) × (k ≤ 64)
unfolding next_stage
next_near plan s set stage k h =
    let p = map-some (λ place. place + 1) (option_and_then (λ found. link found (stage_outcome plan s set stage)) (numbered (stages_of plan set) stage)) k h in
    let q = and_then-some (λ found. link found (stage_outcome plan s set stage)) (numbered (stages_of plan set) stage) p.0 p.1 in
    let near = link_near q.0 (stage_outcome plan s set stage) p.0 q.2 in
    let next = p.2 in
    (omega arith, omega arith)

stage_after : (plan : Plan) (s : State) (set : Req) (last : ℕ) (next : Option ℕ) (id : RequestId) (k : ℕ) → ((n : ℕ) → next ≡ Some n → (1 ≤ n) × (n ≤ 64))
    → after_stage plan s set last next ≡ event.Stage id k → (1 ≤ k) × (k ≤ 64)
stage_after plan s set last None id k near h = cc
stage_after plan s set last (Some next) id k near h =
    let same : next ≡ k = cc in
    near k (ap (λ (n : ℕ). Some n) same)

stage_near : (plan : Plan) (s : State) (set : Req) (current : Option ℕ) (id : RequestId) (k : ℕ) → step_from plan s set current ≡ Some (event.Stage id k) → (1 ≤ k) × (k ≤ 64)
stage_near plan s set None id k h = let same : 1 ≡ k = cc in (omega arith, omega arith)
stage_near plan s set (Some stage) id k h =
    stage_after plan s set stage (next_stage plan s set stage) id k (λ n e. next_near plan s set stage n e)
    (then_some-some (has_ended plan s set stage) (after_stage plan s set stage (next_stage plan s set stage)) (event.Stage id k) h).1

stage_step : (plan : Plan) (s : State) (set : Req) (id : RequestId) (k : ℕ) → set_step plan s set ≡ Some (event.Stage id k) → (1 ≤ k) × (k ≤ 64)
unfolding set_step
stage_step plan s set id k h = stage_near plan s set (facts_at s set).stage id k h

-- ---- starts and ends

start_line : (plan : Plan) (past : List Event) (id : RequestId) (p : PlaceId) → may_follow plan None past (event.Started id p) ≡ true → (is_small id.number && is_some (place_of plan p)) ≡ true
unfolding may_follow is_allowed may_start
start_line plan past id p h =
    let s = state plan past in
    let allowed : some_and (λ q. may_start plan s q p) (request plan id) ≡ true =
    (comes_allowed plan s (option_map (λ known. next_reading known past) None) (event.Started id p) refl refl h).1 in
    let q = some_and-some (λ q. may_start plan s q p) (request plan id) allowed in
    let f = found plan id q.0 q.1 in
    let small : is_small id.number ≡ true = ap is_small (sym f.0) ∙ small_request plan q.0 f.1 in
    let a = and_parts (facts_at s q.0).let_out _ q.2 in
    let b = and_parts _ _ a.1 in
    let c = and_parts (some_and (λ z. admits z.manager q.0) (place_of plan p)) _ b.1 in
    let there = some_and-some (λ z. admits z.manager q.0) (place_of plan p) c.0 in
    and_from (is_small id.number) (is_some (place_of plan p)) small (ap is_some there.1)

used_small : (plan : Plan) (past : List Event) (n : ℕ) → (state plan past).used ≡ Some n → nat_lt n (2 ^ 64) ≡ true
unfolding state
used_small plan past n h =
    let p = then_some-some (nat_lt (used past) (2 ^ 64)) (used past) n h in
    ap (λ (m : ℕ). nat_lt m (2 ^ 64)) (sym p.1) ∙ p.0

extent_line : (s : State) (x : Extent) → ((n : ℕ) → s.used ≡ Some n → nat_lt n (2 ^ 64) ≡ true) → is_next_extent s x ≡ true → (nat_lt x.offset (2 ^ 64) && is_small x.length) ≡ true
unfolding is_next_extent
extent_line s x few h =
    let p = and_parts (some_and (λ n. x.offset == n) s.used) (nat_lt 0 x.length && nat_lt x.length (2 ^ 32)) h in
    let q = some_and-some (λ n. x.offset == n) s.used p.0 in
    let same : x.offset ≡ q.0 = eqb-true x.offset q.0 q.2 in
    and_from (nat_lt x.offset (2 ^ 64)) (is_small x.length) (ap (λ (m : ℕ). nat_lt m (2 ^ 64)) same ∙ few q.0 q.1) (and_parts (nat_lt 0 x.length) (is_small x.length) p.1).1

ended_line : (s : State) (stop : Bool) (o : Outcome) (x : Option Extent) → ((n : ℕ) → s.used ≡ Some n → nat_lt n (2 ^ 64) ≡ true)
    → (if stop then is_terminated o && is_none x else is_report_outcome o && some_and (is_next_extent s) x) ≡ true → ends_so o x ≡ true
ended_line s true o None few h = (and_parts (is_terminated o) true h).0
ended_line s true o (Some x) few h = let never : false ≡ true = (and_parts (is_terminated o) false h).1 in cc
ended_line s false o None few h = let never : false ≡ true = (and_parts (is_report_outcome o) false h).1 in cc
ended_line s false o (Some x) few h =
    let p = and_parts (is_report_outcome o) (is_next_extent s x) h in
    and_from (is_report_outcome o) _ p.0 (extent_line s x few p.1)

may_end-line : (s : State) (r : Req) (o : Outcome) (x : Option Extent) → ((n : ℕ) → s.used ≡ Some n → nat_lt n (2 ^ 64) ≡ true) → may_end s r o x ≡ true → ends_so o x ≡ true
unfolding may_end
may_end-line s r o x few h = ended_line s (is_stopping (facts_at s r)) o x few (and_parts (is_running (facts_at s r)) _ h).1

end_line : (plan : Plan) (past : List Event) (id : RequestId) (o : Outcome) (x : Option Extent) → may_follow plan None past (event.Ended id o x) ≡ true → (is_small id.number && ends_so o x) ≡ true
end_line plan past id o x m =
    let p : IsAboutOne plan (event.Ended id o x) = end_about plan None past id o x m in
    let same : id ≡ p.0.number = id_same id p.0.number p.2 in
    let n : may_follow plan None past (event.Ended p.0.number o x) ≡ true = subst (λ z. may_follow plan None past (event.Ended z o x) ≡ true) same m in
    and_from (is_small id.number) (ends_so o x) (small_id plan p.0 id p.1 (sym same))
    (may_end-line (state plan past) p.0 o x (used_small plan past) (end_comes plan None past p.0 o x p.1 n))

-- ---- each event

event_line : (plan : Plan) (past : List Event) (e : Event) → may_follow plan None past e ≡ true → has_line plan e ≡ true
unfolding has_line
event_line plan past (event.Tick t) m = refl
event_line plan past (event.Command n) m = small_command plan past n (command_undone plan None past n m)
event_line plan past (event.OpenSet id) m = let l : Lettable plan (state plan past) id true = open_comes plan None past id m in small_id plan l.req id l.element l.number
event_line plan past (event.Stage id k) m =
    let l : Opened plan (state plan past) id = stage_comes plan None past id k m in
    let f = stage_forced plan past id k m in
    let near = stage_step plan (state plan past) f.set id k f.step in
    and_from (is_small id.number) _ (small_id plan l.req id l.element l.number) (and_from (nat_le 1 k) (is_small k) (le-leb 1 k near.0) (lt-ltb k 4294967296 (omega arith)))
event_line plan past (event.CloseSet id o) m =
    let l : Opened plan (state plan past) id = close_comes plan None past id o m in
    and_from (is_small id.number) (is_report_outcome o) (small_id plan l.req id l.element l.number) (close_outcome plan past id o m)
event_line plan past (event.LetOut id) m = let l : Lettable plan (state plan past) id false = let_comes plan None past id m in small_id plan l.req id l.element l.number
event_line plan past (event.Started id p) m = start_line plan past id p m
event_line plan past (event.Ended id o x) m = end_line plan past id o x m
event_line plan past event.Resume m = refl
event_line plan past (event.Interrupt id) m = let l : LeftRunning plan (state plan past) id = interrupt_comes plan None past id m in small_id plan l.req id l.element l.number

lines_so_far : (plan : Plan) (past : List Event) → is_lawful_so_far plan past ≡ true → list_all (has_line plan) past ≡ true
unfolding is_lawful_so_far
lines_so_far plan [] h = refl
lines_so_far plan (e ∷ past) h =
    let p = and_parts (is_lawful_so_far plan past) (may_follow plan None past e) h in
    and_from (has_line plan e) (list_all (has_line plan) past) (event_line plan past e p.1) (lines_so_far plan past p.0)

all_reverse : {T : Type 0} (test : T → Bool) (xs : List T) → list_all test (reverse xs) ≡ true → list_all test xs ≡ true
all_reverse test [] h = refl
all_reverse test (x ∷ xs) h =
    let both : (list_all test (reverse xs) && (test x && true)) ≡ true = sym (ap (list_all test) (reverse-append (x ∷ []) xs) ∙ list_all-append test (reverse xs) (x ∷ [])) ∙ h in
    let p = and_parts (list_all test (reverse xs)) (test x && true) both in
    and_from (test x) (list_all test xs) (and_parts (test x) true p.1).0 (all_reverse test xs p.0)

-- each event of a lawful history has a line
pub history_lines : (plan : Plan) (history : List Event) → is_lawful_so_far plan (reverse history) ≡ true → list_all (has_line plan) history ≡ true
history_lines plan history h = all_reverse (has_line plan) history (lines_so_far plan (reverse history) h)
