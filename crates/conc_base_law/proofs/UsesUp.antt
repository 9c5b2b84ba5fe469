-- A start, an end, an interrupt and a let each lower the bound of their request.
use Rattle.std.proofs.Common.{◌≡◌, ℕ, ◌<◌, ◌≤◌, true, false, not, ◌&&◌, List, ◌∷◌, Option, is_some, refl, sym, ◌∙◌, ap, inl, inr, arith}
use Rattle.std.specs.Bool.{then_some}
use Rattle.std.proofs.lemmas.Bool.{and_left, and_parts, both_ways, cases_Bool, not-true, not_from_true, or_left, or_parts}
use Rattle.conc_types.specs.declared.event.Event.{Event}
use Rattle.conc_types.specs.declared.event.Event.TheVariants as event
use Rattle.conc_types.specs.declared.event.Extent.{Extent}
use Rattle.conc_types.specs.declared.event.Outcome.{Outcome}
use Rattle.conc_types.specs.declared.event.PlaceId.{PlaceId}
use Rattle.conc_types.specs.declared.event.RequestId.{RequestId}
use Rattle.conc_types.specs.declared.plan.Plan.{Plan}
use Rattle.conc_types.specs.declared.plan.Req.{Req}
use Rattle.conc_types.specs.declared.script.Reading.{Reading}
use Rattle.conc_base_law.specs.Facts.{completes, completion, facts_of, is_let, is_open, running_place, runs, unlets, was_completed, was_started}
use Rattle.conc_base_law.specs.Law.{is_lawful_so_far, may_follow}
use Rattle.conc_base_law.specs.Next.{is_ready, may_let}
use Rattle.conc_base_law.specs.Before.{last_life}
use Rattle.conc_base_law.specs.Remaining.{events_left}
use Rattle.conc_base_law.specs.State.{facts_at, is_completed, is_live, is_running, state}
use Rattle.conc_base_law.specs.Words.{Has, is_set}
use Rattle.conc_base_law.proofs.Comes.{may_start-parts, start_comes}
use Rattle.conc_base_law.proofs.Completed.{let_no_set, let_not_completed, was_completed-by}
use Rattle.conc_base_law.proofs.EqualEvents.{eqb-refl}
use Rattle.conc_base_law.proofs.FactsAt.{facts_at-state, is_completed-state, is_live-state, is_running-state, let_out-state}
use Rattle.conc_base_law.proofs.LiveApart.{let_could, may_let-parts}
use Rattle.conc_base_law.proofs.RunningIsLet.{runs_let}
use Rattle.conc_base_law.proofs.Stops.{end_runs, interrupt_left, interrupt_runs}
use Rattle.conc_base_law.proofs.Weights.{left-completed, left-left_running, left-let, left-let-le, left-running, left-started, left-waiting, left-waiting-le}

-- the bound of r after these events
abbrev pub left : Plan → List Event → Req → ℕ
left plan past r = events_left r (facts_of plan past r)

-- ---- the facts, by their names

-- a request that runs
pub facts-runs : (plan : Plan) (past : List Event) (r : Req) → is_running (facts_of plan past r) ≡ runs past r.number
unfolding facts_of runs
facts-runs plan past r = refl

-- one that is completed
pub facts-completed : (plan : Plan) (past : List Event) (r : Req) → is_completed (facts_of plan past r) ≡ was_completed plan past r
unfolding facts_of was_completed
facts-completed plan past r = refl

-- one that is let
pub facts-let : (plan : Plan) (past : List Event) (r : Req) → (facts_of plan past r).let_out ≡ is_let plan past r
unfolding facts_of
facts-let plan past r = refl

-- one that is open
pub facts-opened : (plan : Plan) (past : List Event) (r : Req) → (facts_of plan past r).opened ≡ is_open past r
unfolding facts_of
facts-opened plan past r = refl

-- a request that is not let does not run
pub let_not_runs_not : (plan : Plan) (past : List Event) (r : Req) → Has plan.requests r → is_lawful_so_far plan past ≡ true → is_let plan past r ≡ false → runs past r.number ≡ false
let_not_runs_not plan past r hr lawful h = elim (cases_Bool (runs past r.number)) [
  | inl t ↦ absurd (both_ways _ h (runs_let plan past r hr lawful t))
  | inr f ↦ f
]

-- no set is let
pub set_let_not : (plan : Plan) (past : List Event) (r : Req) → Has plan.requests r → is_lawful_so_far plan past ≡ true → is_set r.item ≡ true → is_let plan past r ≡ false
set_let_not plan past r hr lawful set = elim (cases_Bool (is_let plan past r)) [
  | inl t ↦ absurd (both_ways _ (let_no_set plan past r hr lawful t) set)
  | inr f ↦ f
]

-- a request that could be let is not live
pub could_not_live : (plan : Plan) (past : List Event) (r : Req) → Has plan.requests r → may_let plan (state plan past) r ≡ true → (is_let plan past r ≡ false) × (is_open past r ≡ false)
unfolding may_let is_ready facts_of
could_not_live plan past r hr h =
    let f = facts_at (state plan past) r in
    let ready : is_ready plan (state plan past) r ≡ true = (and_parts _ _ h).0 in
    let a : (not (is_live f) && _) ≡ true = (and_parts f.entered _ ready).1 in
    let b : is_live f ≡ false = not-true _ (and_parts (not (is_live f)) _ a).0 in
    or_parts (is_let plan past r) (is_open past r) (sym (is_live-state plan past r hr) ∙ b)

-- one that could be let is not completed
pub could_not_completed : (plan : Plan) (past : List Event) (r : Req) → Has plan.requests r → may_let plan (state plan past) r ≡ true → was_completed plan past r ≡ false
could_not_completed plan past r hr h = sym (is_completed-state plan past r hr) ∙ (may_let-parts plan (state plan past) r h).0

-- ---- a start

-- after its start a request runs
start-runs : (past : List Event) (r : RequestId) (p : PlaceId) → runs (event.Started r p ∷ past) r ≡ true
unfolding runs running_place
start-runs past r p = rw (eqb-refl r.number) refl

-- and was started in this life
start-started : (plan : Plan) (past : List Event) (r : Req) (p : PlaceId) → (facts_of plan (event.Started r.number p ∷ past) r).started ≡ true
unfolding facts_of was_started last_life
start-started plan past r p = or_left _ _ (eqb-refl r.number.number)

-- a start lowers the bound
pub start_less : (plan : Plan) (readings : Option (List Reading)) (past : List Event) (r : Req) (p : PlaceId) → Has plan.requests r → is_lawful_so_far plan past ≡ true
    → may_follow plan readings past (event.Started r.number p) ≡ true → left plan (event.Started r.number p ∷ past) r < left plan past r
start_less plan readings past r p hr lawful m =
    let s = state plan past in
    let parts = may_start-parts plan s r p (start_comes plan readings past r p hr m) in
    let l : is_let plan past r ≡ true = sym (let_out-state plan past r hr) ∙ parts.0 in
    let n : runs past r.number ≡ false = sym (is_running-state plan past r hr) ∙ parts.1 in
    let before : left plan past r ≡ 2 =
    left-let r (facts_of plan past r) (facts-completed plan past r ∙ let_not_completed plan past r hr lawful l) (facts-runs plan past r ∙ n) (facts-let plan past r ∙ l) in
    let next = event.Started r.number p ∷ past in
    let after : left plan next r ≤ 1 = left-started r (facts_of plan next r) (facts-runs plan next r ∙ start-runs past r.number p) (start-started plan past r p) in
    omega arith

-- ---- an end

-- an end gives an outcome
end-outcome : (plan : Plan) (past : List Event) (r : Req) (o : Outcome) (x : Option Extent)
    → is_some (completes plan past (completion plan past) r (event.Ended r.number o x)) ≡ true
unfolding completes
end-outcome plan past r o x = ap (λ b. is_some (then_some b o)) (eqb-refl r.number.number)

-- so it completes its request
pub end-completed : (plan : Plan) (past : List Event) (r : Req) (o : Outcome) (x : Option Extent) → was_completed plan (event.Ended r.number o x ∷ past) r ≡ true
end-completed plan past r o x = was_completed-by plan past r (event.Ended r.number o x) (end-outcome plan past r o x)

-- an end lowers the bound
pub end_less : (plan : Plan) (readings : Option (List Reading)) (past : List Event) (r : Req) (o : Outcome) (x : Option Extent) → Has plan.requests r → is_lawful_so_far plan past ≡ true
    → may_follow plan readings past (event.Ended r.number o x) ≡ true → left plan (event.Ended r.number o x ∷ past) r < left plan past r
end_less plan readings past r o x hr lawful m =
    let n : runs past r.number ≡ true = end_runs plan readings past r o x hr m in
    let l : is_let plan past r ≡ true = runs_let plan past r hr lawful n in
    let before : 1 ≤ left plan past r =
    left-running r (facts_of plan past r) (facts-completed plan past r ∙ let_not_completed plan past r hr lawful l) (facts-runs plan past r ∙ n) in
    let next = event.Ended r.number o x ∷ past in
    let after : left plan next r ≡ 0 = left-completed r (facts_of plan next r) (facts-completed plan next r ∙ end-completed plan past r o x) in
    omega arith

-- ---- an interrupt

-- after its interrupt a request does not run
interrupt-runs : (past : List Event) (r : RequestId) → runs (event.Interrupt r ∷ past) r ≡ false
unfolding runs running_place
interrupt-runs past r = rw (eqb-refl r.number) refl

-- and is not let
interrupt-let : (plan : Plan) (past : List Event) (r : Req) → is_let plan (event.Interrupt r.number ∷ past) r ≡ false
unfolding is_let unlets
interrupt-let plan past r = and_left _ _ (not_from_true _ (or_left _ _ (eqb-refl r.number.number)))

-- an interrupt lowers the bound
pub interrupt_less : (plan : Plan) (readings : Option (List Reading)) (past : List Event) (r : Req) → Has plan.requests r → is_lawful_so_far plan past ≡ true
    → may_follow plan readings past (event.Interrupt r.number) ≡ true → left plan (event.Interrupt r.number ∷ past) r < left plan past r
interrupt_less plan readings past r hr lawful m =
    let n : runs past r.number ≡ true = interrupt_runs plan readings past r hr m in
    let l : is_let plan past r ≡ true = runs_let plan past r hr lawful n in
    let old : (facts_of plan past r).started ≡ false = ap (λ f. f.started) (sym (facts_at-state plan past r hr)) ∙ (interrupt_left plan readings past r hr m).1 in
    let before : left plan past r ≡ 4 =
    left-left_running r (facts_of plan past r) (facts-completed plan past r ∙ let_not_completed plan past r hr lawful l) (facts-runs plan past r ∙ n) old in
    let next = event.Interrupt r.number ∷ past in
    let after : left plan next r ≤ 3 =
    left-waiting-le r (facts_of plan next r) (facts-runs plan next r ∙ interrupt-runs past r.number) (facts-let plan next r ∙ interrupt-let plan past r) (let_no_set plan past r hr lawful l) in
    omega arith

-- ---- a let

-- a let leaves a request as it ran
let-runs : (past : List Event) (r : RequestId) → runs (event.LetOut r ∷ past) r ≡ runs past r
unfolding runs running_place
let-runs past r = refl

-- and makes it let
let-let : (plan : Plan) (past : List Event) (r : Req) → is_let plan (event.LetOut r.number ∷ past) r ≡ true
unfolding is_let
let-let plan past r = or_left _ _ (eqb-refl r.number.number)

-- a let lowers the bound
pub let_less : (plan : Plan) (readings : Option (List Reading)) (past : List Event) (r : Req) → Has plan.requests r → is_lawful_so_far plan past ≡ true
    → may_follow plan readings past (event.LetOut r.number) ≡ true → left plan (event.LetOut r.number ∷ past) r < left plan past r
let_less plan readings past r hr lawful m =
    let could : (may_let plan (state plan past) r ≡ true) × (is_set r.item ≡ false) = let_could plan readings past r hr m in
    let dead : (is_let plan past r ≡ false) × (is_open past r ≡ false) = could_not_live plan past r hr could.0 in
    let n : runs past r.number ≡ false = let_not_runs_not plan past r hr lawful dead.0 in
    let before : left plan past r ≡ 3 =
    left-waiting r (facts_of plan past r) (facts-completed plan past r ∙ could_not_completed plan past r hr could.0) (facts-runs plan past r ∙ n) (facts-let plan past r ∙ dead.0) could.1 in
    let next = event.LetOut r.number ∷ past in
    let after : left plan next r ≤ 2 =
    left-let-le r (facts_of plan next r) (facts-runs plan next r ∙ (let-runs past r.number ∙ n)) (facts-let plan next r ∙ let-let plan past r) in
    omega arith
