-- How many requests a run lets: no more than might still be let where it began.
use Rattle.std.proofs.Common.{◌≡◌, ℕ, ◌+◌, ◌<◌, ◌≤◌, true, false, List, [], ◌∷◌, ◌++◌, length, reverse, None, append_assoc, length-append, refl, sym, ◌∙◌, ap, subst, arith}
use Rattle.std.specs.List.{sum_by}
use Rattle.std.proofs.lemmas.Bool.{and_parts, or_parts}
use Rattle.std.proofs.lemmas.List.{reverse-append}
use Rattle.std.proofs.lemmas.List.Elements.{filter_map-append}
use Rattle.conc_types.specs.declared.event.Event.{Event}
use Rattle.conc_types.specs.declared.event.Event.TheVariants as event
use Rattle.conc_types.specs.declared.event.RequestId.{RequestId}
use Rattle.conc_types.specs.declared.plan.Plan.{Plan}
use Rattle.conc_base_law.specs.Before.{occurs}
use Rattle.conc_base_law.specs.Kinds.{act_of, is_resume}
use Rattle.conc_base_law.specs.Law.{is_lawful_so_far, may_follow}
use Rattle.conc_base_law.specs.Remaining.{commands_left}
use Rattle.conc_base_law.specs.State.{state}
use Rattle.conc_base_law.proofs.Comes.{let_comes, Lettable}
use Rattle.conc_base_law.proofs.Others.{does}
use Rattle.conc_base_law.proofs.Prefixes.{is_lawful_so_far-after}
use Rattle.conc_base_law.proofs.Remaining.{commands_left-kept, commands_left-less}
use Rattle.conc_base_law.proofs.Sums.{sum_by-below, sum_by-less}
use Rattle.conc_pool_lanes.specs.Puts.{let_by, lets_of}
use Rattle.conc_pool_lanes.proofs.LetsLeft.{hold_number, lets_left, lets_left-command, lets_left-fewer, lets_left-let, lets_left-most}
use Rattle.conc_pool_lanes.proofs.Numbered.{rises-once}

-- how many lets may still come: those of the requests, and one for each command that is left, which may take one let from a request
abbrev pub all_lets_left : Plan → List Event → ℕ
all_lets_left plan past = sum_by (lets_left plan past) plan.requests + commands_left plan past

-- an event that lets out a request uses one up
let-uses : (plan : Plan) (past : List Event) (q : RequestId) → is_lawful_so_far plan past ≡ true → may_follow plan None past (event.LetOut q) ≡ true
    → all_lets_left plan (event.LetOut q ∷ past) < all_lets_left plan past
let-uses plan past q lawful m =
    let l : Lettable plan (state plan past) q false = let_comes plan None past q m in
    let m' : may_follow plan None past (event.LetOut l.req.number) ≡ true = subst (λ z. may_follow plan None past (event.LetOut z) ≡ true) (sym l.number) m in
    let one : lets_left plan (event.LetOut q ∷ past) l.req < lets_left plan past l.req =
    subst (λ z. lets_left plan (event.LetOut z ∷ past) l.req < lets_left plan past l.req) l.number (lets_left-let plan past l.req l.element lawful m') in
    let all : sum_by (lets_left plan (event.LetOut q ∷ past)) plan.requests < sum_by (lets_left plan past) plan.requests =
    sum_by-less (lets_left plan (event.LetOut q ∷ past)) (lets_left plan past) plan.requests l.req l.element one
    (λ y hy. lets_left-fewer plan past y (event.LetOut q) hy lawful m refl refl) in
    let same : commands_left plan (event.LetOut q ∷ past) ≡ commands_left plan past = commands_left-kept plan past (event.LetOut q) refl in
    omega arith

-- a command adds none
command-adds : (plan : Plan) (past : List Event) (n : ℕ) → may_follow plan None past (event.Command n) ≡ true
    → all_lets_left plan (event.Command n ∷ past) ≤ all_lets_left plan past
command-adds plan past n m =
    let all : sum_by (lets_left plan (event.Command n ∷ past)) plan.requests ≤ sum_by (lets_left plan past) plan.requests + 1 =
    rises-once plan (lets_left plan (event.Command n ∷ past)) (lets_left plan past) (hold_number (act_of plan (event.Command n)))
    (λ y hy. omega (arith, lets_left-most plan (event.Command n ∷ past) y)) (λ y hy other. lets_left-command plan past y n other) in
    let less : commands_left plan (event.Command n ∷ past) < commands_left plan past = commands_left-less plan None past n m in
    omega arith

-- nor does any other event but a resume
other-adds : (plan : Plan) (past : List Event) (e : Event) → is_lawful_so_far plan past ≡ true → may_follow plan None past e ≡ true
    → is_resume e ≡ false → does e ≡ false → all_lets_left plan (e ∷ past) ≤ all_lets_left plan past
other-adds plan past e lawful m n d =
    let all : sum_by (lets_left plan (e ∷ past)) plan.requests ≤ sum_by (lets_left plan past) plan.requests =
    sum_by-below (lets_left plan (e ∷ past)) (lets_left plan past) plan.requests (λ y hy. lets_left-fewer plan past y e hy lawful m n d) in
    let same : commands_left plan (e ∷ past) ≡ commands_left plan past = commands_left-kept plan past e d in
    omega arith

-- so each event uses up what it lets out
event-uses : (plan : Plan) (past : List Event) (e : Event) → is_lawful_so_far plan past ≡ true → may_follow plan None past e ≡ true
    → is_resume e ≡ false → length (lets_of (e ∷ [])) + all_lets_left plan (e ∷ past) ≤ all_lets_left plan past
unfolding lets_of
event-uses plan past (event.LetOut q) lawful m n = omega (arith, let-uses plan past q lawful m)
event-uses plan past (event.Command k) lawful m n = omega (arith, command-adds plan past k m)
event-uses plan past event.Resume lawful m n = cc
event-uses plan past (event.Tick t) lawful m n = omega (arith, other-adds plan past (event.Tick t) lawful m refl refl)
event-uses plan past (event.OpenSet s) lawful m n = omega (arith, other-adds plan past (event.OpenSet s) lawful m refl refl)
event-uses plan past (event.Stage s k) lawful m n = omega (arith, other-adds plan past (event.Stage s k) lawful m refl refl)
event-uses plan past (event.CloseSet s o) lawful m n = omega (arith, other-adds plan past (event.CloseSet s o) lawful m refl refl)
event-uses plan past (event.Started q p) lawful m n = omega (arith, other-adds plan past (event.Started q p) lawful m refl refl)
event-uses plan past (event.Ended q o x) lawful m n = omega (arith, other-adds plan past (event.Ended q o x) lawful m refl refl)
event-uses plan past (event.Interrupt q) lawful m n = omega (arith, other-adds plan past (event.Interrupt q) lawful m refl refl)

-- the first of some events, where all stand with the latest first, comes right after those before it
turned : (e : Event) (after past : List Event) → reverse (e ∷ after) ++ past ≡ reverse after ++ (e ∷ past)
turned e after past = ap (λ l. l ++ past) (reverse-append (e ∷ []) after) ∙ append_assoc (reverse after) (e ∷ []) past

-- the requests that two lists of events let out
pub lets_of-append : (events later : List Event) → lets_of (events ++ later) ≡ lets_of events ++ lets_of later
unfolding lets_of
lets_of-append events later = filter_map-append let_by events later

-- the events of a list that is lawful and has no resume use up what they let out
pub events-use : (plan : Plan) (past after : List Event) → is_lawful_so_far plan (reverse after ++ past) ≡ true → occurs is_resume after ≡ false
    → length (lets_of after) + all_lets_left plan (reverse after ++ past) ≤ all_lets_left plan past
unfolding lets_of is_lawful_so_far
events-use plan past [] lawful none = omega arith
events-use plan past (e ∷ after) lawful none =
    let n : (is_resume e ≡ false) × (occurs is_resume after ≡ false) = or_parts (is_resume e) _ none in
    let longer : is_lawful_so_far plan (reverse after ++ (e ∷ past)) ≡ true = ap (is_lawful_so_far plan) (sym (turned e after past)) ∙ lawful in
    let p : (is_lawful_so_far plan past ≡ true) × (may_follow plan None past e ≡ true) = and_parts _ _ (is_lawful_so_far-after plan (reverse after) (e ∷ past) longer) in
    let same : all_lets_left plan (reverse (e ∷ after) ++ past) ≡ all_lets_left plan (reverse after ++ (e ∷ past)) = ap (all_lets_left plan) (turned e after past) in
    let two : length (lets_of (e ∷ after)) ≡ length (lets_of (e ∷ [])) + length (lets_of after) =
    ap length (lets_of-append (e ∷ []) after) ∙ length-append (lets_of (e ∷ [])) (lets_of after) in
    omega (arith, event-uses plan past e p.0 p.1 n.0, events-use plan (e ∷ past) after longer n.1)
