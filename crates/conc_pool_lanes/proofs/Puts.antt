-- What a run puts, event by event, and that it is less than the lanes have room for.
use Rattle.std.proofs.Common.{◌≡◌, ℕ, ◌+◌, ◌≤◌, Bool, true, false, not, List, [], ◌∷◌, ◌++◌, drop, length, length-append, reverse, take, take-append-drop, take_all, append-nil, append_assoc, sym, ◌∙◌, ap, ap₂, inl, inr, arith}
use Rattle.std.specs.List.{enumerate_from, filter, sum_by}
use Rattle.std.proofs.lemmas.Bool.{and_parts, cases_Bool, not-true}
use Rattle.std.proofs.lemmas.List.{drop-append-le, drop_all, length-map, reverse-append, take-append-le}
use Rattle.std.proofs.lemmas.List.FromFn.{length-enumerate_from}
use Rattle.std.proofs.lemmas.List.Sums.{sum_by-cons}
use Rattle.conc_types.specs.declared.event.Event.{Event}
use Rattle.conc_types.specs.declared.plan.Plan.{Plan}
use Rattle.conc_types.specs.declared.plan.Req.{Req}
use Rattle.conc_types.specs.declared.script.Reading.{Reading}
use Rattle.conc_types.specs.Scripts.{are_in_order}
use Rattle.conc_base_law.specs.Before.{occurs}
use Rattle.conc_base_law.specs.Facts.{facts_of}
use Rattle.conc_base_law.specs.Kinds.{is_resume}
use Rattle.conc_base_law.specs.Law.{is_lawful, is_lawful_so_far}
use Rattle.conc_base_law.specs.Remaining.{commands_left}
use Rattle.conc_base_law.specs.State.{is_done, is_running}
use Rattle.conc_base_law.proofs.LawfulSoFar.{lawful_is_lawful_so_far}
use Rattle.conc_base_law.proofs.Sums.{filter-within}
use Rattle.conc_pool_lanes.specs.Lanes.{are_shorter}
use Rattle.conc_pool_lanes.specs.Puts.{lets_of, lists_for, puts, waiting_to_start, waits_to_start}
use Rattle.conc_pool_lanes.specs.Rooms.{room_for}
use Rattle.conc_pool_lanes.proofs.LetsLeft.{lets_left, lets_left-most, lets_left-waiting}
use Rattle.conc_pool_lanes.proofs.LetsRoom.{all_lets_left, events-use, lets_of-append}
use Rattle.conc_pool_lanes.proofs.Lists.{lists_for-shorter}

-- ---- event by event

-- one more event adds what it lets out
pub puts-more : (plan : Plan) (begun : ℕ) (list : List Event) (e : Event) → begun ≤ length list → puts plan begun (list ++ e ∷ []) ≡ puts plan begun list ++ lets_of (e ∷ [])
unfolding puts
puts-more plan begun list e within =
    let waiting = waiting_to_start plan (reverse (take begun list)) in
    ap₂ (λ (a b : List Event). waiting_to_start plan (reverse a) ++ lets_of b) (take-append-le begun list (e ∷ []) within) (drop-append-le begun list (e ∷ []) within)
    ∙ ap (λ l. waiting ++ l) (lets_of-append (drop begun list) (e ∷ []))
    ∙ sym (append_assoc waiting (lets_of (drop begun list)) (lets_of (e ∷ [])))

-- where a run begins it puts the requests that wait to start
pub puts-begun : (plan : Plan) (list : List Event) → puts plan (length list) list ≡ waiting_to_start plan (reverse list)
unfolding puts lets_of
puts-begun plan list =
    ap₂ (λ (a b : List Event). waiting_to_start plan (reverse a) ++ lets_of b) (take_all (length list) list (omega arith)) (drop_all (length list) list (omega arith))
    ∙ append-nil (waiting_to_start plan (reverse list))

-- ---- how many there are

-- those that pass and what is left of the others count one each at most
filter-sum : {T : Type 0} (test : T → Bool) (f : T → ℕ) (xs : List T) → ((y : T) → test y ≡ true → f y ≡ 0) → ((y : T) → f y ≤ 1)
    → length (filter test xs) + sum_by f xs ≤ length xs
filter-sum test f [] none most = omega arith
filter-sum test f (x ∷ xs) none most = elim (cases_Bool (test x)) [
  | inl t ↦ rw t (omega (arith, sum_by-cons f x xs, none x t, filter-sum test f xs none most))
  | inr o ↦ rw o (omega (arith, sum_by-cons f x xs, most x, filter-sum test f xs none most))
]

-- of a request that waits to start no let may come
waits-none : (plan : Plan) (past : List Event) (r : Req) → waits_to_start plan past r ≡ true → lets_left plan past r ≡ 0
waits-none plan past r h =
    let p : ((facts_of plan past r).let_out ≡ true) × (not (is_running (facts_of plan past r)) ≡ true) = and_parts _ _ h in
    lets_left-waiting plan past r p.0 (not-true _ p.1)

-- the requests that wait, and those that may still be let, are no more than there are
waiting-few : (plan : Plan) (past : List Event) → length (waiting_to_start plan past) + sum_by (lets_left plan past) plan.requests ≤ length plan.requests
unfolding waiting_to_start
waiting-few plan past =
    let few : length (filter (waits_to_start plan past) plan.requests) + sum_by (lets_left plan past) plan.requests ≤ length plan.requests =
    filter-sum (waits_to_start plan past) (lets_left plan past) plan.requests (waits-none plan past) (lets_left-most plan past) in
    omega (arith, length-map (filter (waits_to_start plan past) plan.requests) (λ (r : Req). r.number))

-- no more commands are left than there are
commands-few : (plan : Plan) (past : List Event) → commands_left plan past ≤ length plan.script.commands
unfolding commands_left
commands-few plan past =
    omega (arith, filter-within (λ order. not (is_done past order)) (enumerate_from 1 plan.script.commands), length-enumerate_from 1 plan.script.commands)

-- a list, the latest first, is what came since a position, and what was before
turned-at : (n : ℕ) (list : List Event) → reverse list ≡ reverse (drop n list) ++ reverse (take n list)
turned-at n list = ap reverse (sym (take-append-drop n list)) ∙ reverse-append (take n list) (drop n list)

-- what a run puts is as many as the requests and the commands at most
pub puts-few : (plan : Plan) (begun : ℕ) (list : List Event) → is_lawful_so_far plan (reverse list) ≡ true → occurs is_resume (drop begun list) ≡ false
    → length (puts plan begun list) ≤ length plan.requests + length plan.script.commands
unfolding puts
puts-few plan begun list lawful none =
    let past = reverse (take begun list) in
    let after = drop begun list in
    let since : is_lawful_so_far plan (reverse after ++ past) ≡ true = ap (is_lawful_so_far plan) (sym (turned-at begun list)) ∙ lawful in
    let used : length (lets_of after) + all_lets_left plan (reverse after ++ past) ≤ all_lets_left plan past = events-use plan past after since none in
    let both : length (waiting_to_start plan past ++ lets_of after) ≡ length (waiting_to_start plan past) + length (lets_of after) = length-append (waiting_to_start plan past) (lets_of after) in
    omega (arith, waiting-few plan past, commands-few plan past)

-- so the lanes have room for one more
pub puts-shorter : (plan : Plan) (begun : ℕ) (list : List Event) → is_lawful_so_far plan (reverse list) ≡ true → occurs is_resume (drop begun list) ≡ false
    → are_shorter (room_for plan) (lists_for plan (puts plan begun list)) ≡ true
puts-shorter plan begun list lawful none =
    lists_for-shorter (room_for plan) plan (puts plan begun list) (omega (arith, puts-few plan begun list lawful none))

-- the same of a list that is lawful for readings in order
pub puts-shorter-for : (plan : Plan) (readings : List Reading) (begun : ℕ) (list : List Event) → are_in_order readings ≡ true → is_lawful plan readings (reverse list) ≡ true
    → occurs is_resume (drop begun list) ≡ false → are_shorter (room_for plan) (lists_for plan (puts plan begun list)) ≡ true
puts-shorter-for plan readings begun list order lawful none =
    puts-shorter plan begun list (lawful_is_lawful_so_far plan readings (reverse list) order lawful) none
