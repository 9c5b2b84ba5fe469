-- The numbers that stand in a queue are those of the requests that pass, so that the least is that of the first.
use Rattle.std.proofs.Common.{◌≡◌, ℕ, suc, Bool, true, false, not, ◌&&◌, ◌||◌, List, [], ◌∷◌, length, map, Option, None, Some, refl, sym, ◌∙◌, ap, inl, inr, arith}
use Rattle.std.specs.Prelude.{is_some, slice_get}
use Rattle.std.specs.Bool.{then_some}
use Rattle.std.specs.List.{find, list_any}
use Rattle.std.specs.Option.{option_and_then}
use Rattle.conc_types.specs.declared.facts.State.{State}
use Rattle.conc_types.specs.declared.plan.Plan.{Plan}
use Rattle.conc_types.specs.declared.plan.Req.{Req}
use Rattle.conc_base_law.specs.Next.{has_step, is_left_running, may_start, may_start_somewhere, runs_somewhere}
use Rattle.conc_base_law.specs.Places.{all_places}
use Rattle.conc_base_law.specs.State.{facts_at, is_running}
use Rattle.conc_base_law.specs.Words.{Has}
use Rattle.conc_event_queue.specs.Least.{least, lesser}
use Rattle.conc_event_queue.specs.Turns.{numbers_of, request_numbered}
use Rattle.conc_event_queue.proofs.Firsts.{find-least}
use Rattle.conc_event_queue.proofs.LeastOf.{least-none}
use Rattle.conc_event_queue.proofs.Maps.{request_at_place}
use Rattle.conc_history_check.specs.Kept.{IsKept}
use Rattle.conc_history_check.specs.Marks.{slot_of, waits_to_start}
use Rattle.conc_history_check.specs.declared.position.Position.{Position}

-- a list whose elements are those of a map is the map
is-map : {A B : Type 0} (f : A → B) (xs : List A) (ys : List B) → length ys ≡ length xs → ((i : ℕ) (x : A) → slice_get xs i ≡ Some x → slice_get ys i ≡ Some (f x))
    → ys ≡ map f xs
is-map f [] [] size h = refl
is-map f [] (y ∷ ys) size h = absurd (omega (arith, size))
is-map f (x ∷ xs) [] size h = absurd (omega (arith, size))
is-map {A} {B} f (x ∷ xs) (y ∷ ys) size h =
    let here : ◌≡◌ {A = Option B} (Some y) (Some (f x)) = h 0 x refl in
    let same : y ≡ f x = cc in
    ap (λ z. z ∷ ys) same ∙ ap (λ l. f x ∷ l) (is-map f xs ys (omega (arith, size)) (λ i z at. h (suc i) z at))

pub numbers-are : (plan : Plan) (test : Req → Bool) (queue : List (Option ℕ)) → length queue ≡ length plan.requests
    → ((r : Req) → Has plan.requests r → slot_of queue r ≡ Some (then_some (test r) r.number.number)) → queue ≡ numbers_of test plan.requests
unfolding numbers_of
numbers-are plan test queue size marked = is-map (λ r. then_some (test r) r.number.number) plan.requests queue size (λ i r at.
    let p = request_at_place plan i r at in
    ap (λ k. slice_get queue k) (omega (arith, p.0)) ∙ marked r p.1)

find-marked : (plan : Plan) (test : Req → Bool) (queue : List (Option ℕ)) → queue ≡ numbers_of test plan.requests
    → option_and_then (request_numbered plan) (least queue) ≡ find test plan.requests
find-marked plan test queue are = ap (λ q. option_and_then (request_numbered plan) (least q)) are ∙ sym (find-least plan test)

pub first_left : (position : Position) → IsKept position
    → option_and_then (request_numbered position.plan.now) (least position.marks.now.left) ≡ find (is_left_running position.state.now) position.plan.now.requests
first_left position kept =
    find-marked position.plan.now (is_left_running position.state.now) position.marks.now.left
    (numbers-are position.plan.now (is_left_running position.state.now) position.marks.now.left kept.marks.room.left (λ r has. (kept.marks.all r has).left))

pub first_step : (position : Position) → IsKept position
    → option_and_then (request_numbered position.plan.now) (least position.marks.now.steps) ≡ find (has_step position.plan.now position.state.now) position.plan.now.requests
first_step position kept =
    find-marked position.plan.now (has_step position.plan.now position.state.now) position.marks.now.steps
    (numbers-are position.plan.now (has_step position.plan.now position.state.now) position.marks.now.steps kept.marks.room.steps (λ r has. (kept.marks.all r has).steps))

-- ---- whether there is one

some-lesser : (a b : Option ℕ) → is_some (lesser a b) ≡ (is_some a || is_some b)
some-lesser None b = refl
some-lesser (Some x) None = refl
some-lesser (Some x) (Some y) = refl

some-then : (b : Bool) (n : ℕ) → is_some (then_some b n) ≡ b
some-then true n = refl
some-then false n = refl

any-least : (test : Req → Bool) (xs : List Req) → is_some (least (numbers_of test xs)) ≡ list_any test xs
unfolding least numbers_of
any-least test [] = refl
any-least test (x ∷ xs) =
    some-lesser (then_some (test x) x.number.number) (least (numbers_of test xs))
    ∙ ap (λ b. b || is_some (least (numbers_of test xs))) (some-then (test x) x.number.number)
    ∙ ap (λ b. test x || b) (any-least test xs)

pub any_running : (position : Position) → IsKept position
    → is_some (least position.marks.now.running) ≡ list_any (runs_somewhere position.state.now) position.plan.now.requests
any_running position kept =
    ap (λ q. is_some (least q)) (numbers-are position.plan.now (runs_somewhere position.state.now) position.marks.now.running kept.marks.room.running (λ r has. (kept.marks.all r has).running))
    ∙ any-least (runs_somewhere position.state.now) position.plan.now.requests

-- ---- where none waits to start

any-never : {T : Type 0} (test : T → Bool) (xs : List T) → ((x : T) → test x ≡ false) → list_any test xs ≡ false
any-never test [] h = refl
any-never test (x ∷ xs) h = rw (h x) (any-never test xs h)

any-not : {T : Type 0} (test : T → Bool) (xs : List T) → ((x : T) → Has xs x → test x ≡ false) → list_any test xs ≡ false
any-not test [] h = refl
any-not test (x ∷ xs) h = rw (h x (inl refl)) (any-not test xs (λ y has. h y (inr has)))

waits-not : (let_out running rest : Bool) → (let_out && not running) ≡ false → (let_out && (not running && rest)) ≡ false
waits-not false running rest h = refl
waits-not true true rest h = refl
waits-not true false rest h = cc

starts-not : (plan : Plan) (s : State) (r : Req) → waits_to_start s r ≡ false → may_start_somewhere plan s r ≡ false
unfolding waits_to_start may_start may_start_somewhere
starts-not plan s r h = any-never (may_start plan s r) (all_places plan) (λ place. waits-not (facts_at s r).let_out (is_running (facts_at s r)) _ h)

none-some : (o : Option ℕ) → is_some o ≡ false → o ≡ None
none-some None h = refl
none-some (Some n) h = cc

pub none_waits : (position : Position) → IsKept position → is_some (least position.marks.now.waiting) ≡ false
    → list_any (may_start_somewhere position.plan.now position.state.now) position.plan.now.requests ≡ false
unfolding numbers_of
none_waits position kept none =
    let plan = position.plan.now in let s = position.state.now in
    let are : position.marks.now.waiting ≡ numbers_of (waits_to_start s) plan.requests =
    numbers-are plan (waits_to_start s) position.marks.now.waiting kept.marks.room.waiting (λ r has. (kept.marks.all r has).waiting) in
    any-not (may_start_somewhere plan s) plan.requests (λ r has. starts-not plan s r
    (least-none (waits_to_start s) (λ q. q.number.number) plan.requests (ap least (sym are) ∙ none-some (least position.marks.now.waiting) none) r has))
