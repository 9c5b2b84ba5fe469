-- Each event but a resume lowers the bound on the events that a life still has.
use Rattle.std.proofs.Common.{◌≡◌, ℕ, suc, ◌+◌, ◌-◌, ◌*◌, ◌<◌, ◌≤◌, Bool, true, false, not, List, ◌∷◌, length, Option, Some, refl, sym, ◌∙◌, ap, subst, inl, inr, arith}
use Rattle.std.specs.List.{enumerate_from, sum_by}
use Rattle.std.specs.Option.{option_map}
use Rattle.std.proofs.Math.Nat.{mul-le-mul_right, suc-mul}
use Rattle.std.proofs.lemmas.Bool.{cases_Bool, eq-eqb, not-true, not_from_false, not_from_true, or_left, or_parts}
use Rattle.std.proofs.lemmas.Option.{slice_get_within}
use Rattle.conc_types.specs.declared.event.Event.{Event}
use Rattle.conc_types.specs.declared.event.Event.TheVariants as event
use Rattle.conc_types.specs.declared.event.Extent.{Extent}
use Rattle.conc_types.specs.declared.event.Moment.{Moment}
use Rattle.conc_types.specs.declared.event.Outcome.{Outcome}
use Rattle.conc_types.specs.declared.event.PlaceId.{PlaceId}
use Rattle.conc_types.specs.declared.event.RequestId.{RequestId}
use Rattle.conc_types.specs.declared.plan.Plan.{Plan}
use Rattle.conc_types.specs.declared.plan.Req.{Req}
use Rattle.conc_types.specs.declared.script.Order.{Order}
use Rattle.conc_types.specs.declared.script.Reading.{Reading}
use Rattle.conc_types.specs.Plans.{request}
use Rattle.conc_types.specs.Words.{some_and}
use Rattle.conc_base_law.specs.Facts.{facts_of}
use Rattle.conc_base_law.specs.Kinds.{is_command, is_resume}
use Rattle.conc_base_law.specs.Law.{is_lawful_so_far, may_follow}
use Rattle.conc_base_law.specs.Next.{is_allowed, may_end, may_start}
use Rattle.conc_base_law.specs.Before.{earlier_lives, last_life}
use Rattle.conc_base_law.specs.Readings.{life_readings, next_reading, ticks}
use Rattle.conc_base_law.specs.Remaining.{commands_left, remaining}
use Rattle.conc_base_law.specs.State.{is_done, state}
use Rattle.conc_base_law.specs.Words.{Has, id_eq}
use Rattle.conc_base_law.proofs.Comes.{close_comes, comes_allowed, let_comes, Lettable, open_comes, Opened, stage_comes}
use Rattle.conc_base_law.proofs.Completed.{let_no_set}
use Rattle.conc_base_law.proofs.Due.{command_undone, IsUndone}
use Rattle.conc_base_law.proofs.EqualEvents.{id_same}
use Rattle.conc_base_law.proofs.LawfulSoFar.{IsRead, tick_read}
use Rattle.conc_base_law.proofs.Numbering.{found}
use Rattle.conc_base_law.proofs.Options.{some_and-some}
use Rattle.conc_base_law.proofs.Others.{command_lets_not, does, is_about, others_kept, others_let}
use Rattle.conc_base_law.proofs.SetsUseUp.{close_less, open_less, stage_less}
use Rattle.conc_base_law.proofs.Stops.{interrupt_comes, LeftRunning}
use Rattle.conc_base_law.proofs.Sums.{filter-less, sum_by-below, sum_by-grows, sum_by-less}
use Rattle.conc_base_law.proofs.UsesUp.{end_less, facts-let, interrupt_less, left, let_less, start_less}
use Rattle.conc_base_law.proofs.Weights.{left-kept, left-unlet}

-- ---- the request that an event is about

-- it has fewer events left
about_less : (plan : Plan) (readings : Option (List Reading)) (past : List Event) (r : Req) (e : Event) → Has plan.requests r → is_lawful_so_far plan past ≡ true
    → may_follow plan readings past e ≡ true → is_about r.number e ≡ true → left plan (e ∷ past) r < left plan past r
about_less plan readings past r (event.OpenSet s) hr lawful m h =
    subst (λ z. may_follow plan readings past (event.OpenSet z) ≡ true → left plan (event.OpenSet z ∷ past) r < left plan past r) (sym (id_same s r.number h)) (open_less plan readings past r hr lawful) m
about_less plan readings past r (event.Stage s k) hr lawful m h =
    subst (λ z. may_follow plan readings past (event.Stage z k) ≡ true → left plan (event.Stage z k ∷ past) r < left plan past r) (sym (id_same s r.number h)) (stage_less plan readings past r k hr lawful) m
about_less plan readings past r (event.CloseSet s o) hr lawful m h =
    subst (λ z. may_follow plan readings past (event.CloseSet z o) ≡ true → left plan (event.CloseSet z o ∷ past) r < left plan past r) (sym (id_same s r.number h)) (close_less plan readings past r o hr lawful) m
about_less plan readings past r (event.LetOut q) hr lawful m h =
    subst (λ z. may_follow plan readings past (event.LetOut z) ≡ true → left plan (event.LetOut z ∷ past) r < left plan past r) (sym (id_same q r.number h)) (let_less plan readings past r hr lawful) m
about_less plan readings past r (event.Started q p) hr lawful m h =
    subst (λ z. may_follow plan readings past (event.Started z p) ≡ true → left plan (event.Started z p ∷ past) r < left plan past r) (sym (id_same q r.number h)) (start_less plan readings past r p hr lawful) m
about_less plan readings past r (event.Ended q o x) hr lawful m h =
    subst (λ z. may_follow plan readings past (event.Ended z o x) ≡ true → left plan (event.Ended z o x ∷ past) r < left plan past r) (sym (id_same q r.number h)) (end_less plan readings past r o x hr lawful) m
about_less plan readings past r (event.Interrupt q) hr lawful m h =
    subst (λ z. may_follow plan readings past (event.Interrupt z) ≡ true → left plan (event.Interrupt z ∷ past) r < left plan past r) (sym (id_same q r.number h)) (interrupt_less plan readings past r hr lawful) m
about_less plan readings past r (event.Tick t) hr lawful m h = cc
about_less plan readings past r (event.Command n) hr lawful m h = cc
about_less plan readings past r event.Resume hr lawful m h = cc

-- the event is about a request of the plan
abbrev pub IsAboutOne : Plan → Event → Type 0
IsAboutOne plan e = (r : Req) × Has plan.requests r × (is_about r.number e ≡ true)

-- equal numbers pass the test
same_id : (a b : RequestId) → b ≡ a → id_eq a b ≡ true
same_id a b h = eq-eqb _ _ (ap (λ n. n.number) (sym h))

-- a start is about a request of the plan
start_about : (plan : Plan) (readings : Option (List Reading)) (past : List Event) (id : RequestId) (p : PlaceId) → may_follow plan readings past (event.Started id p) ≡ true
    → IsAboutOne plan (event.Started id p)
unfolding may_follow is_allowed
start_about plan readings past id p h =
    let s = state plan past in
    let allowed : some_and (λ q. may_start plan s q p) (request plan id) ≡ true =
    (comes_allowed plan s (option_map (λ known. next_reading known past) readings) (event.Started id p) refl refl h).1 in
    let q : (q : Req) × (request plan id ≡ Some q) × (may_start plan s q p ≡ true) = some_and-some (λ q. may_start plan s q p) (request plan id) allowed in
    let f : (q.0.number.number ≡ id.number) × Has plan.requests q.0 = found plan id q.0 q.1 in
    (q.0, f.1, eq-eqb _ _ (sym f.0))

-- an end is
pub end_about : (plan : Plan) (readings : Option (List Reading)) (past : List Event) (id : RequestId) (o : Outcome) (x : Option Extent) → may_follow plan readings past (event.Ended id o x) ≡ true
    → IsAboutOne plan (event.Ended id o x)
unfolding may_follow is_allowed
end_about plan readings past id o x h =
    let s = state plan past in
    let allowed : some_and (λ q. may_end s q o x) (request plan id) ≡ true =
    (comes_allowed plan s (option_map (λ known. next_reading known past) readings) (event.Ended id o x) refl refl h).1 in
    let q : (q : Req) × (request plan id ≡ Some q) × (may_end s q o x ≡ true) = some_and-some (λ q. may_end s q o x) (request plan id) allowed in
    let f : (q.0.number.number ≡ id.number) × Has plan.requests q.0 = found plan id q.0 q.1 in
    (q.0, f.1, eq-eqb _ _ (sym f.0))

-- the event is about some request
abbrev pub is_about_any : Event → Bool
is_about_any (event.Tick t) = false
is_about_any (event.Command n) = false
is_about_any event.Resume = false
is_about_any _ = true

-- each of these events is about a request of the plan
pub about_one : (plan : Plan) (readings : Option (List Reading)) (past : List Event) (e : Event) → may_follow plan readings past e ≡ true → is_about_any e ≡ true → IsAboutOne plan e
about_one plan readings past (event.OpenSet s) m h =
    let l : Lettable plan (state plan past) s true = open_comes plan readings past s m in (l.req, l.element, same_id s l.req.number l.number)
about_one plan readings past (event.Stage s k) m h =
    let l : Opened plan (state plan past) s = stage_comes plan readings past s k m in (l.req, l.element, same_id s l.req.number l.number)
about_one plan readings past (event.CloseSet s o) m h =
    let l : Opened plan (state plan past) s = close_comes plan readings past s o m in (l.req, l.element, same_id s l.req.number l.number)
about_one plan readings past (event.LetOut q) m h =
    let l : Lettable plan (state plan past) q false = let_comes plan readings past q m in (l.req, l.element, same_id q l.req.number l.number)
about_one plan readings past (event.Started q p) m h = start_about plan readings past q p m
about_one plan readings past (event.Ended q o x) m h = end_about plan readings past q o x m
about_one plan readings past (event.Interrupt q) m h =
    let l : LeftRunning plan (state plan past) q = interrupt_comes plan readings past q m in (l.req, l.element, same_id q l.req.number l.number)
about_one plan readings past (event.Tick t) m h = cc
about_one plan readings past (event.Command n) m h = cc
about_one plan readings past event.Resume m h = cc

-- ---- all requests

-- the bound of all requests together
abbrev all_left : Plan → List Event → ℕ
all_left plan past = sum_by (left plan past) plan.requests

-- an event keeps or lowers the bound of each request, unless it does a command
each_below : (plan : Plan) (readings : Option (List Reading)) (past : List Event) (r : Req) (e : Event) → Has plan.requests r → is_lawful_so_far plan past ≡ true
    → may_follow plan readings past e ≡ true → is_resume e ≡ false → does e ≡ false → left plan (e ∷ past) r ≤ left plan past r
each_below plan readings past r e hr lawful m n d = elim (cases_Bool (is_about r.number e)) [
  | inl h ↦ omega (arith, about_less plan readings past r e hr lawful m h)
  | inr h ↦
      left-kept r (facts_of plan past r) (facts_of plan (e ∷ past) r) (others_kept plan past r e n h)
      (facts-let plan (e ∷ past) r ∙ (others_let plan past r e d h ∙ sym (facts-let plan past r)))
]

-- so it does not raise that of all
all_below : (plan : Plan) (readings : Option (List Reading)) (past : List Event) (e : Event) → is_lawful_so_far plan past ≡ true
    → may_follow plan readings past e ≡ true → is_resume e ≡ false → does e ≡ false → all_left plan (e ∷ past) ≤ all_left plan past
all_below plan readings past e lawful m n d =
    sum_by-below (left plan (e ∷ past)) (left plan past) plan.requests (λ r hr. each_below plan readings past r e hr lawful m n d)

-- and lowers it if it is about a request
all_less : (plan : Plan) (readings : Option (List Reading)) (past : List Event) (e : Event) → is_lawful_so_far plan past ≡ true
    → may_follow plan readings past e ≡ true → is_resume e ≡ false → does e ≡ false → is_about_any e ≡ true → all_left plan (e ∷ past) < all_left plan past
all_less plan readings past e lawful m n d h =
    let p : IsAboutOne plan e = about_one plan readings past e m h in
    sum_by-less (left plan (e ∷ past)) (left plan past) plan.requests p.0 p.1 (about_less plan readings past p.0 e p.1 lawful m p.2)
    (λ r hr. each_below plan readings past r e hr lawful m n d)

-- a command raises it by one for each request at most
all_grow : (plan : Plan) (past : List Event) (n : ℕ) → is_lawful_so_far plan past ≡ true → all_left plan (event.Command n ∷ past) ≤ all_left plan past + length plan.requests
all_grow plan past n lawful =
    sum_by-grows (left plan (event.Command n ∷ past)) (left plan past) plan.requests (λ r hr.
    left-unlet r (facts_of plan past r) (facts_of plan (event.Command n ∷ past) r) (others_kept plan past r (event.Command n) refl refl)
    (λ l. facts-let plan past r ∙ command_lets_not plan past r n (sym (facts-let plan (event.Command n ∷ past) r) ∙ l))
    (λ l. let_no_set plan past r hr lawful (sym (facts-let plan past r) ∙ l)))

-- ---- commands and readings

-- an event that does no command leaves as many to do
pub commands_left-kept : (plan : Plan) (past : List Event) (e : Event) → does e ≡ false → commands_left plan (e ∷ past) ≡ commands_left plan past
unfolding commands_left is_done
commands_left-kept plan past (event.Command n) h = cc
commands_left-kept plan past _ h = refl

-- what is done stays so
done-more : (past : List Event) (e : Event) (order : ℕ × Order) → not (is_done (e ∷ past) order) ≡ true → not (is_done past order) ≡ true
unfolding is_done
done-more past e order h = not_from_false _ (or_parts (is_command order.0 e) _ (not-true _ h)).1

-- a command is done after its event
done-command : (past : List Event) (order : ℕ × Order) (n : ℕ) → order.0 ≡ n → is_done (event.Command n ∷ past) order ≡ true
unfolding is_done
done-command past order n h = or_left _ _ (eq-eqb _ _ (sym h))

-- a command leaves fewer to do
pub commands_left-less : (plan : Plan) (readings : Option (List Reading)) (past : List Event) (n : ℕ) → may_follow plan readings past (event.Command n) ≡ true
    → commands_left plan (event.Command n ∷ past) < commands_left plan past
unfolding commands_left
commands_left-less plan readings past n m =
    let u : IsUndone plan past n = command_undone plan readings past n m in
    filter-less (λ order. not (is_done (event.Command n ∷ past) order)) (λ order. not (is_done past order)) (enumerate_from 1 plan.script.commands) u.order u.element
    (not_from_true _ (done-command past u.order n u.number)) (not_from_false _ u.undone) (λ order h. done-more past (event.Command n) order h)

-- how many readings are left
abbrev pub readings_left : List Reading → List Event → ℕ
readings_left readings past = length (life_readings readings past) - ticks past

-- the event is a tick
abbrev pub is_tick : Event → Bool
is_tick (event.Tick t) = true
is_tick _ = false

-- an event that is no tick leaves as many
pub readings_left-kept : (readings : List Reading) (past : List Event) (e : Event) → is_resume e ≡ false → is_tick e ≡ false → readings_left readings (e ∷ past) ≡ readings_left readings past
unfolding life_readings ticks earlier_lives last_life
readings_left-kept readings past (event.Tick t) n h = cc
readings_left-kept readings past event.Resume n h = cc
readings_left-kept readings past _ n h = refl

-- a tick leaves the readings of the life, and takes one
tick_takes : (readings : List Reading) (past : List Event) (t : Moment)
    → (length (life_readings readings (event.Tick t ∷ past)) ≡ length (life_readings readings past)) × (ticks (event.Tick t ∷ past) ≡ suc (ticks past))
unfolding life_readings ticks earlier_lives last_life
tick_takes readings past t = (refl, refl)

-- a tick leaves fewer
pub readings_left-less : (plan : Plan) (readings : List Reading) (past : List Event) (t : Moment) → may_follow plan (Some readings) past (event.Tick t) ≡ true
    → readings_left readings (event.Tick t ∷ past) < readings_left readings past
unfolding next_reading
readings_left-less plan readings past t m =
    let p : IsRead plan readings past t = tick_read plan readings past t m in
    let within : ticks past < length (life_readings readings past) = slice_get_within (life_readings readings past) (ticks past) p.0 p.1 in
    omega (arith, tick_takes readings past t, within)

-- ---- together

-- the bound of the requests falls, and nothing rises
less_by_requests : (a b c d e f k : ℕ) → a < b → c ≡ d → e ≡ f → a + c * k + e < b + d * k + f
less_by_requests a b c d e f k less commands readings =
    let p : c * k ≡ d * k = ap (λ n. n * k) commands in
    omega arith

-- a reading is taken, and nothing rises
less_by_reading : (a b c d e f k : ℕ) → a ≤ b → c ≡ d → e < f → a + c * k + e < b + d * k + f
less_by_reading a b c d e f k requests commands less =
    let p : c * k ≡ d * k = ap (λ n. n * k) commands in
    omega arith

-- the commands that are left outweigh what the requests gain
less_by_command : (a b c d e f k : ℕ) → a ≤ b + k → c < d → e ≡ f → a + c * (1 + k) + e < b + d * (1 + k) + f
less_by_command a b c d e f k requests less readings =
    let p : suc c * (1 + k) ≤ d * (1 + k) = mul-le-mul_right (1 + k) (omega arith) in
    let q : suc c * (1 + k) ≡ c * (1 + k) + (1 + k) = suc-mul c (1 + k) in
    omega arith

-- an event about a request lowers the bound
about_any_less : (plan : Plan) (readings : List Reading) (past : List Event) (e : Event) → is_lawful_so_far plan past ≡ true → may_follow plan (Some readings) past e ≡ true
    → is_resume e ≡ false → does e ≡ false → is_about_any e ≡ true → is_tick e ≡ false → remaining plan readings (e ∷ past) < remaining plan readings past
unfolding remaining
about_any_less plan readings past e lawful m n d h t =
    less_by_requests (all_left plan (e ∷ past)) (all_left plan past) (commands_left plan (e ∷ past)) (commands_left plan past)
    (readings_left readings (e ∷ past)) (readings_left readings past) (1 + length plan.requests)
    (all_less plan (Some readings) past e lawful m n d h) (commands_left-kept plan past e d) (readings_left-kept readings past e n t)

-- a tick does
tick_less : (plan : Plan) (readings : List Reading) (past : List Event) (t : Moment) → is_lawful_so_far plan past ≡ true → may_follow plan (Some readings) past (event.Tick t) ≡ true
    → remaining plan readings (event.Tick t ∷ past) < remaining plan readings past
unfolding remaining
tick_less plan readings past t lawful m =
    let next = event.Tick t ∷ past in
    less_by_reading (all_left plan next) (all_left plan past) (commands_left plan next) (commands_left plan past)
    (readings_left readings next) (readings_left readings past) (1 + length plan.requests)
    (all_below plan (Some readings) past (event.Tick t) lawful m refl refl) (commands_left-kept plan past (event.Tick t) refl) (readings_left-less plan readings past t m)

-- a command does
command_less : (plan : Plan) (readings : List Reading) (past : List Event) (n : ℕ) → is_lawful_so_far plan past ≡ true → may_follow plan (Some readings) past (event.Command n) ≡ true
    → remaining plan readings (event.Command n ∷ past) < remaining plan readings past
unfolding remaining
command_less plan readings past n lawful m =
    let next = event.Command n ∷ past in
    less_by_command (all_left plan next) (all_left plan past) (commands_left plan next) (commands_left plan past)
    (readings_left readings next) (readings_left readings past) (length plan.requests)
    (all_grow plan past n lawful) (commands_left-less plan (Some readings) past n m) (readings_left-kept readings past (event.Command n) refl refl)

-- each event but a resume lowers the bound
pub remaining_less : (plan : Plan) (readings : List Reading) (past : List Event) (e : Event) → is_lawful_so_far plan past ≡ true
    → may_follow plan (Some readings) past e ≡ true → is_resume e ≡ false → remaining plan readings (e ∷ past) < remaining plan readings past
remaining_less plan readings past (event.Tick t) lawful m n = tick_less plan readings past t lawful m
remaining_less plan readings past (event.Command k) lawful m n = command_less plan readings past k lawful m
remaining_less plan readings past event.Resume lawful m n = cc
remaining_less plan readings past e lawful m n = about_any_less plan readings past e lawful m refl refl refl refl
