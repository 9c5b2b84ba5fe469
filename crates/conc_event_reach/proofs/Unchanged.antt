-- An event leaves the facts of each request that it is not about as they are.
use Rattle.std.proofs.Common.{◌≡◌, ℕ, Bool, true, false, ◌&&◌, Option, None, Some, refl, sym, ◌∙◌, ap, inl, inr}
use Rattle.std.specs.Prelude.{◌==◌}
use Rattle.std.specs.Option.{option_and_then, option_or}
use Rattle.std.proofs.lemmas.Bool.{both_ways, cases_Bool, or_parts}
use Rattle.conc_types.specs.declared.event.Event.{Event}
use Rattle.conc_types.specs.declared.event.Event.TheVariants as event
use Rattle.conc_types.specs.declared.event.RequestId.{RequestId}
use Rattle.conc_types.specs.declared.facts.Facts.{Facts}
use Rattle.conc_types.specs.declared.plan.Plan.{Plan}
use Rattle.conc_types.specs.declared.plan.Req.{Req}
use Rattle.conc_types.specs.declared.script.Act.{Act}
use Rattle.conc_types.specs.declared.script.Act.TheVariants as act
use Rattle.conc_types.specs.Plans.{request}
use Rattle.conc_types.specs.Words.{some_and}
use Rattle.conc_base_law.specs.Kinds.{act_of, is_cancel, is_hold, is_terminate, is_unhold}
use Rattle.conc_base_law.specs.Plans.{parent}
use Rattle.conc_base_law.specs.Words.{id_eq, is_set}
use Rattle.conc_base_law.proofs.Numbering.{found}
use Rattle.conc_event_effects.specs.Step.{begun_after, cancelled_by, cancels_set, entered_after, facts_after, held_after, held_by, let_after, opened_after, outcome_by, place_after, stage_after, started_after, terminated_after, unheld_by, unlet_by}
use Rattle.conc_event_reach.specs.Reach.{IsAround, is_about, is_acted_on}
use Rattle.conc_event_reach.specs.Spans.{LeavesOthers}
use Rattle.conc_event_reach.specs.declared.span.Span.{Span}

or-none : {T : Type 0} (o : Option T) → option_or o None ≡ o
or-none None = refl
or-none (Some x) = refl

and-false : (b : Bool) → (b && false) ≡ false
and-false true = refl
and-false false = refl

-- ---- what is done to another request is not done to r

no-hold : (a : Option Act) (r : Req) → is_acted_on a r ≡ false → some_and (is_hold r.number) a ≡ false
unfolding is_acted_on
no-hold (Some (act.Hold q)) r h = h
no-hold None r h = refl
no-hold (Some _) r h = refl

no-unhold : (a : Option Act) (r : Req) → is_acted_on a r ≡ false → some_and (is_unhold r.number) a ≡ false
unfolding is_acted_on
no-unhold (Some (act.Unhold q)) r h = h
no-unhold None r h = refl
no-unhold (Some _) r h = refl

no-terminate : (a : Option Act) (r : Req) → is_acted_on a r ≡ false → some_and (is_terminate r.number) a ≡ false
unfolding is_acted_on
no-terminate (Some (act.Terminate q)) r h = h
no-terminate None r h = refl
no-terminate (Some _) r h = refl

no-cancel : (a : Option Act) (r : Req) → is_acted_on a r ≡ false → some_and (is_cancel r.number) a ≡ false
unfolding is_acted_on
no-cancel (Some (act.Cancel q)) r h = (or_parts (id_eq q r.number) (some_and (id_eq q) r.parent) h).0
no-cancel None r h = refl
no-cancel (Some _) r h = refl

-- the set of a parent's number is not cancelled where the parent is not
no-cancel-at : (plan : Plan) (q : RequestId) (id : Option RequestId) → some_and (id_eq q) id ≡ false
    → some_and (λ (set : Req). id_eq q set.number) (option_and_then (request plan) id) ≡ false
no-cancel-at plan q None h = refl
no-cancel-at plan q (Some id) h = by (request plan id) refl where
  by : (p : Option Req) → request plan id ≡ p → some_and (λ (set : Req). id_eq q set.number) p ≡ false
  by None is = refl
  by (Some set) is = ap (λ n. q.number == n) (found plan id set is).0 ∙ h

no-cancel-set : (plan : Plan) (a : Option Act) (r : Req) → is_acted_on a r ≡ false
    → some_and (λ (set : Req). some_and (is_cancel set.number) a) (parent plan r) ≡ false
unfolding is_acted_on parent
no-cancel-set plan (Some (act.Cancel q)) r h =
    no-cancel-at plan q r.parent (or_parts (id_eq q r.number) (some_and (id_eq q) r.parent) h).1
no-cancel-set plan None r h = never (option_and_then (request plan) r.parent) where
  never : (p : Option Req) → some_and (λ (set : Req). false) p ≡ false
  never None = refl
  never (Some set) = refl
no-cancel-set plan (Some _) r h = never (option_and_then (request plan) r.parent) where
  never : (p : Option Req) → some_and (λ (set : Req). false) p ≡ false
  never None = refl
  never (Some set) = refl

-- ---- so its facts stay

unchanged-command : (plan : Plan) (named : Facts) (n : ℕ) (r : Req) (own : Facts)
    → (n == r.command) ≡ false → is_acted_on (act_of plan (event.Command n)) r ≡ false
    → facts_after plan named (event.Command n) r own ≡ own
unfolding facts_after entered_after held_after opened_after stage_after begun_after let_after place_after started_after terminated_after unlet_by held_by cancelled_by unheld_by cancels_set outcome_by
unchanged-command plan named n r own entered acted =
    rw (
      entered,
      no-hold (act_of plan (event.Command n)) r acted,
      no-unhold (act_of plan (event.Command n)) r acted,
      no-terminate (act_of plan (event.Command n)) r acted,
      no-cancel (act_of plan (event.Command n)) r acted,
      no-cancel-set plan (act_of plan (event.Command n)) r acted,
      and-false (is_set r.item),
      or-none own.outcome,
    ) refl

-- the facts of a request that the event is not about
unchanged : (plan : Plan) (named : Facts) (e : Event) (r : Req) (own : Facts) → is_about plan e r ≡ false
    → facts_after plan named e r own ≡ own
unfolding is_about act_of facts_after entered_after held_after opened_after stage_after begun_after let_after place_after started_after terminated_after unlet_by held_by cancelled_by unheld_by outcome_by
unchanged plan named (event.Tick t) r own h = rw (and-false (is_set r.item), or-none own.outcome) refl
unchanged plan named (event.Command n) r own h =
    let p : ((n == r.command) ≡ false) × (is_acted_on (act_of plan (event.Command n)) r ≡ false) = or_parts _ _ h in
    unchanged-command plan named n r own p.0 p.1
unchanged plan named (event.OpenSet s) r own h = rw (h, and-false (is_set r.item), or-none own.outcome) refl
unchanged plan named (event.Stage s k) r own h = rw (h, and-false (is_set r.item), or-none own.outcome) refl
unchanged plan named (event.CloseSet s o) r own h =
    let p : (id_eq s r.number ≡ false) × (some_and (id_eq s) r.parent ≡ false) = or_parts _ _ h in
    rw (p.0, p.1, and-false (is_set r.item), or-none own.outcome) refl
unchanged plan named (event.LetOut q) r own h = rw (h, and-false (is_set r.item), or-none own.outcome) refl
unchanged plan named (event.Started q p) r own h = rw (h, and-false (is_set r.item), or-none own.outcome) refl
unchanged plan named (event.Ended q o x) r own h = rw (h, and-false (is_set r.item), or-none own.outcome) refl
unchanged plan named event.Resume r own h = absurd (both_ways true h refl)
unchanged plan named (event.Interrupt q) r own h = rw (h, and-false (is_set r.item), or-none own.outcome) refl

-- a resume changes nothing of a request that was not started in the life that ends
pub unchanged-resume : (plan : Plan) (named : Facts) (r : Req) (own : Facts) → own.started ≡ false → facts_after plan named event.Resume r own ≡ own
unfolding act_of facts_after entered_after held_after opened_after stage_after begun_after let_after place_after started_after terminated_after unlet_by held_by cancelled_by unheld_by outcome_by
unchanged-resume plan named r own none =
    rw (and-false (is_set r.item), or-none own.outcome) (ap (λ (b : Bool). record own { started = b }) (sym none))

-- an event leaves those outside a span around all that it is about
leaves-outside : (plan : Plan) (e : Event) (span : Span) → IsAround plan (is_about plan e) span → LeavesOthers plan e span
leaves-outside plan e span around i r at out named own =
    elim (cases_Bool (is_about plan e r)) [
      | inl t ↦ absurd (both_ways _ out (around.all i r at t))
      | inr f ↦ unchanged plan named e r own f
    ]

-- the same of an event that is known
pub leaves_others : (plan : Plan) (e known : Event) (span : Span) → e ≡ known → IsAround plan (is_about plan known) span → LeavesOthers plan e span
leaves_others plan e known span is around = rw is (leaves-outside plan known span around)
