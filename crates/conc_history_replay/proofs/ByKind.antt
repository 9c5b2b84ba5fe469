-- The facts of a request after one more event, by the kind of the event.
use Rattle.std.proofs.Common.{◌≡◌, ℕ, Bool, true, false, ◌&&◌, ◌||◌, ◌==◌, Option, None, Some, refl, ◌∙◌, ap}
use Rattle.std.specs.Option.{option_or}
use Rattle.conc_types.specs.declared.event.Event.{Event}
use Rattle.conc_types.specs.declared.event.Event.TheVariants as event
use Rattle.conc_types.specs.declared.event.RequestId.{RequestId}
use Rattle.conc_types.specs.declared.facts.Facts.{Facts}
use Rattle.conc_types.specs.declared.plan.Plan.{Plan}
use Rattle.conc_types.specs.declared.plan.Req.{Req}
use Rattle.conc_types.specs.declared.script.Act.{Act}
use Rattle.conc_types.specs.declared.script.Act.TheVariants as act
use Rattle.conc_types.specs.Words.{some_and}
use Rattle.conc_base_law.specs.Kinds.{act_of}
use Rattle.conc_base_law.specs.Plans.{parent}
use Rattle.conc_base_law.specs.Words.{id_eq, is_set}
use Rattle.conc_event_effects.specs.Step.{begun_after, cancelled_by, cancels_set, entered_after, facts_after, held_after, held_by, let_after, opened_after, outcome_by, place_after, stage_after, started_after, terminated_after, unheld_by, unlet_by}
use Rattle.conc_history_replay.specs.Changes.{acts, alone_after, named_alone}

pub or-none : {T : Type 0} (o : Option T) → option_or o None ≡ o
or-none None = refl
or-none (Some x) = refl

pub and-false : (b : Bool) → (b && false) ≡ false
and-false true = refl
and-false false = refl

-- ---- commands that enter requests and do nothing else

-- none is cancelled by what cancels none
never : (p : Option Req) → some_and (λ (set : Req). false) p ≡ false
never None = refl
never (Some set) = refl

pub entered-own : (plan : Plan) (named : Facts) (n : ℕ) (r : Req) (own : Facts) → acts (act_of plan (event.Command n)) ≡ false
    → facts_after plan named (event.Command n) r own ≡ record own { entered = (n == r.command) || own.entered }
unfolding facts_after entered_after held_after opened_after stage_after begun_after let_after place_after started_after terminated_after unlet_by held_by cancelled_by unheld_by cancels_set outcome_by
entered-own plan named n r own h = by (act_of plan (event.Command n)) refl h where
  by : (a : Option Act) → act_of plan (event.Command n) ≡ a → acts a ≡ false
      → facts_after plan named (event.Command n) r own ≡ record own { entered = (n == r.command) || own.entered }
  by None is quiet = rw (is, never (parent plan r), and-false (is_set r.item), or-none own.outcome) refl
  by (Some (act.Submit item user priority start domain argument)) is quiet =
      rw (is, never (parent plan r), and-false (is_set r.item), or-none own.outcome) refl
  by (Some _) is quiet = cc

-- ---- a let, a start or an end

-- what it makes of the request that it names
pub alone-own : (plan : Plan) (named : Facts) (e : Event) (id : RequestId) (r : Req) (own : Facts) → named_alone e ≡ Some id
    → id_eq id r.number ≡ true → facts_after plan named e r own ≡ alone_after e own
unfolding act_of facts_after entered_after held_after opened_after stage_after begun_after let_after place_after started_after terminated_after unlet_by held_by cancelled_by unheld_by outcome_by
alone-own plan named (event.LetOut q) id r own h same =
    let is : q ≡ id = cc in
    rw (ap (λ i. id_eq i r.number) is ∙ same, and-false (is_set r.item), or-none own.outcome) refl
alone-own plan named (event.Started q p) id r own h same =
    let is : q ≡ id = cc in
    rw (ap (λ i. id_eq i r.number) is ∙ same, and-false (is_set r.item), or-none own.outcome) refl
alone-own plan named (event.Ended q o x) id r own h same =
    let is : q ≡ id = cc in
    rw (ap (λ i. id_eq i r.number) is ∙ same, and-false (is_set r.item)) refl
alone-own plan named _ id r own h same = cc

-- ---- what a slice lends
