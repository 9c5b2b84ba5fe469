-- The facts of a request after an event of a set.
use Rattle.std.proofs.Common.{◌≡◌, ℕ, Bool, true, false, ◌&&◌, Option, None, Some, refl, ap}
use Rattle.std.specs.Prelude.{is_some}
use Rattle.std.specs.Option.{option_or}
use Rattle.conc_types.specs.declared.event.Event.TheVariants as event
use Rattle.conc_types.specs.declared.event.Outcome.{Outcome}
use Rattle.conc_types.specs.declared.event.RequestId.{RequestId}
use Rattle.conc_types.specs.declared.facts.Facts.{Facts}
use Rattle.conc_types.specs.declared.plan.Plan.{Plan}
use Rattle.conc_types.specs.declared.plan.Req.{Req}
use Rattle.conc_types.specs.declared.stage.StageSet.{StageSet}
use Rattle.conc_types.specs.Stages.{with_stage}
use Rattle.conc_base_law.specs.Kinds.{act_of}
use Rattle.conc_base_law.specs.Words.{id_eq, is_set}
use Rattle.conc_event_effects.specs.Step.{begun_after, cancelled_by, entered_after, facts_after, held_after, held_by, let_after, opened_after, outcome_by, place_after, stage_after, started_after, terminated_after, unheld_by, unlet_by}
use Rattle.conc_history_replay.specs.Changes.{opens}
use Rattle.conc_history_replay.proofs.ByKind.{and-false, or-none}

or-kept : {T : Type 0} (o p : Option T) → is_some o ≡ true → option_or o p ≡ o
or-kept None p h = cc
or-kept (Some x) p h = refl

and-turned : (a b : Bool) → (a && b) ≡ (b && a)
and-turned true true = refl
and-turned true false = refl
and-turned false true = refl
and-turned false false = refl

pub opened-own : (plan : Plan) (named : Facts) (set : RequestId) (r : Req) (own : Facts) → opens set r ≡ true
    → record own { opened = true } ≡ facts_after plan named (event.OpenSet set) r own
unfolding act_of facts_after entered_after held_after opened_after stage_after begun_after let_after place_after started_after terminated_after unlet_by held_by cancelled_by unheld_by outcome_by
opened-own plan named set r own h = rw (and-turned (is_set r.item) (id_eq set r.number), h, or-none own.outcome) refl

pub opened-not : (plan : Plan) (named : Facts) (set : RequestId) (r : Req) (own : Facts) → opens set r ≡ false
    → own ≡ facts_after plan named (event.OpenSet set) r own
unfolding act_of facts_after entered_after held_after opened_after stage_after begun_after let_after place_after started_after terminated_after unlet_by held_by cancelled_by unheld_by outcome_by
opened-not plan named set r own h = rw (and-turned (is_set r.item) (id_eq set r.number), h, or-none own.outcome) refl

pub stage-own : (plan : Plan) (named : Facts) (set : RequestId) (k : ℕ) (r : Req) (own : Facts) (b : StageSet) → id_eq set r.number ≡ true
    → b.bits ≡ with_stage own.begun.bits k → record own { stage = Some k; begun = b } ≡ facts_after plan named (event.Stage set k) r own
unfolding act_of facts_after entered_after held_after opened_after stage_after begun_after let_after place_after started_after terminated_after unlet_by held_by cancelled_by unheld_by outcome_by
stage-own plan named set k r own b h e =
    rw (h, and-false (is_set r.item), or-none own.outcome) (ap (λ (z : ℕ). record own { stage = Some k; begun = record { bits = z } }) e)

pub stage-not : (plan : Plan) (named : Facts) (set : RequestId) (k : ℕ) (r : Req) (own : Facts) → id_eq set r.number ≡ false
    → own ≡ facts_after plan named (event.Stage set k) r own
unfolding act_of facts_after entered_after held_after opened_after stage_after begun_after let_after place_after started_after terminated_after unlet_by held_by cancelled_by unheld_by outcome_by
stage-not plan named set k r own h = rw (h, and-false (is_set r.item), or-none own.outcome) refl

pub closed-own : (plan : Plan) (named : Facts) (set : RequestId) (o : Outcome) (r : Req) (own : Facts) → id_eq set r.number ≡ true
    → record own { opened = false; outcome = option_or own.outcome (Some o) } ≡ facts_after plan named (event.CloseSet set o) r own
unfolding act_of facts_after entered_after held_after opened_after stage_after begun_after let_after place_after started_after terminated_after unlet_by held_by cancelled_by unheld_by outcome_by
closed-own plan named set o r own h = rw (h, and-false (is_set r.item)) refl

pub closed-kept : (plan : Plan) (named : Facts) (set : RequestId) (o : Outcome) (r : Req) (own : Facts) → id_eq set r.number ≡ false
    → is_some own.outcome ≡ true → own ≡ facts_after plan named (event.CloseSet set o) r own
unfolding act_of facts_after entered_after held_after opened_after stage_after begun_after let_after place_after started_after terminated_after unlet_by held_by cancelled_by unheld_by
closed-kept plan named set o r own h some =
    rw (h, and-false (is_set r.item), or-kept own.outcome (outcome_by plan named r (event.CloseSet set o) own) some) refl
