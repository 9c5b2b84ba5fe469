-- The facts of all requests after one more event.
use Rattle.std.proofs.Common.{◌≡◌, true, List, [], ◌∷◌, map, Option, None, Some, refl, ◌∙◌, ap, sym}
use Rattle.std.specs.Prelude.{unwrap_or}
use Rattle.std.proofs.lemmas.Bool.{eqb-true}
use Rattle.conc_types.specs.declared.event.Event.{Event}
use Rattle.conc_types.specs.declared.event.Event.TheVariants as event
use Rattle.conc_types.specs.declared.event.RequestId.{RequestId}
use Rattle.conc_types.specs.declared.facts.Facts.{Facts}
use Rattle.conc_types.specs.declared.plan.Plan.{Plan}
use Rattle.conc_types.specs.declared.plan.Req.{Req}
use Rattle.conc_types.specs.declared.script.Act.{Act}
use Rattle.conc_types.specs.declared.script.Act.TheVariants as act
use Rattle.conc_types.specs.Words.{numbered, some_and}
use Rattle.conc_base_law.specs.Facts.{completion, facts_of, is_idle, runs}
use Rattle.conc_base_law.specs.Kinds.{act_of, is_cancel}
use Rattle.conc_base_law.specs.State.{facts_at, no_facts, state}
use Rattle.conc_base_law.specs.Words.{Has}
use Rattle.conc_base_law.proofs.FactsAt.{facts_at-state}
use Rattle.conc_event_effects.specs.Advance.{all_after, cancelled, named_by, named_facts}
use Rattle.conc_event_effects.specs.Step.{facts_after, idle}
use Rattle.conc_event_effects.proofs.FactSteps.{IsNamed, facts-step}

-- the facts of a request of the plan, found by its number
named_facts-own : (plan : Plan) (past : List Event) (id : RequestId) (r : Req) → Has plan.requests r → id.number ≡ r.number.number
    → named_facts (map (facts_of plan past) plan.requests) (Some id) ≡ facts_of plan past r
unfolding named_facts facts_at state
named_facts-own plan past id r has same =
    ap (λ n. unwrap_or (numbered (map (facts_of plan past) plan.requests) n) no_facts) same ∙ facts_at-state plan past r has

-- those of the request that a command cancels
named_facts-cancelled : (plan : Plan) (past : List Event) (a : Option Act) (r : Req) → Has plan.requests r
    → some_and (is_cancel r.number) a ≡ true
    → named_facts (map (facts_of plan past) plan.requests) (cancelled a) ≡ facts_of plan past r
named_facts-cancelled plan past (Some (act.Cancel q)) r has h = named_facts-own plan past q r has (eqb-true q.number r.number.number h)
named_facts-cancelled plan past None r has h = cc
named_facts-cancelled plan past (Some _) r has h = cc

-- a request can be held or cancelled where its facts say so
idle-facts_of : (plan : Plan) (past : List Event) (r : Req) → idle (facts_of plan past r) ≡ is_idle past (completion plan past) r
unfolding idle facts_of is_idle runs
idle-facts_of plan past r = refl

-- the facts that are found are those of the set that the event cancels or closes
IsNamed-found : (plan : Plan) (past : List Event) (e : Event)
    → IsNamed plan past e (named_facts (map (facts_of plan past) plan.requests) (named_by plan e))
unfolding act_of facts_of
IsNamed-found plan past (event.Command n) = record {
  cancelled = λ set has h.
      sym (idle-facts_of plan past set)
      ∙ sym (ap idle (named_facts-cancelled plan past (act_of plan (event.Command n)) set has h));
  closed = λ set has h. cc;
}
IsNamed-found plan past (event.CloseSet s o) = record {
  cancelled = λ set has h. cc;
  closed = λ set has h.
      sym (ap (λ f. f.begun.bits) (named_facts-own plan past s set has (eqb-true s.number set.number.number h)));
}
IsNamed-found plan past _ = record { cancelled = λ set has h. cc; closed = λ set has h. cc }

-- what a function makes of each request changes to what another makes of it
all_after-map : (plan : Plan) (named : Facts) (e : Event) (f g : Req → Facts) (rs : List Req)
    → ((x : Req) → facts_after plan named e x (f x) ≡ g x) → all_after plan named e rs (map f rs) ≡ map g rs
unfolding all_after
all_after-map plan named e f g [] h = refl
all_after-map plan named e f g (r ∷ rs) h =
    let a : facts_after plan named e r (f r) ≡ g r = h r in
    let b : all_after plan named e rs (map f rs) ≡ map g rs = all_after-map plan named e f g rs h in
    cc

-- all of them after one more event
pub all_facts-step : (plan : Plan) (past : List Event) (e : Event)
    → all_after plan (named_facts (map (facts_of plan past) plan.requests) (named_by plan e)) e plan.requests (map (facts_of plan past) plan.requests)
    ≡ map (facts_of plan (e ∷ past)) plan.requests
all_facts-step plan past e =
    all_after-map plan _ e (facts_of plan past) (facts_of plan (e ∷ past)) plan.requests
    (λ x. sym (facts-step plan past _ e x (IsNamed-found plan past e)))
