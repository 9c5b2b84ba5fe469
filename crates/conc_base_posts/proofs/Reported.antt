-- Each end that a run without workers adds tells what the report of its request says at its last start.
use Rattle.std.proofs.Common.{◌≡◌, ℕ, Bool, true, false, List, length, reverse, take, Option, None, Some, if◌then◌else◌, sym, ◌∙◌, ap, inl, inr}
use Rattle.std.specs.Bool.{then_some}
use Rattle.std.specs.List.{find}
use Rattle.std.specs.Option.{option_and_then, option_map}
use Rattle.std.proofs.lemmas.Option.{slice_get_within}
use Rattle.conc_types.specs.declared.event.Event.{Event}
use Rattle.conc_types.specs.declared.event.Event.TheVariants as event
use Rattle.conc_types.specs.declared.event.Extent.{Extent}
use Rattle.conc_types.specs.declared.event.Outcome.{Outcome}
use Rattle.conc_types.specs.declared.event.Outcome.TheVariants as outcome
use Rattle.conc_types.specs.declared.event.PlaceId.{PlaceId}
use Rattle.conc_types.specs.declared.event.RequestId.{RequestId}
use Rattle.conc_types.specs.declared.facts.State.{State}
use Rattle.conc_types.specs.declared.plan.Plan.{Plan}
use Rattle.conc_types.specs.declared.plan.Req.{Req}
use Rattle.conc_types.specs.declared.script.Reading.{Reading}
use Rattle.conc_types.specs.Words.{none_or}
use Rattle.conc_base_law.specs.Alone.{end_with, first_start, next_tick, opening, start_of}
use Rattle.conc_base_law.specs.Next.{forced, may_start, may_start_somewhere, may_take, runs_somewhere}
use Rattle.conc_base_law.specs.Places.{all_places}
use Rattle.conc_base_law.specs.Plans.{precedes}
use Rattle.conc_base_law.specs.Readings.{next_reading}
use Rattle.conc_base_law.specs.State.{facts_at, is_stopping, state}
use Rattle.conc_base_law.specs.Words.{first_by}
use Rattle.conc_base_law.proofs.ForcedKinds.{forced_kind, is_forced_kind}
use Rattle.conc_base_law.proofs.Options.{and_then-some, map-some, or-some, then_some-some}
use Rattle.conc_base_posts.specs.Alone.{Alone, choice, end_of, first_end, next_alone}
use Rattle.conc_base_posts.specs.Ends.{AreReported, IsReported}
use Rattle.conc_base_posts.specs.Positions.{last_report}
use Rattle.conc_base_posts.specs.Posts.{Booked}

-- ---- the end of a request that runs

-- the end of a request with an extent is that of its report
end_reported : (plan : Plan) (past : List Event) (s : State) (r : Req) (id : RequestId) (o : Outcome) (x : Extent) → (stop : Bool)
    → (if stop then Some (event.Ended r.number outcome.Terminated None) else option_and_then (λ made. option_map (end_with r made.report) s.used) (last_report plan past r.number))
    ≡ Some (event.Ended id o (Some x))
    → IsReported plan past id o x
end_reported plan past s r id o x true h = let k : event.Ended r.number outcome.Terminated None ≡ event.Ended id o (Some x) = cc in cc
end_reported plan past s r id o x false h =
    let p : (made : Booked) × (last_report plan past r.number ≡ Some made) × (option_map (end_with r made.report) s.used ≡ Some (event.Ended id o (Some x))) =
    and_then-some (λ made. option_map (end_with r made.report) s.used) (last_report plan past r.number) _ h in
    let q : (offset : ℕ) × (s.used ≡ Some offset) × (end_with r p.0.report offset ≡ event.Ended id o (Some x)) = map-some (end_with r p.0.report) s.used _ p.2 in
    let y : Extent = record { offset = q.0; length = length p.0.report.text } in
    let e : event.Ended r.number p.0.report.outcome (Some y) ≡ event.Ended id o (Some x) = q.2 in
    let n : r.number ≡ id = cc in
    let k : p.0.report.outcome ≡ o = cc in
    let z : y ≡ x = cc in
    record {
      made = p.0;
      report = ap (last_report plan past) (sym n) ∙ p.1;
      same_outcome = sym k;
      same_length = ap (λ w. w.length) (sym z);
    }

-- the end of the request that runs is that of its report
first_end_reported : (plan : Plan) (past : List Event) (s : State) (id : RequestId) (o : Outcome) (x : Extent) → first_end plan past s ≡ Some (event.Ended id o (Some x))
    → IsReported plan past id o x
unfolding first_end
first_end_reported plan past s id o x h =
    let p : (r : Req) × (find (runs_somewhere s) plan.requests ≡ Some r) × (end_of plan past s r ≡ Some (event.Ended id o (Some x))) =
    and_then-some (end_of plan past s) (find (runs_somewhere s) plan.requests) _ h in
    end_reported plan past s p.0 id o x (is_stopping (facts_at s p.0)) p.2

-- ---- nothing else is an end

-- no forced event is an end
forced_no_end : (plan : Plan) (s : State) (id : RequestId) (o : Outcome) (x : Option Extent) → forced plan s ≡ Some (event.Ended id o x) → ⊥
forced_no_end plan s id o x h = let k : is_forced_kind (event.Ended id o x) ≡ true = ap (none_or is_forced_kind) (sym h) ∙ forced_kind plan s in cc

-- no start is an end
first_start_no_end : (plan : Plan) (s : State) (id : RequestId) (o : Outcome) (x : Option Extent) → first_start plan s ≡ Some (event.Ended id o x) → ⊥
unfolding first_start
first_start_no_end plan s id o x h =
    let p : (r : Req) × (first_by precedes (may_start_somewhere plan s) plan.requests ≡ Some r) × (start_of plan s r ≡ Some (event.Ended id o x)) =
    and_then-some (start_of plan s) (first_by precedes (may_start_somewhere plan s) plan.requests) _ h in
    let q : (place : PlaceId) × (find (may_start plan s p.0) (all_places plan) ≡ Some place) × (event.Started p.0.number place ≡ event.Ended id o x) =
    map-some (λ place. event.Started p.0.number place) (find (may_start plan s p.0) (all_places plan)) _ p.2 in
    cc

-- no tick is an end
next_tick_no_end : (plan : Plan) (s : State) (next : Option Reading) (id : RequestId) (o : Outcome) (x : Option Extent) → next_tick plan s next ≡ Some (event.Ended id o x) → ⊥
unfolding next_tick
next_tick_no_end plan s next id o x h =
    let p : (q : Reading) × (next ≡ Some q) × (then_some (may_take plan s q) (event.Tick q.moment) ≡ Some (event.Ended id o x)) =
    and_then-some (λ q. then_some (may_take plan s q) (event.Tick q.moment)) next _ h in
    let q : (may_take plan s p.0 ≡ true) × (event.Tick p.0.moment ≡ event.Ended id o x) = then_some-some (may_take plan s p.0) (event.Tick p.0.moment) _ p.2 in
    cc

-- ---- all of them

-- an end with an extent that comes next is that of its request's report
next_reported : (plan : Plan) (readings : List Reading) (past : List Event) (id : RequestId) (o : Outcome) (x : Extent)
    → next_alone plan readings past ≡ Some (event.Ended id o (Some x)) → IsReported plan past id o x
unfolding next_alone choice
next_reported plan readings past id o x h =
    let s : State = state plan past in
    elim (or-some (forced plan s) _ _ h) [
      | inl a ↦ absurd (forced_no_end plan s id o (Some x) a)
      | inr b ↦ elim (or-some (first_end plan past s) _ _ b) [
        | inl a ↦ first_end_reported plan past s id o x a
        | inr c ↦ elim (or-some (first_start plan s) _ _ c) [
          | inl a ↦ absurd (first_start_no_end plan s id o (Some x) a)
          | inr d ↦ absurd (next_tick_no_end plan s (next_reading readings past) id o (Some x) d)
        ]
      ]
    ]

-- the ends that a run without workers adds are those of the reports
pub alone_reported : (plan : Plan) (readings : List Reading) (found history : List Event) → Alone plan readings found history
    → AreReported plan (length (opening found)) history
alone_reported plan readings found history h = λ i id o x from here.
    let within = slice_get_within history i _ here in
    next_reported plan readings (reverse (take i history)) id o x (sym (h.each i from within) ∙ here)
