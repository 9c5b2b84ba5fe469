-- Where the facts of one request are written, its slots are written, and in the queue of sets that of its set.
use Rattle.std.proofs.Common.{◌≡◌, ℕ, ◌<◌, ◌+◌, true, List, get_or, length, None, Some, eqb, refl, sym, ◌∙◌, ap, arith}
use Rattle.std.specs.Prelude.{slice_get}
use Rattle.std.proofs.lemmas.Bool.{and_parts, eqb-true}
use Rattle.std.proofs.lemmas.Option.{slice_get_read, slice_get_within}
use Rattle.conc_types.specs.declared.event.RequestId.{RequestId}
use Rattle.conc_types.specs.declared.facts.Facts.{Facts}
use Rattle.conc_types.specs.declared.facts.State.{State}
use Rattle.conc_types.specs.declared.plan.Plan.{Plan}
use Rattle.conc_types.specs.declared.plan.Req.{Req}
use Rattle.conc_types.specs.Plans.{request}
use Rattle.conc_types.specs.Words.{numbered, some_and}
use Rattle.conc_base_law.specs.Next.{has_step, is_left_running, runs_somewhere}
use Rattle.conc_base_law.specs.Plans.{is_member, parent}
use Rattle.conc_base_law.specs.State.{facts_at}
use Rattle.conc_base_law.specs.Words.{Has, id_eq}
use Rattle.conc_base_law.proofs.Numbering.{found, numbered_plan}
use Rattle.conc_base_law.proofs.Options.{and_then-some, some_and-some}
use Rattle.conc_event_queue.specs.Written.{IsWritten}
use Rattle.conc_event_queue.proofs.Maps.{facts_at-written, request_at_place}
use Rattle.conc_machine_steps.specs.declared.running.Running.{Running}
use Rattle.conc_machine_steps.specs.declared.steps.Steps.{Steps}
use Rattle.conc_machine_steps.specs.Slots.{refreshed}
use Rattle.conc_machine_steps.specs.Steps.{AreRunning, AreSteps}
use Rattle.conc_machine_steps.proofs.Same.{has_step-same, is_left-same, runs-same}
use Rattle.conc_machine_steps.proofs.Numbers.{numbers_of-one, numbers_of-two}

-- the facts of the other requests stay
others-same : (plan : Plan) (before after : State) (i : ℕ) (old : Facts) → IsWritten plan before after i old
    → (r : Req) → slice_get plan.requests i ≡ Some r
    → (q : Req) → (q.number.number ≡ r.number.number → ⊥) → facts_at after q ≡ facts_at before q
others-same plan before after i old written r at q ne =
    facts_at-written plan before after i old written q (λ (e : q.number.number ≡ i + 1). ne (e ∙ sym (request_at_place plan i r at).0))

-- what is kept of the requests that run
pub running_written : (plan : Plan) (before after : State) (i : ℕ) (old : Facts) → IsWritten plan before after i old
    → (r : Req) → slice_get plan.requests i ≡ Some r → (was is : Running) → AreRunning plan before was
    → is.all ≡ refreshed was.all r (runs_somewhere after r) → is.left ≡ refreshed was.left r (is_left_running after r)
    → AreRunning plan after is
running_written plan before after i old written r at was is are all left =
    let has : Has plan.requests r = (request_at_place plan i r at).1 in
    record {
      all = all ∙ ap (λ l. refreshed l r (runs_somewhere after r)) are.all
          ∙ sym (numbers_of-one plan (runs_somewhere before) (runs_somewhere after) r has
          (λ q h ne. runs-same before after q (others-same plan before after i old written r at q ne)));
      left = left ∙ ap (λ l. refreshed l r (is_left_running after r)) are.left
          ∙ sym (numbers_of-one plan (is_left_running before) (is_left_running after) r has
          (λ q h ne. is_left-same before after q (others-same plan before after i old written r at q ne)));
    }

-- two requests with one number are one
one_number : (plan : Plan) (x r : Req) → Has plan.requests x → Has plan.requests r → x.number.number ≡ r.number.number → x ≡ r
unfolding request
one_number plan x r has_x has_r e =
    let p : Some x ≡ Some r = sym (numbered_plan plan x has_x) ∙ ap (numbered plan.requests) e ∙ numbered_plan plan r has_r in
    cc

-- a member of a set has the set as its parent
parent_of_member : (plan : Plan) (q r : Req) (stage : ℕ) → Has plan.requests q → is_member q.number stage r ≡ true → parent plan r ≡ Some q
unfolding is_member parent request
parent_of_member plan q r stage has member =
    let both : (some_and (id_eq q.number) r.parent ≡ true) × (eqb r.stage stage ≡ true) = and_parts _ _ member in
    let p : (id : RequestId) × (r.parent ≡ Some id) × (id_eq q.number id ≡ true) = some_and-some (id_eq q.number) r.parent both.0 in
    rw (p.1, ← eqb-true q.number.number p.0.number p.2) (numbered_plan plan q has)

-- a set that is neither the request that is written nor its parent has a step as before
others_due : (plan : Plan) (before after : State) (i : ℕ) (old : Facts) → IsWritten plan before after i old
    → (r : Req) → slice_get plan.requests i ≡ Some r
    → (q : Req) → Has plan.requests q → (q.number.number ≡ r.number.number → ⊥) → (parent plan r ≡ Some q → ⊥)
    → has_step plan after q ≡ has_step plan before q
others_due plan before after i old written r at q has ne no_parent =
    has_step-same plan before after q (others-same plan before after i old written r at q ne)
    (λ stage x has_x member. others-same plan before after i old written r at x
    (λ (e : x.number.number ≡ r.number.number).
    let same : x ≡ r = one_number plan x r has_x (request_at_place plan i r at).1 e in
    no_parent (parent_of_member plan q r stage has (ap (is_member q.number stage) (sym same) ∙ member))))

-- the set of a member is a request of the plan
pub parent_there : (plan : Plan) (r set : Req) → parent plan r ≡ Some set → Has plan.requests set
unfolding parent
parent_there plan r set member =
    let p : (id : RequestId) × (r.parent ≡ Some id) × (request plan id ≡ Some set) = and_then-some (request plan) r.parent set member in
    (found plan p.0 set p.2).1

-- what is kept of the open sets, where a request of no set is written
pub steps_written : (plan : Plan) (before after : State) (i : ℕ) (old : Facts) → IsWritten plan before after i old
    → (r : Req) → slice_get plan.requests i ≡ Some r → parent plan r ≡ None → (was is : Steps) → AreSteps plan before was
    → is.due ≡ refreshed was.due r (has_step plan after r)
    → AreSteps plan after is
steps_written plan before after i old written r at alone was is are due = record {
  due = due ∙ ap (λ l. refreshed l r (has_step plan after r)) are.due
      ∙ sym (numbers_of-one plan (has_step plan before) (has_step plan after) r (request_at_place plan i r at).1
      (λ q h ne. others_due plan before after i old written r at q h ne (λ (e : parent plan r ≡ Some q). cc)));
}

-- where a member of a set is written
pub steps_written_member : (plan : Plan) (before after : State) (i : ℕ) (old : Facts) → IsWritten plan before after i old
    → (r t : Req) → slice_get plan.requests i ≡ Some r → parent plan r ≡ Some t → (was is : Steps) → AreSteps plan before was
    → is.due ≡ refreshed (refreshed was.due r (has_step plan after r)) t (has_step plan after t)
    → AreSteps plan after is
steps_written_member plan before after i old written r t at member was is are due = record {
  due = due ∙ ap (λ l. refreshed (refreshed l r (has_step plan after r)) t (has_step plan after t)) are.due
      ∙ sym (numbers_of-two plan (has_step plan before) (has_step plan after) r t (request_at_place plan i r at).1 (parent_there plan r t member)
      (λ q h ne not_set. others_due plan before after i old written r at q h ne
      (λ (e : parent plan r ≡ Some q). not_set (let same : t ≡ q = cc in ap (λ x. x.number.number) (sym same)))));
}

-- the request that is written is there
pub written_within : (plan : Plan) (before after : State) (i : ℕ) (old : Facts) → IsWritten plan before after i old → i < length plan.requests
written_within plan before after i old written = omega (arith, slice_get_within before.facts i old written.was, written.all)

-- it is the one that is read at the index
pub written_read : (plan : Plan) (before after : State) (i : ℕ) (old : Facts) → IsWritten plan before after i old
    → (items : List Req) → items ≡ plan.requests → (r : Req) → r ≡ get_or items i r → slice_get plan.requests i ≡ Some r
written_read plan before after i old written items same r is =
    slice_get_read plan.requests (length plan.requests) i r refl (written_within plan before after i old written) (is ∙ ap (λ l. get_or l i r) same)
