-- What is said of the requests after an event, where those are put anew that it can concern.
use Rattle.std.proofs.Common.{◌≡◌, ℕ, ◌+◌, true, Option, Some, sym, ◌∙◌, ap, inl, inr, arith}
use Rattle.std.specs.Prelude.{slice_get, unwrap_or}
use Rattle.conc_types.specs.declared.event.Event.{Event}
use Rattle.conc_types.specs.declared.facts.Facts.{Facts}
use Rattle.conc_types.specs.declared.facts.State.{State}
use Rattle.conc_types.specs.declared.plan.Plan.{Plan}
use Rattle.conc_types.specs.declared.plan.Req.{Req}
use Rattle.conc_base_law.specs.State.{facts_at, no_facts}
use Rattle.conc_base_law.specs.Words.{Has}
use Rattle.conc_base_law.proofs.Numbering.{numbered-at}
use Rattle.conc_event_classes.specs.declared.classes.Classes.{Classes}
use Rattle.conc_event_effects.specs.Advance.{IsAfter}
use Rattle.conc_event_queue.proofs.Maps.{place_of_request}
use Rattle.conc_event_reach.specs.Started.{LeavesFacts}
use Rattle.conc_event_reach.specs.declared.span.Span.{Span}
use Rattle.conc_history_check.specs.Marks.{AreMarkedAround, AreMarks, HaveRoom, IsMarkedSince, KeepsMarks, is_near}
use Rattle.conc_history_check.specs.declared.marks.Marks.{Marks}
use Rattle.conc_history_check.proofs.Near.{IsNearNone, near-member, near-or-not, near-parent, near-self, parent-there}
use Rattle.conc_history_check.proofs.Quiet.{facts-outside}
use Rattle.conc_history_check.proofs.Same.{marked-same}

-- the facts of a request that the event does not reach stay
facts-same : (plan : Plan) (e : Event) (old new : State) (reach : Span) → LeavesFacts plan e old.facts reach → IsAfter plan old new e → (q : Req) → IsNearNone plan reach q
    → (x : Req) → Has plan.requests x → is_near x q ≡ true → facts_at new x ≡ facts_at old x
unfolding facts_at
facts-same plan e old new reach leaves after q none x has near =
    let p : (k : ℕ) × (slice_get plan.requests k ≡ Some x) × (x.number.number ≡ k + 1) = place_of_request plan x has in
    ap (λ (o : Option Facts). unwrap_or o no_facts)
    (numbered-at new.facts x.number.number p.0 (omega (arith, p.2))
    ∙ facts-outside plan e old new reach p.0 leaves after (none p.0 x p.1 near)
    ∙ sym (numbered-at old.facts x.number.number p.0 (omega (arith, p.2))))

-- the others keep what was said of them
pub marks-after : (plan : Plan) (classes : Classes) (e : Event) (old new : State) (reach : Span) (was mid is : Marks) → LeavesFacts plan e old.facts reach → IsAfter plan old new e
    → AreMarks plan classes old was → HaveRoom plan classes is → KeepsMarks plan classes new was mid → AreMarkedAround plan classes new reach mid → KeepsMarks plan classes new mid is
    → ((q : Req) → Has plan.requests q → IsMarkedSince plan classes old.time new q is) → AreMarks plan classes new is
marks-after plan classes e old new reach was mid is leaves after are room kept around keeps since = record {
  room = room;
  all = λ q has. elim (near-or-not plan reach q) [
    | inl some ↦ keeps q has (around some.0 some.1 some.2 some.3 q has some.4)
    | inr none ↦ elim (since q has) [
      | inl come ↦
          let same = facts-same plan e old new reach leaves after q none in
          keeps q has (kept q has (marked-same plan classes old new q was (same q has (near-self q)) come
          (λ stage x has_x member. same x has_x (near-member x q stage member))
          (λ set parent_is. same set (parent-there plan q set parent_is) (near-parent plan q set parent_is))
          (are.all q has)))
      | inr marked ↦ marked
    ]
  ];
}
