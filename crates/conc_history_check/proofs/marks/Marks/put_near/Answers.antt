use Rattle.std.proofs.Common.{◌≡◌, Option, None, Some, inl, inr, sym, ◌∙◌, subst}
use Rattle.conc_types.specs.declared.plan.Req.{Req}
use Rattle.conc_history_check.specs.Marks.{IsMarked}
use Rattle.conc_history_check.proofs.Near.{member-within, near-parts, parent-there, set-parent}
use Rattle.conc_history_check.proofs.Slots.{same_number}
use Rattle.conc_history_check.proofs.marks.Marks.put_near.Goals as goal

pub put_span-requires-clause-inside : goal.put_span-requires-clause-inside
put_span-requires-clause-inside c = rw c.span_of_members-members.ensures (c.requires.prepared.spans.members_inside c.args.r.now.number)

pub put-requires-in-Some-clause-known : goal.put-requires-in-Some-clause-known
put-requires-in-Some-clause-known c = parent-there c.args.plan.now c.args.r.now c.in-Some.set.now (sym c.in-Some.ensures)

pub returns-in-Some-clause-kept : goal.returns-in-Some-clause-kept
returns-in-Some-clause-kept c = λ q has is. c.put-in-Some.ensures.kept q has (c.put_span.ensures.kept q has (c.put.ensures.kept q has is))

pub returns-in-Some-clause-near : goal.returns-in-Some-clause-near
returns-in-Some-clause-near c = λ q has near.
    let plan = c.args.plan.now in let classes = c.args.prepared.now.classes in let s = c.args.state.now in elim (near-parts c.args.r.now q near) [
      | inl same ↦
          c.put-in-Some.ensures.kept q has (c.put_span.ensures.kept q has
          (subst (λ z. IsMarked plan classes s z c.put.new.self) (same_number plan c.args.r.now q c.requires.known has (sym same)) c.put.ensures.own))
      | inr other ↦ elim other [
        | inl member ↦
            let w = member-within plan c.args.prepared.now.spans c.args.r.now q c.requires.prepared.spans has member in
            c.put-in-Some.ensures.kept q has (c.put_span.ensures.within w.0 q w.1 (rw c.span_of_members-members.ensures w.2))
        | inr set ↦
            let both : ◌≡◌ {A = Option Req} (Some c.in-Some.set.now) (Some q) = c.in-Some.ensures ∙ set-parent plan c.args.r.now q has set in
            let one : c.in-Some.set.now ≡ q = cc in
            subst (λ z. IsMarked plan classes s z c.put-in-Some.new.self) one c.put-in-Some.ensures.own
      ]
    ]

pub returns-in_default-clause-kept : goal.returns-in_default-clause-kept
returns-in_default-clause-kept c = λ q has is. c.put_span.ensures.kept q has (c.put.ensures.kept q has is)

pub returns-in_default-clause-near : goal.returns-in_default-clause-near
returns-in_default-clause-near c = λ q has near.
    let plan = c.args.plan.now in let classes = c.args.prepared.now.classes in let s = c.args.state.now in elim (near-parts c.args.r.now q near) [
      | inl same ↦
          c.put_span.ensures.kept q has
          (subst (λ z. IsMarked plan classes s z c.put.new.self) (same_number plan c.args.r.now q c.requires.known has (sym same)) c.put.ensures.own)
      | inr other ↦ elim other [
        | inl member ↦
            let w = member-within plan c.args.prepared.now.spans c.args.r.now q c.requires.prepared.spans has member in
            c.put_span.ensures.within w.0 q w.1 (rw c.span_of_members-members.ensures w.2)
        | inr set ↦
            let both : ◌≡◌ {A = Option Req} None (Some q) = c.in_default.ensures ∙ set-parent plan c.args.r.now q has set in
            cc
      ]
    ]
