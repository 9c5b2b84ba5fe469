use Rattle.std.proofs.Common.{◌≡◌, ℕ, ◌+◌, ◌<◌, cond, length, get_or, ap, sym, ◌∙◌, arith}
use Rattle.conc_event_reach.specs.Spans.{span_of_members}
use Rattle.conc_machine_release.specs.Forced.{is_live_member, live_members}
use Rattle.conc_machine_release.proofs.Lists.{front-all, front-next, front-none}
use Rattle.conc_machine_release.proofs.Free.{members-outside}
use Rattle.conc_machine_release.proofs.kin.live_members.Goals as goal
use Rattle.conc_machine_release.proofs.kin.live_members.Goals.{then-is_live_member, else-is_live_member}

pub loop-i-init : goal.loop-i-init
loop-i-init c =
    let e : c.span_of_members-span.result.from ≡ (span_of_members c.args.position.spans.now c.args.r.now.number).from = ap (λ s. s.from) c.span_of_members-span.ensures in (
      sym (front-none (is_live_member c.args.position.classes.now c.args.position.state.now c.args.class c.args.r.now) c.args.position.plan.now.requests c.span_of_members-span.result.from
          (λ k y at before. members-outside c.args.position.plan.now c.args.position.spans.now c.requires c.args.position.classes.now c.args.position.state.now c.args.class c.args.r.now k y at (λ from to. omega (arith, before, from, e)))),
      omega arith,
    )

pub loop-i-preserved : goal.loop-i-preserved
loop-i-preserved c =
    let e : c.span_of_members-span.result.to ≡ (span_of_members c.args.position.spans.now c.args.r.now.number).to = ap (λ s. s.to) c.span_of_members-span.ensures in
    let within : c.loop-i.i < length c.args.position.plan.now.requests = omega (arith, e, c.loop-i-test.true, c.requires.members_inside c.args.r.now.number) in
    elim c.if-is_live_member.branch [
      | then-is_live_member w ↦ front-next (is_live_member c.args.position.classes.now c.args.position.state.now c.args.class c.args.r.now) c.args.position.plan.now.requests c.loop-i.i c.index-requests-i.result
          c.loop-i.count _ within
          (c.index-requests-i.is ∙ ap (λ l. get_or l c.loop-i.i c.index-requests-i.result) c.as_slice-requests.ensures)
          c.loop-i.invariant.0
          (w.count-is ∙ ap (λ b. c.loop-i.count + cond b 1 0) (sym w.if-is_live_member.true ∙ c.is_live_member.ensures))
      | else-is_live_member w ↦ front-next (is_live_member c.args.position.classes.now c.args.position.state.now c.args.class c.args.r.now) c.args.position.plan.now.requests c.loop-i.i c.index-requests-i.result
          c.loop-i.count _ within
          (c.index-requests-i.is ∙ ap (λ l. get_or l c.loop-i.i c.index-requests-i.result) c.as_slice-requests.ensures)
          c.loop-i.invariant.0
          (w.count-is ∙ none c.loop-i.count ∙ ap (λ b. c.loop-i.count + cond b 1 0) (sym w.if-is_live_member.false ∙ c.is_live_member.ensures))
    ] where
      none : (n : ℕ) → n ≡ n + 0
      none n = omega arith

pub returns-clause-exact : goal.returns-clause-exact
unfolding live_members
returns-clause-exact c =
    let e : c.span_of_members-span.result.to ≡ (span_of_members c.args.position.spans.now c.args.r.now.number).to = ap (λ s. s.to) c.span_of_members-span.ensures in
    c.loop-i.invariant.0
    ∙ front-all (is_live_member c.args.position.classes.now c.args.position.state.now c.args.class c.args.r.now) c.args.position.plan.now.requests c.loop-i.i
    (λ k y at behind. members-outside c.args.position.plan.now c.args.position.spans.now c.requires c.args.position.classes.now c.args.position.state.now c.args.class c.args.r.now k y at (λ from to. omega (arith, behind, to, e, c.loop-i-test.false)))
