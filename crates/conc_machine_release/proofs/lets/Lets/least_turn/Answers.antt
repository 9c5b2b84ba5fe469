use Rattle.std.proofs.Common.{◌≡◌, ◌<◌, ℕ, List, Option, None, Some, get_or, length, sym, ◌∙◌, ap, refl, arith}
use Rattle.conc_event_queue.specs.Least.{lesser}
use Rattle.conc_machine_release.specs.Forced.{turn_in_class}
use Rattle.conc_machine_release.proofs.Choice.{among-end, among-next, among-skip, among-start, first-kept, kin-known, ready-count}
use Rattle.conc_machine_release.proofs.lets.Lets.least_turn.Goals as goal

-- a place of the list that is gone through is one of the list that is kept
inside : (items kin : List ℕ) (i : ℕ) → items ≡ kin → i < length items → i < length kin
inside items kin i same within = omega (arith, within, ap length same)

at : (items kin : List ℕ) (i : ℕ) → items ≡ kin → get_or items i 0 ≡ get_or kin i 0
at items kin i same = ap (λ l. get_or l i 0) same

none : (o : Option ℕ) → ((n : ℕ) → o ≡ Some n → ⊥) → None ≡ o
none None h = refl
none (Some n) h = absurd (h n refl)

pub loop-class-init : goal.loop-class-init
loop-class-init c = c.least-best.ensures ∙ among-start c.args.position.plan.now c.args.position.classes.now c.args.position.state.now c.args.self.now c.requires.classes c.requires.related

pub first_ready-requires : goal.first_ready-requires
first_ready-requires c =
    let same = c.as_slice-class-items.ensures in
    let known = kin-known c.args.position.plan.now c.args.position.classes.now c.args.position.state.now c.args.self.now c.requires.related c.loop-class.class-index _
    (inside _ _ c.loop-class.class-index same c.loop-class-test.true) (at c.as_slice-class-items.result.now c.args.self.now.kin c.loop-class.class-index same) in
    omega (arith, known, ready-count c.args.position.plan.now c.args.position.classes.now c.args.position.state.now c.args.self.now c.requires.related)

pub turn_in_class-turn-requires-clause-within : goal.turn_in_class-turn-requires-clause-within
turn_in_class-turn-requires-clause-within c =
    let same = c.as_slice-class-items.ensures in
    kin-known c.args.position.plan.now c.args.position.classes.now c.args.position.state.now c.args.self.now c.requires.related c.loop-class.class-index _
    (inside _ _ c.loop-class.class-index same c.loop-class-test.true) (at c.as_slice-class-items.result.now c.args.self.now.kin c.loop-class.class-index same)

pub turn_in_class-turn-requires-clause-first : goal.turn_in_class-turn-requires-clause-first
turn_in_class-turn-requires-clause-first c =
    let same = c.as_slice-class-items.ensures in
    let known = kin-known c.args.position.plan.now c.args.position.classes.now c.args.position.state.now c.args.self.now c.requires.related c.loop-class.class-index _
    (inside _ _ c.loop-class.class-index same c.loop-class-test.true) (at c.as_slice-class-items.result.now c.args.self.now.kin c.loop-class.class-index same) in
    first-kept c.args.position.plan.now c.args.position.classes.now c.args.position.state.now c.args.self.now c.requires.related _ known (Some c.in-Some.first) (sym c.in-Some.is ∙ c.first_ready.ensures)

pub loop-class-preserved-in_default : goal.loop-class-preserved-in_default
loop-class-preserved-in_default c =
    let same = c.as_slice-class-items.ensures in
    let within = inside _ _ c.loop-class.class-index same c.loop-class-test.true in
    let here = at c.as_slice-class-items.result.now c.args.self.now.kin c.loop-class.class-index same in
    let known = kin-known c.args.position.plan.now c.args.position.classes.now c.args.position.state.now c.args.self.now c.requires.related c.loop-class.class-index _ within here in
    c.loop-class.invariant
    ∙ among-skip c.args.position.plan.now c.args.position.classes.now c.args.position.state.now c.args.self.now.kin c.loop-class.class-index _ within here
    (first-kept c.args.position.plan.now c.args.position.classes.now c.args.position.state.now c.args.self.now c.requires.related _ known None (none c.first_ready.result c.in_default.not-Some ∙ c.first_ready.ensures))

pub loop-class-preserved : goal.loop-class-preserved
loop-class-preserved c =
    let same = c.as_slice-class-items.ensures in
    let class : ℕ = get_or c.as_slice-class-items.result.now c.loop-class.class-index 0 in
    c.lesser-best.ensures
    ∙ ap (lesser c.loop-class.best) c.turn_in_class-turn.ensures
    ∙ ap (λ o. lesser o (turn_in_class c.args.position.plan.now c.args.position.classes.now c.args.position.state.now class)) c.loop-class.invariant
    ∙ among-next c.args.position.plan.now c.args.position.classes.now c.args.position.state.now c.args.self.now.kin c.loop-class.class-index class
    (inside _ _ c.loop-class.class-index same c.loop-class-test.true) (at c.as_slice-class-items.result.now c.args.self.now.kin c.loop-class.class-index same)

pub returns : goal.returns
returns c =
    c.loop-class.invariant
    ∙ among-end c.args.position.plan.now c.args.position.classes.now c.args.position.state.now c.args.self.now c.requires.classes c.requires.related c.loop-class.class-index
    (omega (arith, c.loop-class-test.false, ap length c.as_slice-class-items.ensures))
