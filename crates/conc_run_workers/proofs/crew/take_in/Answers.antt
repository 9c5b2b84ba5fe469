use Rattle.std.proofs.Common.{◌≡◌, ◌<◌, ◌≤◌, ◌+◌, ℕ, length, set, get_or, None, refl, sym, ◌∙◌, ap, subst, arith, length-set, get_or-set_other, get_or-set_same}
use Rattle.std.proofs.lemmas.List.{get_or_default}
use mathlib.Core.Logic.{dite}
use native.Mathlib.Decide.{ℕ_discrete}
use Rattle.conc_board.specs.declared.lead.Lead.{Lead}
use Rattle.conc_board.specs.Seats.{IsLeadOf, plan_of, posts_of_lead, SameLeadStates, SameSwitches}
use Rattle.conc_run_workers.specs.Crews.{Covers, IsFreeMember}
use Rattle.conc_run_workers.specs.declared.crew.CrewMember.{CrewMember}
use Rattle.conc_run_workers.proofs.Crews.{covers-none, covers-taken, free-hand}
use Rattle.conc_run_workers.proofs.crew.take_in.Goals.{in-Some, in_default}
use Rattle.conc_run_workers.proofs.crew.take_in.Goals as goal

pub loop-index-preserved : goal.loop-index-preserved
loop-index-preserved c =
    let i = c.loop-index.invariant in let k = c.loop-index.index in let ws = c.loop-index.crew in let board = c.args.board.now in let plan = plan_of board in
    let y = c.index-crew-index.result in
    let worker : CrewMember = record { hand = c.take.new.self; pass = (get_or ws k y).pass; places = (get_or ws k y).places } in
    let below : k < length c.args.crew.now = c.loop-index-test.true in
    let here : k < length ws = omega (arith, below, i.long) in
    let now : (d : CrewMember) → get_or (set ws k worker) k d ≡ worker = λ d. get_or-set_same ws k worker d here in
    let has_hand : IsFreeMember board (get_or ws k y) = i.free k y (omega arith) below in
    let free : (j : ℕ) (d : CrewMember) → k + 1 ≤ j → j < length c.args.crew.now → IsFreeMember board (get_or (set ws k worker) j d) =
    λ j d later small. subst (λ (w : CrewMember). IsFreeMember board w) (sym (get_or-set_other ws k j worker d (λ e. omega (arith, e, later)))) (i.free j d (omega (arith, later)) small) in
    let gone : (j : ℕ) (d : CrewMember) → j < k + 1 → (get_or (set ws k worker) j d).hand ≡ None =
    λ j d small. dite (ℕ_discrete j k)
    (λ e. subst (λ (z : ℕ). (get_or (set ws k worker) z d).hand ≡ None) (sym e) (ap (λ (w : CrewMember). w.hand) (now d) ∙ c.take.ensures.after))
    (λ other. ap (λ (w : CrewMember). w.hand) (get_or-set_other ws k j worker d other) ∙ i.gone j d (omega (arith, small, other))) in
    let lists : (j : ℕ) (d : CrewMember) → j < length c.args.crew.now → (get_or (set ws k worker) j d).places.items ≡ (get_or c.args.crew.now j d).places.items =
    λ j d small. dite (ℕ_discrete j k)
    (λ e. subst (λ (z : ℕ). (get_or (set ws k worker) z d).places.items ≡ (get_or c.args.crew.now z d).places.items) (sym e)
    (ap (λ (w : CrewMember). w.places.items) (now d) ∙ (i.lists k y below ∙ ap (λ (w : CrewMember). w.places.items) (get_or_default c.args.crew.now k y d below))))
    (λ other. ap (λ (w : CrewMember). w.places.items) (get_or-set_other ws k j worker d other) ∙ i.lists j d small) in
    elim c.match-take.branch [
      | in-Some w ↦ record {
        lead = subst (λ (l : Lead). IsLeadOf board l) (sym w.lead-is) w.join.ensures.lead;
        lead_states = subst (λ (l : Lead). SameLeadStates c.args.lead.now l) (sym w.lead-is) (record { each = λ r. w.join.ensures.lead_states.each r ∙ i.lead_states.each r });
        switches = subst (λ (l : Lead). SameSwitches c.args.lead.now l) (sym w.lead-is) (record { each = λ word. w.join.ensures.switches.each word ∙ i.switches.each word });
        posts = ap (λ (l : Lead). posts_of_lead l) w.lead-is ∙ (w.join.ensures.posts ∙ i.posts);
        all = refl;
        long = length-set ws k worker ∙ i.long;
        free = free;
        gone = gone;
        covers = subst (λ (l : Lead). Covers plan l (set ws k worker)) (sym w.lead-is)
            (covers-taken plan c.loop-index.lead w.join.new.lead ws k worker y w.in-Some.hand (sym c.take.ensures.value ∙ w.in-Some.is) w.join.ensures.places i.covers);
        lists = lists;
      }
      | in_default w ↦ absurd (free-hand board (get_or ws k y) (sym c.take.ensures.value ∙ w.in_default.is) has_hand)
    ]

pub returns-clause-all : goal.returns-clause-all
returns-clause-all c =
    let i = c.loop-index.invariant in let done = c.loop-index-test.false in record {
      each = λ p is. covers-none (plan_of c.args.board.now) c.loop-index.lead c.loop-index.crew (λ j d small. i.gone j d (omega (arith, small, done, i.long))) i.covers p is;
    }
