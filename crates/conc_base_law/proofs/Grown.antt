-- A history that is lawful for a plan is lawful for one whose further commands have not come.
use Rattle.std.proofs.Common.{◌≡◌, ℕ, suc, ◌+◌, Bool, true, false, not, List, [], ◌∷◌, ◌++◌, length, take, drop, reverse, Option, None, Some, if◌then◌else◌, refl, sym, ◌∙◌, ap, subst, arith}
use Rattle.std.specs.List.{enumerate_from, find}
use Rattle.std.specs.Option.{option_map, option_or}
use Rattle.std.proofs.lemmas.Bool.{and_from, and_parts, and_right, both_ways, false_from_ne_true, or_left}
use Rattle.std.proofs.lemmas.Bool.Decides.{nat_tests}
use Rattle.std.proofs.lemmas.List.{length-take-le, take-append-drop}
use Rattle.std.proofs.lemmas.List.Folds.{find-append}
use Rattle.conc_types.specs.declared.event.Event.{Event}
use Rattle.conc_types.specs.declared.event.Event.TheVariants as event
use Rattle.conc_types.specs.declared.event.Moment.{Moment}
use Rattle.conc_types.specs.declared.facts.State.{State}
use Rattle.conc_types.specs.declared.plan.Plan.{Plan}
use Rattle.conc_types.specs.declared.plan.Req.{Req}
use Rattle.conc_types.specs.declared.script.Order.{Order}
use Rattle.conc_types.specs.Expansion.{expansion}
use Rattle.conc_types.specs.Words.{is_empty, numbered}
use Rattle.conc_base_law.specs.Events.{event_eq}
use Rattle.conc_base_law.specs.Kinds.{is_command, is_resume}
use Rattle.conc_base_law.specs.Law.{is_lawful_so_far, may_follow}
use Rattle.conc_base_law.specs.Next.{forced, forced_command, forced_interrupt, forced_let, forced_step, is_allowed, is_due, may_come, may_tick, obeys}
use Rattle.conc_base_law.specs.State.{has_come, is_not_earlier, now, state}
use Rattle.conc_base_law.specs.Words.{Has}
use Rattle.conc_base_law.proofs.Comes.{comes_allowed}
use Rattle.conc_base_law.proofs.EqualEvents.{eqb-refl, event_same}
use Rattle.conc_base_law.proofs.FirstBy.{find-some}
use Rattle.conc_base_law.proofs.Numbering.{numbered-at}
use Rattle.conc_base_law.proofs.Options.{map-some}
use Rattle.conc_base_law.specs.Growth.{Grows}
use Rattle.conc_base_law.proofs.Alike.{facts_at-same, IsAlike, only-before, OnlyFirst}
use Rattle.conc_base_law.proofs.Firsts.{count_done, IsCount, is_due-state}
use Rattle.conc_base_law.proofs.Fronts.{enumerate-front, enumerated-at, enumerated-found, find_none, find-same, has-left, has-right, numbered-front, take-same}
use Rattle.conc_base_law.proofs.GrownPositions.{allowed-same, forced_let-same, forced_step-same, interrupt-same, IsSame}
use Rattle.conc_base_law.proofs.Submitted.{Begins, expansion-closed, plan_begins}
use Rattle.conc_base_law.proofs.Unentered.{unentered}

-- ---- moments

-- a moment that has come has come after any event
come-more : (plan : Plan) (past : List Event) (e : Event) (t : Moment) → may_follow plan None past e ≡ true → has_come (now past) t ≡ true → has_come (now (e ∷ past)) t ≡ true
unfolding now may_follow is_allowed may_tick is_not_earlier has_come state
come-more plan past (event.Tick u) t m h =
    by (now past) (comes_allowed plan (state plan past) None (event.Tick u) refl refl m).1 h where
      by : (o : Option Moment) → is_not_earlier o u ≡ true → has_come o t ≡ true → has_come (Some u) t ≡ true
      by None a b = cc
      by (Some n) a b = grind (arith, nat_tests)
come-more plan past _ t m h = h

-- of none of these commands the moment has come
abbrev pub AreLater : List (ℕ × Order) → List Event → Type 0
AreLater orders past = (order : ℕ × Order) → Has orders order → has_come (now past) order.1.at ≡ false

-- so it was before
pub later-before : (plan : Plan) (orders : List (ℕ × Order)) (past : List Event) (e : Event) → may_follow plan None past e ≡ true → AreLater orders (e ∷ past) → AreLater orders past
later-before plan orders past e m h = λ order k. false_from_ne_true _ (λ come. both_ways _ (h order k) (come-more plan past e order.1.at m come))

-- ---- the two plans

-- the first commands are the same, and then each plan has its own
pub record IsGrown (plan grown : Plan) (orders old new : List Order) : Type 0 where
  pub setup : grown.setup ≡ plan.setup
  pub of_plan : plan.script.commands ≡ orders ++ old
  pub of_grown : grown.script.commands ≡ orders ++ new

-- the name of a command
abbrev command : ℕ × Order → Event
command order = event.Command order.0

-- the search for a command among the first and then among the further ones
command-parts : (plan : Plan) (s : State) (orders further : List Order) → plan.script.commands ≡ orders ++ further
    → forced_command plan s ≡ option_or (option_map command (find (is_due s) (enumerate_from 1 orders))) (option_map command (find (is_due s) (enumerate_from (1 + length orders) further)))
unfolding forced_command
command-parts plan s orders further are =
    ap (λ l. option_map command (find (is_due s) (enumerate_from 1 l))) are
    ∙ (ap (λ l. option_map command (find (is_due s) l)) (enumerate-front 1 orders further)
    ∙ (ap (option_map command) (find-append (is_due s) (enumerate_from 1 orders) (enumerate_from (1 + length orders) further))
    ∙ map-or (find (is_due s) (enumerate_from 1 orders)) (find (is_due s) (enumerate_from (1 + length orders) further)))) where
      map-or : (a b : Option (ℕ × Order)) → option_map command (option_or a b) ≡ option_or (option_map command a) (option_map command b)
      map-or None b = refl
      map-or (Some x) b = refl

-- what is due among the first commands is due among all
first-has : (plan : Plan) (orders further : List Order) (order : ℕ × Order) → plan.script.commands ≡ orders ++ further → Has (enumerate_from 1 orders) order → Has (enumerate_from 1 plan.script.commands) order
first-has plan orders further order are h =
    subst (λ l. Has l order) (sym (ap (enumerate_from 1) are ∙ enumerate-front 1 orders further)) (has-left (enumerate_from 1 orders) (enumerate_from (1 + length orders) further) order h)

further-has : (plan : Plan) (orders further : List Order) (order : ℕ × Order) → plan.script.commands ≡ orders ++ further → Has (enumerate_from (1 + length orders) further) order → Has (enumerate_from 1 plan.script.commands) order
further-has plan orders further order are h =
    subst (λ l. Has l order) (sym (ap (enumerate_from 1) are ∙ enumerate-front 1 orders further)) (has-right (enumerate_from 1 orders) (enumerate_from (1 + length orders) further) order h)

-- where one plan's command is due that the other has not, the event is another one, which obeys both
obeys-less : (plan grown : Plan) (s t : State) (e : Event) (i c d r : Option Event) → ((x : Event) → d ≡ Some x → event_eq e x ≡ false) → is_allowed plan s None e ≡ is_allowed grown t None e
    → obeys plan s None e (option_or i (option_or (option_or c d) r)) ≡ true → obeys grown t None e (option_or i (option_or c r)) ≡ true
obeys-less plan grown s t e (Some x) c d r other same h = h
obeys-less plan grown s t e None (Some x) d r other same h = h
obeys-less plan grown s t e None None (Some x) r other same h = absurd (both_ways _ (other x refl) h)
obeys-less plan grown s t e None None None (Some x) other same h = h
obeys-less plan grown s t e None None None None other same h = sym same ∙ h

-- a request behind the front is one of the plan
rest-has : (plan : Plan) (count : ℕ) (front : List Req) (r : Req) (b : Begins plan count front) → Has b.rest r → Has plan.requests r
rest-has plan count front r b h = subst (λ l. Has l r) (sym b.is) (has-right front b.rest r h)

module _ (plan grown : Plan) (orders old new : List Order) (g : IsGrown plan grown orders old new) where
  -- the plans are alike
  pub alike : IsAlike plan grown (length orders) (expansion plan.setup orders)
  alike = record {
    setup = g.setup;
    orders = λ n few. ap (λ l. numbered l n) g.of_plan ∙ (numbered-front orders old n few ∙ sym (ap (λ l. numbered l n) g.of_grown ∙ numbered-front orders new n few));
    closed = expansion-closed plan.setup orders;
    of_one = plan_begins plan plan.setup orders old (length orders) refl g.of_plan refl;
    of_another = plan_begins grown plan.setup orders new (length orders) g.setup g.of_grown refl;
  }

  -- the positions are the same
  pub same : (past : List Event) → OnlyFirst (length orders) past → is_lawful_so_far plan past ≡ true → is_lawful_so_far grown past ≡ true
      → IsSame plan grown (length orders) (expansion plan.setup orders) (state plan past) (state grown past)
  unfolding state
  same past only lawful too = record {
    alike = alike;
    time = refl;
    used = refl;
    facts = λ r h. facts_at-same plan grown (length orders) (expansion plan.setup orders) alike past r only h;
    rest = λ r h. unentered plan past r (rest-has plan (length orders) (expansion plan.setup orders) r alike.of_one h) lawful (only r.command (alike.of_one.later r h));
    other = λ r h. unentered grown past r (rest-has grown (length orders) (expansion plan.setup orders) r alike.of_another h) too (only r.command (alike.of_another.later r h));
  }

  -- ---- the command that is forced

  -- each of the first commands is due in both
  due-same : (past : List Event) (order : ℕ × Order) → Has (enumerate_from 1 orders) order → is_due (state plan past) order ≡ is_due (state grown past) order
  unfolding state
  due-same past order h =
      is_due-state plan past order (first-has plan orders old order g.of_plan h)
      ∙ sym (is_due-state grown past order (first-has grown orders new order g.of_grown h))

  -- no further command of the grown plan is due
  not_due : (past : List Event) → AreLater (enumerate_from (1 + length orders) new) past → (order : ℕ × Order) → Has (enumerate_from (1 + length orders) new) order → is_due (state grown past) order ≡ false
  unfolding state
  not_due past later order h =
      is_due-state grown past order (further-has grown orders new order g.of_grown h) ∙ and_right _ _ (later order h)

  -- a further command of the plan is not the event
  not_further : (past : List Event) (e x : Event) → OnlyFirst (length orders) (e ∷ past)
      → option_map command (find (is_due (state plan past)) (enumerate_from (1 + length orders) old)) ≡ Some x → event_eq e x ≡ false
  not_further past e x only h =
      let q : (order : ℕ × Order) × (find (is_due (state plan past)) (enumerate_from (1 + length orders) old) ≡ Some order) × (command order ≡ x) =
      map-some command (find (is_due (state plan past)) (enumerate_from (1 + length orders) old)) x h in
      let f : (is_due (state plan past) q.0 ≡ true) × Has (enumerate_from (1 + length orders) old) q.0 = find-some (is_due (state plan past)) (enumerate_from (1 + length orders) old) q.0 q.1 in
      let a : (k : ℕ) × (q.0.0 ≡ 1 + length orders + k) × _ = enumerated-at (1 + length orders) old q.0 f.1 in
      false_from_ne_true _ (λ k.
      let is : e ≡ event.Command q.0.0 = event_same e x k ∙ sym q.2 in
      both_ways _ (only q.0.0 (omega (arith, a.1))) (or_left _ _ (ap (is_command q.0.0) is ∙ eqb-refl q.0.0)))

  -- the command that is forced for the grown plan is one of the first
  grown_command : (past : List Event) → AreLater (enumerate_from (1 + length orders) new) past
      → forced_command grown (state grown past) ≡ option_map command (find (is_due (state plan past)) (enumerate_from 1 orders))
  grown_command past later =
      let behind : List (ℕ × Order) = enumerate_from (1 + length orders) new in
      let t : State = state grown past in
      command-parts grown t orders new g.of_grown
      ∙ (ap (λ o. option_or (option_map command o) (option_map command (find (is_due t) behind))) (sym (find-same (is_due (state plan past)) (is_due t) (enumerate_from 1 orders) (due-same past)))
      ∙ (ap (λ o. option_or (option_map command (find (is_due (state plan past)) (enumerate_from 1 orders))) (option_map command o)) (find_none (is_due t) behind (not_due past later))
      ∙ or_none (option_map command (find (is_due (state plan past)) (enumerate_from 1 orders))))) where
        or_none : (o : Option Event) → option_or o None ≡ o
        or_none None = refl
        or_none (Some x) = refl

  -- what obeys what is forced for the plan obeys what is forced for the grown one
  obeys-same : (past : List Event) (e : Event) → OnlyFirst (length orders) (e ∷ past) → AreLater (enumerate_from (1 + length orders) new) past
      → is_lawful_so_far plan past ≡ true → is_lawful_so_far grown past ≡ true
      → obeys plan (state plan past) None e (forced plan (state plan past)) ≡ true → obeys grown (state grown past) None e (forced grown (state grown past)) ≡ true
  unfolding forced
  obeys-same past e only later lawful too h =
      let s : State = state plan past in
      let t : State = state grown past in
      let front : List Req = expansion plan.setup orders in
      let p : IsSame plan grown (length orders) front s t = same past (only-before (length orders) e past only) lawful too in
      let first : Option Event = option_map command (find (is_due s) (enumerate_from 1 orders)) in
      let further : Option Event = option_map command (find (is_due s) (enumerate_from (1 + length orders) old)) in
      let steps : Option Event = option_or (forced_step plan s) (forced_let plan s) in
      let k : obeys plan s None e (option_or (forced_interrupt plan s) (option_or (option_or first further) steps)) ≡ true =
      ap (λ c. obeys plan s None e (option_or (forced_interrupt plan s) (option_or c steps))) (sym (command-parts plan s orders old g.of_plan)) ∙ h in
      let l : obeys grown t None e (option_or (forced_interrupt plan s) (option_or first steps)) ≡ true =
      obeys-less plan grown s t e (forced_interrupt plan s) first further steps (λ x is. not_further past e x only is) (allowed-same plan grown (length orders) front s t p e) k in
      ap (λ i. obeys grown t None e (option_or i (option_or (forced_command grown t) (option_or (forced_step grown t) (forced_let grown t))))) (sym (interrupt-same plan grown (length orders) front s t p))
      ∙ (ap (λ c. obeys grown t None e (option_or (forced_interrupt plan s) (option_or c (option_or (forced_step grown t) (forced_let grown t))))) (grown_command past later)
      ∙ (ap (λ o. obeys grown t None e (option_or (forced_interrupt plan s) (option_or first (option_or o (forced_let grown t))))) (sym (forced_step-same plan grown (length orders) front s t p))
      ∙ (ap (λ o. obeys grown t None e (option_or (forced_interrupt plan s) (option_or first (option_or (forced_step plan s) o)))) (sym (forced_let-same plan grown (length orders) front s t p))
      ∙ l)))

  -- what may follow for the plan may follow for the grown one
  follows : (past : List Event) (e : Event) → OnlyFirst (length orders) (e ∷ past) → AreLater (enumerate_from (1 + length orders) new) past
      → is_lawful_so_far plan past ≡ true → is_lawful_so_far grown past ≡ true → may_follow plan None past e ≡ true → may_follow grown None past e ≡ true
  unfolding may_follow may_come state
  follows past e only later lawful too m = if_other (is_resume e) (not (is_empty past)) _ _ (obeys-same past e only later lawful too) m where
    if_other : (b x y z : Bool) → (y ≡ true → z ≡ true) → (if b then x else y) ≡ true → (if b then x else z) ≡ true
    if_other true x y z f h = h
    if_other false x y z f h = f h

  -- so the history is lawful
  pub grown_lawful : (past : List Event) → OnlyFirst (length orders) past → AreLater (enumerate_from (1 + length orders) new) past → is_lawful_so_far plan past ≡ true → is_lawful_so_far grown past ≡ true
  unfolding is_lawful_so_far
  grown_lawful [] only later lawful = refl
  grown_lawful (e ∷ past) only later lawful =
      let m : (is_lawful_so_far plan past ≡ true) × (may_follow plan None past e ≡ true) = and_parts _ _ lawful in
      let before : AreLater (enumerate_from (1 + length orders) new) past = later-before plan (enumerate_from (1 + length orders) new) past e m.1 later in
      let too : is_lawful_so_far grown past ≡ true = grown_lawful past (only-before (length orders) e past only) before m.0 in
      and_from _ _ too (follows past e only before m.0 too m.1)

-- ---- from the law's words

-- the plans of the law are so: the first commands are those that are done
pub record IsKept (plan grown : Plan) (past : List Event) : Type 0 where
  pub orders : List Order
  pub old : List Order
  pub new : List Order
  pub grown_is : IsGrown plan grown orders old new
  pub only : OnlyFirst (length orders) past
  pub later : AreLater (enumerate_from (1 + length orders) new) past

-- the first commands of the grown plan
first-same : (plan grown : Plan) (history : List Event) (count : ℕ) → Grows plan grown history → IsCount plan (reverse history) count
    → take count grown.script.commands ≡ take count plan.script.commands
first-same plan grown history count g c = take-same count grown.script.commands plan.script.commands (λ i l.
    sym (numbered-at grown.script.commands (suc i) i (omega arith))
    ∙ (g.same_done (suc i) (c.done (suc i) (omega arith) (omega (arith, l))) ∙ numbered-at plan.script.commands (suc i) i (omega arith)))

pub kept : (plan grown : Plan) (history : List Event) → Grows plan grown history → is_lawful_so_far plan (reverse history) ≡ true → IsKept plan grown (reverse history)
kept plan grown history g lawful =
    let p : (count : ℕ) × IsCount plan (reverse history) count = count_done plan (reverse history) lawful in
    let count : ℕ = p.0 in
    let c : IsCount plan (reverse history) count = p.1 in
    let orders : List Order = take count plan.script.commands in
    let new : List Order = drop count grown.script.commands in
    let many : length orders ≡ count = length-take-le count plan.script.commands c.few in
    let of_grown : grown.script.commands ≡ orders ++ new = sym (take-append-drop count grown.script.commands) ∙ ap (λ l. l ++ new) (first-same plan grown history count g c) in
    record {
      orders = orders;
      old = drop count plan.script.commands;
      new = new;
      grown_is = record { setup = g.setup; of_plan = sym (take-append-drop count plan.script.commands); of_grown = of_grown };
      only = λ n l. c.undone n (omega (arith, l, many));
      later = λ order h.
          let a : (k : ℕ) × (order.0 ≡ 1 + length orders + k) × _ = enumerated-at (1 + length orders) new order h in
          g.later order.0 order.1 (enumerated-found grown.script.commands order (further-has grown orders new order of_grown h)) (c.undone order.0 (omega (arith, a.1, many)));
    }

-- the law
pub lawful_grown : (plan grown : Plan) (history : List Event) → Grows plan grown history → is_lawful_so_far plan (reverse history) ≡ true → is_lawful_so_far grown (reverse history) ≡ true
lawful_grown plan grown history g lawful =
    let k : IsKept plan grown (reverse history) = kept plan grown history g lawful in
    grown_lawful plan grown k.orders k.old k.new k.grown_is (reverse history) k.only k.later lawful
