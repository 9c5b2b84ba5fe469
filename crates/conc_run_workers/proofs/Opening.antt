-- Which places are open, after a step that opens and closes none.
use Rattle.std.proofs.Common.{◌≡◌, List, Result, Ok, Err, OnOk, [], ◌∷◌, reverse, Option, None, Some, true, refl, sym, ◌∙◌, ap, subst}
use Rattle.std.specs.Option.{option_or}
use Rattle.conc_types.specs.declared.event.Event.{Event}
use Rattle.conc_types.specs.declared.event.Event.TheVariants as event
use Rattle.conc_types.specs.declared.event.Moment.{Moment}
use Rattle.conc_types.specs.declared.event.RequestId.{RequestId}
use Rattle.conc_types.specs.declared.plan.Plan.{Plan}
use Rattle.conc_types.specs.Plans.{request}
use Rattle.conc_types.specs.Words.{none_or, some_and}
use Rattle.conc_base_law.specs.Alone.{end_of}
use Rattle.conc_base_law.specs.Before.{latest}
use Rattle.conc_base_law.specs.Kinds.{tick_of}
use Rattle.conc_base_law.specs.Next.{forced}
use Rattle.conc_base_law.specs.Places.{is_usable}
use Rattle.conc_base_law.specs.State.{facts_at, is_stopping, now, state}
use Rattle.conc_base_law.proofs.ForcedKinds.{forced_kind, is_forced_kind}
use Rattle.conc_base_law.proofs.Options.{and_then-some}
use Rattle.conc_base_law.proofs.Positions.{reverse-push}
use Rattle.conc_board.specs.declared.board.Board.{Board}
use Rattle.conc_board.specs.Seats.{SameSwitches, plan_of}
use Rattle.conc_pool_seats.specs.Words.{IsPlace, place_word}
use Rattle.conc_journal.specs.Journals.{list_of}
use Rattle.conc_journal.specs.declared.journal.Journal.{Journal}
use Rattle.conc_run_state.specs.Machines.{Machine, plan_of as plan_of_machine}
use Rattle.conc_run_state.specs.Works.{list_in}
use Rattle.conc_run_state.specs.declared.error.RunFail.{RunFail}
use Rattle.conc_run_state.specs.declared.work.Work.{Work}
use Rattle.conc_run_steps.specs.Steps.{plan_in}
use Rattle.conc_run_desk.specs.Desks.{OpensWhatIsUsable, is_usable_in, list_at, place_value, plan_at}
use Rattle.conc_run_desk.specs.Keeping.{end_in, SameList}
use Rattle.conc_run_desk.specs.State.{DeskState}
use Rattle.conc_run_desk.proofs.Ends.{ends_it}
use Rattle.conc_run_workers.specs.Filling.{Adds}
use Rattle.conc_run_workers.specs.Resolving.{MovesAt, SameOpen, StaysAt}

-- an event that is no tick leaves the last reading
now-same : (e : Event) (past : List Event) → tick_of e ≡ None → now (e ∷ past) ≡ now past
unfolding now
now-same e past none = ap (λ (o : Option Moment). option_or o (latest tick_of past)) none

opens-by : (board : Board) (old new : DeskState) → plan_at new ≡ plan_at old → now (reverse (list_at new)) ≡ now (reverse (list_at old)) → SameSwitches old.lead new.lead
    → OpensWhatIsUsable board old → OpensWhatIsUsable board new
opens-by board old new plan same switches opens = record {
  each = λ p near. switches.each (place_word (plan_of board) p) ∙ (opens.each p (subst (λ (q : Plan). IsPlace q p) plan near)
      ∙ ap (λ (z : Plan × Option Moment). place_value (some_and (λ t. is_usable z.0 t p) z.1)) (λ i. (sym plan i, sym same i)));
}

-- after a step on the board alone
pub opens-stays : {board other : Board} {old new : DeskState} → StaysAt other old new → OpensWhatIsUsable board old → OpensWhatIsUsable board new
opens-stays {board} {other} {old} {new} stays opens =
    opens-by board old new (ap (λ (w : Work). plan_in w) stays.same.work) (ap (λ (w : Work). now (reverse (list_in w))) stays.same.work) stays.switches opens

-- after one that opens and closes no place
opens-same : {board : Board} {old new : DeskState} → MovesAt board old new → SameOpen board old.lead new.lead → OpensWhatIsUsable board old → OpensWhatIsUsable board new
opens-same moves same opens = record {
  each = λ p near. same.each p (subst (λ (q : Plan). IsPlace q p) (sym moves.at.plan) near)
      ∙ (opens.each p (subst (λ (w : Work). IsPlace (plan_in w) p) moves.same.work near)
      ∙ ap (λ (w : Work). place_value (is_usable_in w p)) (sym moves.same.work));
}

pub opens-still : {T : Type 0} {board : Board} {old new : DeskState} (answer : Result T RunFail) → MovesAt board old new → SameOpen board old.lead new.lead → OnOk answer (OpensWhatIsUsable board old) → OnOk answer (OpensWhatIsUsable board new)
opens-still (Ok x) moves same opens = opens-same moves same opens
opens-still (Err fail) moves same opens = tt

-- after an event that is no tick
pub opens-added : {board : Board} {old new : DeskState} (e : Event) → tick_of e ≡ None → Adds old new (e ∷ []) → SameSwitches old.lead new.lead → OpensWhatIsUsable board old → OpensWhatIsUsable board new
opens-added {board} {old} {new} e none adds switches opens =
    opens-by board old new adds.plan (ap now (ap reverse adds.list ∙ reverse-push (list_at old) e) ∙ now-same e (reverse (list_at old)) none) switches opens

-- where an end is kept, or none
pub opens-kept : {board : Board} {old new : DeskState} → SameList old new → SameSwitches old.lead new.lead → OpensWhatIsUsable board old → OpensWhatIsUsable board new
opens-kept {board} {old} {new} same switches opens =
    opens-by board old new (ap (λ (m : Machine). plan_of_machine m) same.machine) (ap (λ (j : Journal). now (reverse (list_of j))) same.journal) switches opens

-- ---- events that are no tick

pub forced-no_tick : (plan : Plan) (past : List Event) (e : Event) → forced plan (state plan past) ≡ Some e → tick_of e ≡ None
forced-no_tick plan past e is = go e (ap (none_or is_forced_kind) (sym is) ∙ forced_kind plan (state plan past)) where
  go : (d : Event) → is_forced_kind d ≡ true → tick_of d ≡ None
  go (event.Tick t) kind = cc
  go _ kind = refl

pub end-no_tick : (plan : Plan) (past : List Event) (r : RequestId) (e : Event) → end_in plan past r ≡ Some e → tick_of e ≡ None
end-no_tick plan past r e is =
    let x = and_then-some (end_of plan (state plan past)) (request plan r) e is in
    let its = ends_it (state plan past) plan x.0 e (is_stopping (facts_at (state plan past) x.0)) x.2 in
    subst (λ (d : Event). tick_of d ≡ None) its.2 refl
