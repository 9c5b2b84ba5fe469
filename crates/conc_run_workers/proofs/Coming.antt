-- Which events may come next at a desk.
use Rattle.std.proofs.Common.{◌≡◌, Bool, true, false, ◌&&◌, ◌==◌, List, [], ◌∷◌, ◌++◌, reverse, Option, None, Some, is_some, is_none, refl, sym, ◌∙◌, ap, subst}
use Rattle.std.specs.Option.{option_and_then, option_or}
use Rattle.std.proofs.lemmas.Bool.{and_from, cond-false}
use Rattle.conc_types.specs.declared.event.Event.{Event}
use Rattle.conc_types.specs.declared.event.Event.TheVariants as event
use Rattle.conc_types.specs.declared.event.PlaceId.{PlaceId}
use Rattle.conc_types.specs.declared.event.RequestId.{RequestId}
use Rattle.conc_types.specs.declared.plan.Plan.{Plan}
use Rattle.conc_types.specs.declared.script.Reading.{Reading}
use Rattle.conc_types.specs.Plans.{request}
use Rattle.conc_types.specs.Words.{none_or, some_and}
use Rattle.conc_base_law.specs.Alone.{choice, first_end, first_start, next_alone, next_tick}
use Rattle.conc_base_law.specs.Kinds.{is_resume}
use Rattle.conc_base_law.specs.Law.{Finished, is_lawful, Lawful, may_follow}
use Rattle.conc_base_law.specs.Next.{forced, is_allowed, is_at_rest, may_come, may_start, may_take, obeys}
use Rattle.conc_base_law.specs.Readings.{next_reading}
use Rattle.conc_base_law.specs.State.{state}
use Rattle.conc_base_law.proofs.AloneLawful.{next_alone-follows}
use Rattle.conc_base_law.proofs.EqualEvents.{eqb-refl}
use Rattle.conc_base_law.proofs.ForcedKinds.{forced_kind, is_forced_kind}
use Rattle.conc_base_law.proofs.Positions.{reverse-push}
use Rattle.conc_run_choice.proofs.Pushes.{is_lawful-more}
use Rattle.conc_run_state.specs.Machines.{Machine, plan_of, readings_of, StandsFor}
use Rattle.conc_run_desk.specs.Desks.{list_at, plan_at}
use Rattle.conc_run_desk.specs.Logging.{IsItsTurn, WasSeen}
use Rattle.conc_run_desk.specs.State.{DeskState}

module _ (plan : Plan) (readings : List Reading) (list : List Event) (lawful : Lawful plan readings list) where
  -- the list with an event that may follow
  pub lawful-with : (e : Event) → is_resume e ≡ false → may_follow plan (Some readings) (reverse list) e ≡ true → Lawful plan readings (list ++ e ∷ [])
  lawful-with e none may = ap (is_lawful plan readings) (reverse-push list e) ∙ is_lawful-more plan readings (reverse list) e none lawful may

  -- ---- what is forced

  forced-next : (e : Event) → forced plan (state plan (reverse list)) ≡ Some e → next_alone plan readings (reverse list) ≡ Some e
  unfolding next_alone choice
  forced-next e is =
      let s = state plan (reverse list) in
      ap (λ (o : Option Event). option_or o (option_or (first_end plan s) (option_or (first_start plan s) (next_tick plan s (next_reading readings (reverse list)))))) is

  pub forced-no_resume : (e : Event) → forced plan (state plan (reverse list)) ≡ Some e → is_resume e ≡ false
  forced-no_resume e is = (next_alone-follows plan readings (reverse list) e (forced-next e is)).0

  pub forced-lawful : (e : Event) → forced plan (state plan (reverse list)) ≡ Some e → Lawful plan readings (list ++ e ∷ [])
  forced-lawful e is = lawful-with e (forced-no_resume e is) (next_alone-follows plan readings (reverse list) e (forced-next e is)).1

  -- ---- what is allowed, where nothing is forced

  module _ (calm : forced plan (state plan (reverse list)) ≡ None) where
    allowed-lawful : (e : Event) → is_resume e ≡ false → is_allowed plan (state plan (reverse list)) (Some (next_reading readings (reverse list))) e ≡ true → Lawful plan readings (list ++ e ∷ [])
    unfolding may_follow may_come
    allowed-lawful e none allowed =
        let s = state plan (reverse list) in
        lawful-with e none (cond-false (is_resume e) _ _ none ∙ (ap (obeys plan s (Some (next_reading readings (reverse list))) e) calm ∙ allowed))

    pub start-lawful : (r : RequestId) (p : PlaceId) → some_and (λ q. may_start plan (state plan (reverse list)) q p) (request plan r) ≡ true → Lawful plan readings (list ++ event.Started r p ∷ [])
    unfolding is_allowed
    start-lawful r p may = allowed-lawful (event.Started r p) refl may

    pub tick-lawful : (q : Reading) → next_reading readings (reverse list) ≡ Some q → some_and (may_take plan (state plan (reverse list))) (next_reading readings (reverse list)) ≡ true
        → Lawful plan readings (list ++ event.Tick q.moment ∷ [])
    unfolding is_allowed Rattle.conc_base_law.specs.Next.may_tick
    tick-lawful q next may =
        let s = state plan (reverse list) in
        allowed-lawful (event.Tick q.moment) refl
        (ap (some_and (λ x. q.moment.seconds == x.moment.seconds && may_take plan s x)) next ∙ and_from _ _ (eqb-refl q.moment.seconds) (ap (some_and (may_take plan s)) (sym next) ∙ may))

-- ---- what a desk asks of an event

-- what is forced is no start and no end
pub forced-seen : (plan : Plan) (past : List Event) (e : Event) (desk : DeskState) → forced plan (state plan past) ≡ Some e → WasSeen e desk × IsItsTurn None e
forced-seen plan past e desk is = go e (ap (none_or is_forced_kind) (sym is) ∙ forced_kind plan (state plan past)) where
  go : (d : Event) → is_forced_kind d ≡ true → WasSeen d desk × IsItsTurn None d
  go (event.Started r p) kind = cc
  go (event.Ended r o x) kind = cc
  go _ kind = (tt, tt)

-- ---- what a machine answers of the list of its desk

module _ (machine : Machine) (desk : DeskState) (same : machine ≡ desk.work.machine) (stands : StandsFor machine (reverse (list_at desk))) where
  pub forced-at : (o due : Option Event) → ((past : List Event) → StandsFor machine past → o ≡ forced (plan_of machine) (state (plan_of machine) past)) → o ≡ due
      → forced (plan_at desk) (state (plan_at desk) (reverse (list_at desk))) ≡ due
  forced-at o due answers is =
      subst (λ (m : Machine). forced (plan_of m) (state (plan_of m) (reverse (list_at desk))) ≡ due) same (sym (answers (reverse (list_at desk)) stands) ∙ is)

  pub next-at : (o : Option Reading) (readings : List Reading) → readings_of machine ≡ Some readings
      → ((past : List Event) → StandsFor machine past → o ≡ option_and_then (λ known. next_reading known past) (readings_of machine)) → next_reading readings (reverse (list_at desk)) ≡ o
  next-at o readings known answers =
      sym (answers (reverse (list_at desk)) stands ∙ ap (option_and_then (λ (l : List Reading). next_reading l (reverse (list_at desk)))) known)

  pub may_take-at : (b : Bool) (readings : List Reading) → readings_of machine ≡ Some readings
      → ((past : List Event) → StandsFor machine past → b ≡ some_and (may_take (plan_of machine) (state (plan_of machine) past)) (option_and_then (λ known. next_reading known past) (readings_of machine))) → b ≡ true
      → some_and (may_take (plan_at desk) (state (plan_at desk) (reverse (list_at desk)))) (next_reading readings (reverse (list_at desk))) ≡ true
  may_take-at b readings known answers is =
      let past = reverse (list_at desk) in
      subst (λ (m : Machine). some_and (may_take (plan_of m) (state (plan_of m) past)) (next_reading readings past) ≡ true) same
      (sym (answers past stands ∙ ap (λ (o : Option (List Reading)). some_and (may_take (plan_of machine) (state (plan_of machine) past)) (option_and_then (λ (l : List Reading). next_reading l past) o)) known) ∙ is)

  pub may_start-at : (b : Bool) (r : RequestId) (p : PlaceId)
      → ((past : List Event) → StandsFor machine past → b ≡ some_and (λ q. may_start (plan_of machine) (state (plan_of machine) past) q p) (request (plan_of machine) r)) → b ≡ true
      → some_and (λ q. may_start (plan_at desk) (state (plan_at desk) (reverse (list_at desk))) q p) (request (plan_at desk) r) ≡ true
  may_start-at b r p answers is =
      let past = reverse (list_at desk) in
      subst (λ (m : Machine). some_and (λ q. may_start (plan_of m) (state (plan_of m) past) q p) (request (plan_of m) r) ≡ true) same (sym (answers past stands) ∙ is)

  pub finished-at : (b : Bool) (o : Option Reading) (readings : List Reading) → readings_of machine ≡ Some readings
      → ((past : List Event) → StandsFor machine past → b ≡ is_at_rest (plan_of machine) (state (plan_of machine) past)) → b ≡ true
      → ((past : List Event) → StandsFor machine past → o ≡ option_and_then (λ known. next_reading known past) (readings_of machine)) → is_none o ≡ true
      → Finished (plan_at desk) readings (list_at desk)
  finished-at b o readings known rests rest answers none =
      let past = reverse (list_at desk) in
      (subst (λ (m : Machine). is_at_rest (plan_of m) (state (plan_of m) past) ≡ true) same (sym (rests past stands) ∙ rest), ap (λ (x : Option Reading). is_none x) (next-at o readings known answers) ∙ none)

pub not-some : (o : Option Event) → is_some o ≡ false → o ≡ None
not-some None is = refl
not-some (Some e) is = cc
