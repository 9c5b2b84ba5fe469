-- Until the history is finished somebody can go on.
use Rattle.std.proofs.Common.{◌≡◌, ◌⊎◌, true, false, List, Option, None, Some, is_none, is_some, reverse, sym, refl, ap, ◌∙◌, inl, inr}
use Rattle.std.specs.List.{list_any}
use Rattle.std.proofs.lemmas.Bool.{and_from, cases_Bool, not_from_false}
use Rattle.conc_types.specs.declared.event.Event.{Event}
use Rattle.conc_types.specs.declared.event.Event.TheVariants as event
use Rattle.conc_types.specs.declared.event.PlaceId.{PlaceId}
use Rattle.conc_types.specs.declared.facts.Facts.{Facts}
use Rattle.conc_types.specs.declared.plan.Plan.{Plan}
use Rattle.conc_types.specs.declared.plan.Req.{Req}
use Rattle.conc_types.specs.declared.script.Reading.{Reading}
use Rattle.conc_types.specs.declared.script.Readings.{Readings}
use Rattle.conc_types.specs.Words.{none_or}
use Rattle.conc_base_law.specs.Facts.{facts_of}
use Rattle.conc_base_law.specs.Law.{Finished}
use Rattle.conc_base_law.specs.Next.{forced, is_at_rest, may_start, may_start_somewhere, runs_somewhere}
use Rattle.conc_base_law.specs.Places.{all_places}
use Rattle.conc_base_law.specs.Readings.{next_reading}
use Rattle.conc_base_law.specs.State.{facts_at, is_running, state}
use Rattle.conc_base_law.specs.Words.{Has}
use Rattle.conc_base_law.proofs.FactsAt.{facts_at-state}
use Rattle.conc_base_law.proofs.ForcedKinds.{forced_kind, is_forced_kind}
use Rattle.conc_base_law.proofs.Lists.{any-has, none-has}
use Rattle.conc_board.specs.declared.lead.Lead.{Lead}
use Rattle.conc_pool_seats.specs.Rule.{BoardState}
use Rattle.conc_run_desk.specs.Logging.{IsItsTurn}
use Rattle.conc_run_progress.specs.Logs.{CanLog}
use Rattle.conc_run_progress.specs.Progress.{IsGoingOn, KeptMayCome, SomebodyCanGoOn}
use Rattle.conc_run_progress.proofs.Claims.{NoneRuns}
use Rattle.conc_run_progress.proofs.Comes.{forced_lawful, place_within, start_parts, tick_lawful}
use Rattle.conc_run_progress.proofs.Served.{Moves, run_moves, start_moves}

-- the history is finished, or somebody can go on
abbrev FinishedOrNot : Plan → Readings → List Event → Option Event → Lead → BoardState → Type 0
FinishedOrNot plan readings list kept lead s = Finished plan readings.list list ⊎ SomebodyCanGoOn plan readings.list list kept lead s

-- ---- what runs, and what does not

-- a request that runs does so somewhere
some_place : (o : Option PlaceId) → is_some o ≡ true → (p : PlaceId) × (o ≡ Some p)
some_place None h = cc
some_place (Some p) h = (p, refl)

no_place : (o : Option PlaceId) → is_some o ≡ false → o ≡ None
no_place None h = refl
no_place (Some p) h = cc

-- of the requests of a plan one runs somewhere
pub one_runs : (plan : Plan) (past : List Event) → list_any (runs_somewhere (state plan past)) plan.requests ≡ true → (x : Req) × Has plan.requests x × ((p : PlaceId) × ((facts_of plan past x).place ≡ Some p))
unfolding runs_somewhere
one_runs plan past h =
    let a : (x : Req) × Has plan.requests x × (is_running (facts_at (state plan past) x) ≡ true) = any-has (λ (x : Req). is_running (facts_at (state plan past) x)) plan.requests h in
    (a.0, a.1, some_place (facts_of plan past a.0).place (sym (ap (λ (f : Facts). is_running f) (facts_at-state plan past a.0 a.1)) ∙ a.2))

-- or none does
pub none_runs : (plan : Plan) (past : List Event) → list_any (runs_somewhere (state plan past)) plan.requests ≡ false → NoneRuns plan past
unfolding runs_somewhere
none_runs plan past h y hy =
    no_place (facts_of plan past y).place
    (sym (ap (λ (f : Facts). is_running f) (facts_at-state plan past y hy)) ∙ none-has (λ (x : Req). is_running (facts_at (state plan past) x)) plan.requests y h hy)

-- ---- what the resolver logs by itself

-- the end that is kept
kept_logs : (plan : Plan) (readings : List Reading) (list : List Event) (e : Event) → KeptMayCome plan readings list (Some e) → CanLog plan readings list (Some e)
kept_logs plan readings list (event.Ended r o x) may = record { event = event.Ended r o x; needs_none = refl; turn = refl; no_resume = refl; lawful = may }
kept_logs plan readings list _ may = absurd may

-- what is forced is no end
forced_turn : (plan : Plan) (past : List Event) (e : Event) → forced plan (state plan past) ≡ Some e → IsItsTurn None e
forced_turn plan past e is = by e (ap (none_or is_forced_kind) (sym is) ∙ forced_kind plan (state plan past)) where
  by : (d : Event) → is_forced_kind d ≡ true → IsItsTurn None d
  by (event.Ended r o x) h = cc
  by _ h = tt

module _ (plan : Plan) (readings : Readings) (list : List Event) (lead : Lead) (s : BoardState) (going : IsGoingOn plan readings list None lead s) where
  at_rest : forced plan (state plan (reverse list)) ≡ None → list_any (runs_somewhere (state plan (reverse list))) plan.requests ≡ false
      → list_any (may_start_somewhere plan (state plan (reverse list))) plan.requests ≡ false → is_at_rest plan (state plan (reverse list)) ≡ true
  unfolding is_at_rest
  at_rest calm none stuck = and_from _ _ (ap is_none calm) (and_from _ _ (not_from_false _ none) (not_from_false _ stuck))

  -- at rest the next reading is taken, if one is left
  rests : forced plan (state plan (reverse list)) ≡ None → is_at_rest plan (state plan (reverse list)) ≡ true → (o : Option Reading) → next_reading readings.list (reverse list) ≡ o → FinishedOrNot plan readings list None lead s
  rests calm rest None next = inl (rest, ap is_none next)
  rests calm rest (Some q) next = inr (inl (record {
    event = event.Tick q.moment;
    needs_none = inr (record { reading = q; next = next; tick = refl });
    turn = tt;
    no_resume = refl;
    lawful = tick_lawful plan readings.list list q going.lawful calm rest next;
  }))

  -- a request that could start somewhere
  starts : forced plan (state plan (reverse list)) ≡ None → NoneRuns plan (reverse list) → list_any (may_start_somewhere plan (state plan (reverse list))) plan.requests ≡ true → Moves plan readings list lead s
  unfolding may_start_somewhere
  starts calm none some =
      let a = any-has (λ (x : Req). list_any (may_start plan (state plan (reverse list)) x) (all_places plan)) plan.requests some in
      let b = any-has (may_start plan (state plan (reverse list)) a.0) (all_places plan) a.2 in
      start_moves plan readings list lead s going calm none a.0 b.0 a.1 (record { within = place_within plan b.0 b.1 }) (start_parts plan (state plan (reverse list)) a.0 b.0 b.2)

  by_forced : (due : Option Event) → forced plan (state plan (reverse list)) ≡ due → FinishedOrNot plan readings list None lead s
  by_forced (Some e) is =
      let l = forced_lawful plan readings.list list e going.lawful is in
      inr (inl (record { event = e; needs_none = inl is; turn = forced_turn plan (reverse list) e is; no_resume = l.0; lawful = l.1 }))
  by_forced None is = elim (cases_Bool (list_any (runs_somewhere (state plan (reverse list))) plan.requests)) [
    | inl some ↦ let r = one_runs plan (reverse list) some in inr (inr (run_moves plan readings list lead s going is r.0 r.2.0 r.1 r.2.1))
    | inr none ↦ elim (cases_Bool (list_any (may_start_somewhere plan (state plan (reverse list))) plan.requests)) [
      | inl some ↦ inr (inr (starts is (none_runs plan (reverse list) none) some))
      | inr stuck ↦ rests is (at_rest is none stuck) (next_reading readings.list (reverse list)) refl
    ]
  ]

pub alive : (plan : Plan) (readings : Readings) (list : List Event) (kept : Option Event) (lead : Lead) (s : BoardState) → IsGoingOn plan readings list kept lead s
    → Finished plan readings.list list ⊎ SomebodyCanGoOn plan readings.list list kept lead s
alive plan readings list (Some e) lead s going = inr (inl (kept_logs plan readings.list list e going.kept_may_come))
alive plan readings list None lead s going = by_forced plan readings list lead s going (forced plan (state plan (reverse list))) refl
