-- In a lawful list a request that was started in this life runs or is completed.
use Rattle.std.proofs.Common.{◌≡◌, ◌⊎◌, ◌||◌, Bool, true, false, is_some, List, [], ◌∷◌, Option, None, Some, if◌then◌else◌, refl, sym, ◌∙◌, ap, inl, inr}
use Rattle.std.specs.Bool.{then_some}
use Rattle.std.specs.Option.{option_or}
use Rattle.std.proofs.lemmas.Bool.{and_parts, both_ways, cases_Bool, cond-true}
use Rattle.conc_types.specs.declared.event.Event.{Event}
use Rattle.conc_types.specs.declared.event.Event.TheVariants as event
use Rattle.conc_types.specs.declared.event.PlaceId.{PlaceId}
use Rattle.conc_types.specs.declared.event.RequestId.{RequestId}
use Rattle.conc_types.specs.declared.plan.Plan.{Plan}
use Rattle.conc_types.specs.declared.plan.Req.{Req}
use Rattle.conc_base_law.specs.Before.{last_life, latest_since, occurs}
use Rattle.conc_base_law.specs.Facts.{completes, facts_of, running_place, was_completed, was_started}
use Rattle.conc_base_law.specs.Kinds.{ends_run, is_resume, start_place, starts}
use Rattle.conc_base_law.specs.Law.{is_lawful_so_far, may_follow}
use Rattle.conc_base_law.specs.Words.{Has, id_eq}
use Rattle.conc_base_law.proofs.Completed.{let_not_completed, was_completed-by, was_completed-more}
use Rattle.conc_run_desk.proofs.Ties.{runs_not_interrupted}
use Rattle.conc_run_progress.proofs.RunsGo.{start_there, started_before}

-- ---- one more event

-- what runs does so still after an event that does not end its run
runs_on : (past : List Event) (e : Event) (r : RequestId) (p : PlaceId) → ends_run r e ≡ false → running_place past r ≡ Some p → (u : PlaceId) × (running_place (e ∷ past) r ≡ Some u)
unfolding running_place
runs_on past e r p on at = by (start_place r e) where
  rest : (if ends_run r e then None else latest_since (start_place r) (ends_run r) past) ≡ Some p
  rest = ap (λ b. if b then None else latest_since (start_place r) (ends_run r) past) on ∙ at

  by : (o : Option PlaceId) → (u : PlaceId) × (option_or o (if ends_run r e then None else latest_since (start_place r) (ends_run r) past) ≡ Some u)
  by None = (p, rest)
  by (Some u) = (u, refl)

-- in the first moment of a life nothing was started in it
none_started : (past : List Event) (e : Event) (r : RequestId) → is_resume e ≡ true → was_started (e ∷ past) r ≡ true → ⊥
unfolding was_started last_life
none_started past e r resume was =
    let none : false ≡ true = sym (ap (occurs (starts r)) (cond-true (is_resume e) [] (e ∷ last_life past) resume)) ∙ was in
    cc

nor_before : (r : RequestId) → was_started [] r ≡ true → ⊥
unfolding was_started last_life
nor_before r was = cc

or_nothing : (b : Bool) → (b || false) ≡ true → b ≡ true
or_nothing true h = h
or_nothing false h = h

module _ (plan : Plan) (r : Req) (hr : Has plan.requests r) where
  -- it runs, or is completed
  abbrev Went : List Event → Type 0
  Went past = ((p : PlaceId) × (running_place past r.number ≡ Some p)) ⊎ (was_completed plan past r ≡ true)

  -- an end of its run completes it, since no request is interrupted that was started in this life
  ended : (past : List Event) (e : Event) → may_follow plan None past e ≡ true → was_started past r.number ≡ true → ends_run r.number e ≡ true → was_completed plan (e ∷ past) r ≡ true
  unfolding completes facts_of
  ended past (event.Ended q o x) may was h =
      was_completed-by plan past r (event.Ended q o x) (ap (λ b. is_some (then_some b o)) (or_nothing (id_eq q r.number) h))
  ended past (event.Interrupt q) may was h =
      absurd (both_ways (id_eq q r.number) (runs_not_interrupted plan None past r hr q may was) h)
  ended past _ may was h = cc

  went_on : (past : List Event) (e : Event) → may_follow plan None past e ≡ true → was_started past r.number ≡ true → Went past → Went (e ∷ past)
  went_on past e may was (inr done) = inr (was_completed-more plan past r e done)
  went_on past e may was (inl at) = elim (cases_Bool (ends_run r.number e)) [
    | inl end ↦ inr (ended past e may was end)
    | inr on ↦ inl (runs_on past e r.number at.0 on at.1)
  ]

  went : (past : List Event) → is_lawful_so_far plan past ≡ true → was_started past r.number ≡ true → Went past
  unfolding is_lawful_so_far
  went [] lawful was = absurd (nor_before r.number was)
  went (e ∷ past) lawful was =
      let l = and_parts (is_lawful_so_far plan past) (may_follow plan None past e) lawful in
      elim (cases_Bool (is_resume e)) [
        | inl resume ↦ absurd (none_started past e r.number resume was)
        | inr no_resume ↦ elim (cases_Bool (starts r.number e)) [
          | inl start ↦ let t = start_there past e r.number start in inl (t.0, t.2)
          | inr other ↦
              let before = started_before past e r.number no_resume other was in
              went_on past e l.1 before (went past l.0 before)
        ]
      ]

  -- so one that is let runs
  pub let_runs : (past : List Event) → is_lawful_so_far plan past ≡ true → (facts_of plan past r).started ≡ true → (facts_of plan past r).let_out ≡ true → (facts_of plan past r).place ≡ None → ⊥
  unfolding facts_of
  let_runs past lawful was lets none = elim (went past lawful was) [
    | inl at ↦ let never : None ≡ Some at.0 = sym none ∙ at.1 in cc
    | inr done ↦ both_ways (was_completed plan past r) (let_not_completed plan past r hr lawful lets) done
  ]
