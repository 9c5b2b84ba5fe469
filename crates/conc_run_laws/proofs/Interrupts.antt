-- A life interrupts first what an earlier one left running.
use Rattle.std.proofs.Common.{◌≡◌, ◌⊎◌, inl, inr, ℕ, zero, suc, ◌+◌, ◌<◌, ◌≤◌, true, false, not, List, [], ◌∷◌, length, reverse, take, None, Some, refl, sym, ◌∙◌, ap, subst, arith}
use Rattle.std.specs.Prelude.{slice_get}
use Rattle.std.proofs.lemmas.Bool.{and_from, cases_Bool, cases_order}
use Rattle.std.proofs.lemmas.Option.{same_Some}
use Rattle.conc_types.specs.declared.event.Event.{Event}
use Rattle.conc_types.specs.declared.event.Event.TheVariants as event
use Rattle.conc_types.specs.declared.event.RequestId.{RequestId}
use Rattle.conc_types.specs.declared.plan.Plan.{Plan}
use Rattle.conc_types.specs.declared.plan.Req.{Req}
use Rattle.conc_types.specs.declared.script.Reading.{Reading}
use Rattle.conc_base_law.specs.Alone.{opening}
use Rattle.conc_base_law.specs.Before.{last_life}
use Rattle.conc_base_law.specs.Facts.{facts_of, running_place, runs, was_started}
use Rattle.conc_base_law.specs.Law.{may_follow}
use Rattle.conc_base_law.specs.Next.{forced, forced_interrupt, is_left_running}
use Rattle.conc_base_law.specs.Readings.{next_reading}
use Rattle.conc_base_law.specs.State.{facts_at, state}
use Rattle.conc_base_law.specs.Words.{Has, id_eq}
use Rattle.conc_base_law.proofs.Comes.{came}
use Rattle.conc_base_law.proofs.EqualEvents.{id_same}
use Rattle.conc_base_law.proofs.FactsAt.{facts_at-state, is_running-state}
use Rattle.conc_base_law.proofs.FirstBy.{find-found}
use Rattle.conc_base_law.proofs.Positions.{reverse-push, slice_get-some, take-suc_at}
use Rattle.conc_run_laws.specs.Lives.{is_interrupt, OnlyInterrupts}
use Rattle.conc_run_laws.proofs.Added.{ComesAfter, EachComesAfter}

-- ---- one event

-- r runs, and no start of it stands in the last life
abbrev pub IsLeft : List Event → RequestId → Type 0
IsLeft past id = (runs past id ≡ true) × (was_started past id ≡ false)

-- so the state says
left-state : (plan : Plan) (past : List Event) (r : Req) → Has plan.requests r → IsLeft past r.number → is_left_running (state plan past) r ≡ true
unfolding is_left_running facts_of
left-state plan past r has left =
    let fresh : (facts_at (state plan past) r).started ≡ false = ap (λ f. f.started) (facts_at-state plan past r has) ∙ left.1 in
    and_from _ _ (is_running-state plan past r has ∙ left.0) (ap not fresh)

-- then an interrupt is forced
left-forced : (plan : Plan) (past : List Event) (r : Req) → Has plan.requests r → IsLeft past r.number → (q : Req) × (forced plan (state plan past) ≡ Some (event.Interrupt q.number))
unfolding forced forced_interrupt
left-forced plan past r has left =
    let found = find-found (is_left_running (state plan past)) plan.requests r has (left-state plan past r has left) in
    (found.0, rw (found.1) refl)

-- so what comes is that interrupt
left-next : (plan : Plan) (readings : List Reading) (past : List Event) (r : Req) (e : Event) → Has plan.requests r → IsLeft past r.number → ComesAfter plan readings past e
    → (q : Req) × (e ≡ event.Interrupt q.number)
unfolding may_follow
left-next plan readings past r e has left comes =
    let due = left-forced plan past r has left in
    elim (came plan (state plan past) (Some (next_reading readings past)) e comes.0 comes.1) [
      | inl is ↦ (due.0, same_Some e (event.Interrupt due.0.number) (sym is ∙ due.1))
      | inr free ↦ let two : None ≡ Some (event.Interrupt due.0.number) = sym free.0 ∙ due.1 in absurd (cc two)
    ]

-- the interrupt of another one leaves it so
left-other : (past : List Event) (id q : RequestId) → id_eq q id ≡ false → IsLeft past id → IsLeft (event.Interrupt q ∷ past) id
unfolding runs running_place was_started last_life
left-other past id q other left = (rw other left.0, left.1)

-- ---- the opening

-- a resume leaves running what runs
left-resume : (past : List Event) (id : RequestId) → runs past id ≡ true → IsLeft (event.Resume ∷ past) id
unfolding runs running_place was_started last_life
left-resume past id is = (is, refl)

pub left-opening : (found : List Event) (id : RequestId) → runs (reverse found) id ≡ true → IsLeft (reverse (opening found)) id
unfolding runs running_place
left-opening [] id is = cc is
left-opening (e ∷ es) id is = subst (λ (l : List Event). IsLeft l id) (sym (reverse-push (e ∷ es) event.Resume)) (left-resume (reverse (e ∷ es)) id is)

-- ---- a life

-- it was interrupted within these positions, after nothing but interrupts
pub record IsInterruptedIn (from to : ℕ) (list : List Event) (id : RequestId) : Type 0 where
  pub position : ℕ
  pub behind : from ≤ position
  pub within : position < to
  pub there : slice_get list position ≡ Some (event.Interrupt id)
  pub first : OnlyInterrupts from position list

-- or it still runs, after nothing but interrupts
pub record StillRuns (from to : ℕ) (list : List Event) (id : RequestId) : Type 0 where
  pub left : IsLeft (reverse (take to list)) id
  pub only : OnlyInterrupts from to list

module _ (plan : Plan) (readings : List Reading) (n : ℕ) (list : List Event) (r : Req) (has : Has plan.requests r) (each : EachComesAfter plan readings n list) where
  only-more : (k : ℕ) (q : RequestId) → OnlyInterrupts n (n + k) list → slice_get list (n + k) ≡ Some (event.Interrupt q) → OnlyInterrupts n (n + suc k) list
  only-more k q only is i e from below there = elim (cases_order i (n + k)) [
    | inl same ↦ let at : slice_get list i ≡ Some (event.Interrupt q) = ap (slice_get list) same ∙ is in let known : e ≡ event.Interrupt q = cc (at, there) in ap is_interrupt known
    | inr (inl less) ↦ only i e from less there
    | inr (inr more) ↦ absurd (omega (arith, below, more))
  ]

  step : (k : ℕ) → n + suc k ≤ length list → StillRuns n (n + k) list r.number → IsInterruptedIn n (n + suc k) list r.number ⊎ StillRuns n (n + suc k) list r.number
  step k fits still =
      let past : List Event = reverse (take (n + k) list) in
      let here : (e : Event) × (slice_get list (n + k) ≡ Some e) = slice_get-some list (n + k) (omega (arith, fits)) in
      let next = left-next plan readings past r here.0 has still.left (each (n + k) here.0 (omega arith) here.1) in
      let at : slice_get list (n + k) ≡ Some (event.Interrupt next.0.number) = here.1 ∙ ap (λ (e : Event). Some e) next.1 in
      let same : n + suc k ≡ suc (n + k) = omega arith in
      let past_is : reverse (take (n + suc k) list) ≡ event.Interrupt next.0.number ∷ past =
      ap (λ (i : ℕ). reverse (take i list)) same ∙ ap reverse (take-suc_at list (n + k) (event.Interrupt next.0.number) at) ∙ reverse-push (take (n + k) list) (event.Interrupt next.0.number) in
      elim (cases_Bool (id_eq next.0.number r.number)) [
        | inl own ↦ inl (record {
          position = n + k;
          behind = omega arith;
          within = omega arith;
          there = subst (λ (id : RequestId). slice_get list (n + k) ≡ Some (event.Interrupt id)) (id_same next.0.number r.number own) at;
          first = still.only;
        })
        | inr other ↦ inr (record {
          left = subst (λ (l : List Event). IsLeft l r.number) (sym past_is) (left-other past r.number next.0.number other still.left);
          only = only-more k next.0.number still.only at;
        })
      ]

  wider : (k : ℕ) → IsInterruptedIn n (n + k) list r.number → IsInterruptedIn n (n + suc k) list r.number
  wider k is = record { position = is.position; behind = is.behind; within = omega (arith, is.within); there = is.there; first = is.first }

  pub walk : IsLeft (reverse (take n list)) r.number → (k : ℕ) → n + k ≤ length list → IsInterruptedIn n (n + k) list r.number ⊎ StillRuns n (n + k) list r.number
  walk left zero fits = inr (record {
    left = let same : n + zero ≡ n = omega arith in subst (λ (i : ℕ). IsLeft (reverse (take i list)) r.number) (sym same) left;
    only = λ i e from below there. absurd (omega (arith, from, below));
  })
  walk left (suc k) fits = elim (walk left k (omega (arith, fits))) [
    | inl is ↦ inl (wider k is)
    | inr still ↦ step k fits still
  ]
