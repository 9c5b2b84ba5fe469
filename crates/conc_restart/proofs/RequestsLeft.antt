-- How the events lower what all requests of a plan have left in a life.
use Rattle.std.proofs.Common.{◌≡◌, ◌==◌, ℕ, ◌+◌, ◌*◌, ◌<◌, ◌≤◌, true, false, List, ◌∷◌, length, Option, None, Some, refl, sym, ◌∙◌, ap, inl, inr, arith}
use Rattle.std.specs.List.{sum_by}
use Rattle.std.proofs.lemmas.Bool.{cases_Bool}
use Rattle.conc_types.specs.declared.event.Event.{Event}
use Rattle.conc_types.specs.declared.event.Event.TheVariants as event
use Rattle.conc_types.specs.declared.event.RequestId.{RequestId}
use Rattle.conc_types.specs.declared.plan.Plan.{Plan}
use Rattle.conc_types.specs.declared.plan.Req.{Req}
use Rattle.conc_types.specs.declared.script.Act.{Act}
use Rattle.conc_types.specs.declared.script.Act.TheVariants as act
use Rattle.conc_types.specs.declared.script.Reading.{Reading}
use Rattle.conc_types.specs.Words.{some_and}
use Rattle.conc_base_law.specs.Facts.{cancels, facts_of, holds, is_let, unlets}
use Rattle.conc_base_law.specs.Kinds.{act_of, is_cancel, is_hold, is_resume}
use Rattle.conc_base_law.specs.Law.{is_lawful_so_far, may_follow}
use Rattle.conc_base_law.specs.Plans.{stages_of}
use Rattle.conc_base_law.specs.Words.{Has, is_set}
use Rattle.conc_base_law.proofs.Others.{command_lets_not, does, is_about, others_kept, others_let}
use Rattle.conc_base_law.proofs.Remaining.{IsAboutOne}
use Rattle.conc_base_law.proofs.Sums.{sum_by-below, sum_by-less}
use Rattle.conc_base_law.proofs.UsesUp.{facts-let}
use Rattle.conc_base_law.proofs.Weights.{IsKept, left-kept, left-unlet}
use Rattle.conc_restart.proofs.Numbered.{one_if, plan-numbered, sum_by-more, sum_by-one_more}
use Rattle.conc_restart.proofs.OwnLeft.{about_less, own_left, own_left-most, own_left-program, own_left-set}
use Rattle.conc_restart.proofs.SetsLeft.{set_left-kept}
use Rattle.conc_restart.proofs.StageCounts.{stages-enough}

-- ---- one request

-- where all is kept and the let too, a request has no more events left
kept_below : (plan : Plan) (past : List Event) (r : Req) (e : Event) → IsKept (facts_of plan past r) (facts_of plan (e ∷ past) r)
    → is_let plan (e ∷ past) r ≡ is_let plan past r → own_left plan (e ∷ past) r ≤ own_left plan past r
kept_below plan past r e kept l = elim (cases_Bool (is_set r.item)) [
  | inl set ↦
      omega (
        arith,
        own_left-set plan past r set,
        own_left-set plan (e ∷ past) r set,
        set_left-kept (length (stages_of plan r)) (facts_of plan past r) (facts_of plan (e ∷ past) r) kept,
      )
  | inr set ↦
      omega (
        arith,
        own_left-program plan past r set,
        own_left-program plan (e ∷ past) r set,
        left-kept r (facts_of plan past r) (facts_of plan (e ∷ past) r) kept (facts-let plan (e ∷ past) r ∙ (l ∙ sym (facts-let plan past r))),
      )
]

-- an event keeps or lowers what is left of each request, unless it does a command
each_below : (plan : Plan) (readings : Option (List Reading)) (past : List Event) (r : Req) (e : Event) → Has plan.requests r → is_lawful_so_far plan past ≡ true
    → may_follow plan readings past e ≡ true → is_resume e ≡ false → does e ≡ false → own_left plan (e ∷ past) r ≤ own_left plan past r
each_below plan readings past r e hr lawful m n d = elim (cases_Bool (is_about r.number e)) [
  | inl h ↦ omega (arith, about_less plan readings past r e hr lawful m h)
  | inr h ↦ kept_below plan past r e (others_kept plan past r e n h) (others_let plan past r e d h)
]

-- ---- a command

-- the number of the request whose let an act may take
abbrev taken_by : Option Act → ℕ
taken_by (Some (act.Hold q)) = q.number
taken_by (Some (act.Cancel q)) = q.number
taken_by _ = 0

-- an act that may not take the let of a request is no hold and no cancel of it
takes_not : (r : RequestId) (o : Option Act) → (taken_by o == r.number) ≡ false → (some_and (is_hold r) o ≡ false) × (some_and (is_cancel r) o ≡ false)
takes_not r None h = (refl, refl)
takes_not r (Some (act.Hold q)) h = (h, refl)
takes_not r (Some (act.Cancel q)) h = (refl, h)
takes_not r (Some _) h = (refl, refl)

-- a command leaves the let of each other request
command_keeps_let : (plan : Plan) (past : List Event) (r : Req) (n : ℕ) → (taken_by (act_of plan (event.Command n)) == r.number.number) ≡ false
    → is_let plan (event.Command n ∷ past) r ≡ is_let plan past r
unfolding is_let unlets holds cancels
command_keeps_let plan past r n h =
    let p : (some_and (is_hold r.number) (act_of plan (event.Command n)) ≡ false) × (some_and (is_cancel r.number) (act_of plan (event.Command n)) ≡ false) =
    takes_not r.number (act_of plan (event.Command n)) h in
    rw (p.0, p.1) refl

-- a command raises what is left of a request by one at most
command_most : (plan : Plan) (past : List Event) (r : Req) (n : ℕ) → own_left plan (event.Command n ∷ past) r ≤ own_left plan past r + 1
command_most plan past r n =
    let next = event.Command n ∷ past in
    let kept : IsKept (facts_of plan past r) (facts_of plan next r) = others_kept plan past r (event.Command n) refl refl in
    elim (cases_Bool (is_set r.item)) [
      | inl set ↦
          omega (
            arith,
            own_left-set plan past r set,
            own_left-set plan next r set,
            set_left-kept (length (stages_of plan r)) (facts_of plan past r) (facts_of plan next r) kept,
          )
      | inr set ↦
          omega (
            arith,
            own_left-program plan past r set,
            own_left-program plan next r set,
            left-unlet r (facts_of plan past r) (facts_of plan next r) kept
                (λ l. facts-let plan past r ∙ command_lets_not plan past r n (sym (facts-let plan next r) ∙ l)) (λ l. set),
          )
    ]

-- and that of one request alone
command_one : (plan : Plan) (past : List Event) (r : Req) (n : ℕ)
    → own_left plan (event.Command n ∷ past) r ≤ own_left plan past r + one_if (taken_by (act_of plan (event.Command n)) == r.number.number)
command_one plan past r n = elim (cases_Bool (taken_by (act_of plan (event.Command n)) == r.number.number)) [
  | inl hit ↦
      let one : one_if (taken_by (act_of plan (event.Command n)) == r.number.number) ≡ 1 = ap one_if hit in
      omega (arith, one, command_most plan past r n)
  | inr miss ↦
      let kept : IsKept (facts_of plan past r) (facts_of plan (event.Command n ∷ past) r) = others_kept plan past r (event.Command n) refl refl in
      omega (arith, kept_below plan past r (event.Command n) kept (command_keeps_let plan past r n miss))
]

-- ---- all requests

-- what all requests have left together
abbrev pub all_left : Plan → List Event → ℕ
all_left plan past = sum_by (own_left plan past) plan.requests

-- no event raises it, unless it does a command
pub all_below : (plan : Plan) (readings : Option (List Reading)) (past : List Event) (e : Event) → is_lawful_so_far plan past ≡ true
    → may_follow plan readings past e ≡ true → is_resume e ≡ false → does e ≡ false → all_left plan (e ∷ past) ≤ all_left plan past
all_below plan readings past e lawful m n d =
    sum_by-below (own_left plan (e ∷ past)) (own_left plan past) plan.requests (λ r hr. each_below plan readings past r e hr lawful m n d)

-- an event about a request lowers it
pub all_less : (plan : Plan) (readings : Option (List Reading)) (past : List Event) (e : Event) → is_lawful_so_far plan past ≡ true
    → may_follow plan readings past e ≡ true → is_resume e ≡ false → does e ≡ false → IsAboutOne plan e → all_left plan (e ∷ past) < all_left plan past
all_less plan readings past e lawful m n d p =
    sum_by-less (own_left plan (e ∷ past)) (own_left plan past) plan.requests p.0 p.1 (about_less plan readings past p.0 e p.1 lawful m p.2)
    (λ r hr. each_below plan readings past r e hr lawful m n d)

-- a command raises it by one at most
pub all_grow : (plan : Plan) (past : List Event) (n : ℕ) → all_left plan (event.Command n ∷ past) ≤ all_left plan past + 1
all_grow plan past n =
    sum_by-one_more (own_left plan (event.Command n ∷ past)) (own_left plan past) (taken_by (act_of plan (event.Command n))) 1 plan.requests (plan-numbered plan)
    (λ r hr. command_one plan past r n)

-- five each are enough
pub all_left-most : (plan : Plan) (past : List Event) → all_left plan past ≤ 5 * length plan.requests
all_left-most plan past =
    omega (
      arith,
      sum_by-below (own_left plan past) (λ r. 4 + length (stages_of plan r)) plan.requests (λ r hr. own_left-most plan past r),
      sum_by-more 4 (λ r. length (stages_of plan r)) plan.requests,
      stages-enough plan,
    )
