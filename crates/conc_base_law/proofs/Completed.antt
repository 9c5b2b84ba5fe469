-- In a lawful history a let request is not completed, so no start stands after its completion.
use Rattle.std.proofs.Common.{◌≡◌, ◌⊎◌, ℕ, ◌++◌, Bool, true, false, not, ◌&&◌, ◌||◌, List, [], ◌∷◌, Option, None, Some, is_some, refl, sym, ◌∙◌, ap, subst, inl, inr, reverse}
use Rattle.std.specs.Bool.{then_some}
use Rattle.std.specs.Option.{option_or}
use Rattle.std.proofs.lemmas.Bool.{and_from, and_left, and_parts, and_right, both_ways, cases_Bool, cond-false, cond-true, not-false, not_from_false, not_from_true, or_cases, or_from, or_parts, or_right}
use Rattle.std.proofs.lemmas.List.{reverse-append}
use Rattle.conc_types.specs.declared.event.Event.{Event}
use Rattle.conc_types.specs.declared.event.Event.TheVariants as event
use Rattle.conc_types.specs.declared.event.Outcome.{Outcome}
use Rattle.conc_types.specs.declared.event.Outcome.TheVariants as outcome
use Rattle.conc_types.specs.declared.event.PlaceId.{PlaceId}
use Rattle.conc_types.specs.declared.event.RequestId.{RequestId}
use Rattle.conc_types.specs.declared.plan.Plan.{Plan}
use Rattle.conc_types.specs.declared.plan.Req.{Req}
use Rattle.conc_types.specs.Plans.{request}
use Rattle.conc_types.specs.Stages.{has_stage}
use Rattle.conc_types.specs.Words.{is_between, some_and}
use Rattle.conc_base_law.specs.Facts.{cancels, completes, completion, holds, is_idle, is_let, is_open, stages_begun, unlets, waits_for_stage, was_completed}
use Rattle.conc_base_law.specs.Kinds.{begins_stage, closes, opens, ends_run}
use Rattle.conc_base_law.specs.Law.{is_lawful_so_far, may_follow}
use Rattle.conc_base_law.specs.Next.{may_let}
use Rattle.conc_base_law.specs.Before.{occurs, occurs_since}
use Rattle.conc_base_law.specs.Plans.{parent}
use Rattle.conc_base_law.specs.State.{state}
use Rattle.conc_base_law.specs.Words.{Has, id_eq, is_set}
use Rattle.conc_base_law.proofs.BegunStages.{stages_begun-occur}
use Rattle.conc_base_law.proofs.Comes.{close_comes, Opened, same_request, stage_comes}
use Rattle.conc_base_law.proofs.EqualEvents.{id_same}
use Rattle.conc_base_law.proofs.FactsAt.{is_completed-state, is_waiting-state, opened-state}
use Rattle.conc_base_law.proofs.LiveApart.{is_let-more, let_could, may_let-parts}
use Rattle.conc_base_law.proofs.Numbering.{found}
use Rattle.conc_base_law.proofs.Options.{and_then-some}
use Rattle.conc_base_law.proofs.RunningIsLet.{start_let}

-- ---- what is completed stays so

-- what is completed stays so
pub was_completed-more : (plan : Plan) (past : List Event) (r : Req) (e : Event) → was_completed plan past r ≡ true → was_completed plan (e ∷ past) r ≡ true
unfolding was_completed completion
was_completed-more plan past r e h = by (completion plan past r) h where
  by : (o : Option Outcome) → is_some o ≡ true → is_some (option_or o (completes plan past (completion plan past) r e)) ≡ true
  by None k = cc
  by (Some x) k = refl

-- an event that completes a request leaves it completed
pub was_completed-by : (plan : Plan) (past : List Event) (r : Req) (e : Event) → is_some (completes plan past (completion plan past) r e) ≡ true
    → was_completed plan (e ∷ past) r ≡ true
unfolding was_completed completion
was_completed-by plan past r e h = by (completion plan past r) (completes plan past (completion plan past) r e) h where
  by : (o p : Option Outcome) → is_some p ≡ true → is_some (option_or o p) ≡ true
  by None p k = k
  by (Some x) p k = refl

-- a request that was not completed, and that the event does not complete, is not
pub was_completed-neither : (plan : Plan) (past : List Event) (r : Req) (e : Event) → was_completed plan past r ≡ false
    → is_some (completes plan past (completion plan past) r e) ≡ false → was_completed plan (e ∷ past) r ≡ false
unfolding was_completed completion
was_completed-neither plan past r e h k = by (completion plan past r) (completes plan past (completion plan past) r e) h k where
  by : (o p : Option Outcome) → is_some o ≡ false → is_some p ≡ false → is_some (option_or o p) ≡ false
  by None p a b = b
  by (Some x) p a b = a

-- ---- a set of which a stage has begun

-- the close of a set completes it
close_completes : (plan : Plan) (past : List Event) (set : Req) (s : RequestId) (o : Outcome) → id_eq s set.number ≡ true
    → is_some (completes plan past (completion plan past) set (event.CloseSet s o)) ≡ true
unfolding completes
close_completes plan past set s o h = ap is_some (cond-true (id_eq s set.number) _ _ h)

-- the same, by the kind of the event
pub closed_set : (plan : Plan) (past : List Event) (set : Req) (e : Event) → closes set.number e ≡ true → was_completed plan (e ∷ past) set ≡ true
closed_set plan past set (event.CloseSet s o) h = was_completed-by plan past set (event.CloseSet s o) (close_completes plan past set s o h)
closed_set plan past set _ h = cc

-- a set stays open until it is closed
still_open : (past : List Event) (set : Req) (e : Event) → is_open past set ≡ true → closes set.number e ≡ false → is_open (e ∷ past) set ≡ true
unfolding is_open
still_open past set e h k =
    let p : (is_set set.item ≡ true) × (occurs_since (λ _ d. opens set.number d) (λ _ d. closes set.number d) past ≡ true) = and_parts _ _ h in
    and_from _ _ p.0 (or_right _ _ (and_from _ _ (not_from_false _ k) p.1))

-- a request of the plan that is opened by its number is open
pub opened_open : (plan : Plan) (past : List Event) (r : Req) → Has plan.requests r → Opened plan (state plan past) r.number → is_open past r ≡ true
opened_open plan past r hr o =
    let same : o.req ≡ r = same_request plan o.req r o.element hr o.number in
    subst (λ z. is_open past z ≡ true) same (sym (opened-state plan past o.req o.element) ∙ o.opened)

-- a set of which a stage begins is open
stage_open : (plan : Plan) (past : List Event) (set : Req) (k : ℕ) (e : Event) → Has plan.requests set → may_follow plan None past e ≡ true
    → begins_stage set.number k e ≡ true → is_open (e ∷ past) set ≡ true
stage_open plan past set k (event.Stage s l) hs h b =
    let same : s ≡ set.number = id_same s set.number (and_parts (id_eq s set.number) _ b).0 in
    let m : may_follow plan None past (event.Stage set.number l) ≡ true = subst (λ n. may_follow plan None past (event.Stage n l) ≡ true) same h in
    still_open past set (event.Stage s l) (opened_open plan past set hs (stage_comes plan None past set.number l m)) refl
stage_open plan past set k _ hs h b = cc

-- a set of which a stage began is open or completed
begun_set : (plan : Plan) (past : List Event) (set : Req) (k : ℕ) → Has plan.requests set → is_lawful_so_far plan past ≡ true
    → occurs (begins_stage set.number k) past ≡ true → (is_open past set ≡ true) ⊎ (was_completed plan past set ≡ true)
unfolding is_lawful_so_far
begun_set plan [] set k hs lawful h = cc
begun_set plan (e ∷ past) set k hs lawful h =
    let p : (is_lawful_so_far plan past ≡ true) × (may_follow plan None past e ≡ true) = and_parts _ _ lawful in
    elim (or_cases (begins_stage set.number k e) _ h) [
      | inl b ↦ inl (stage_open plan past set k e hs p.1 b)
      | inr old ↦ elim (begun_set plan past set k hs p.0 old) [
        | inl o ↦ elim (cases_Bool (closes set.number e)) [
          | inl c ↦ inr (closed_set plan past set e c)
          | inr c ↦ inl (still_open past set e o c)
        ]
        | inr c ↦ inr (was_completed-more plan past set e c)
      ]
    ]

-- ---- stages that have begun

-- a stage of a set of stages is one of 1 to 64
has_stage-between : (bits k : ℕ) → has_stage bits k ≡ true → is_between 1 64 k ≡ true
unfolding has_stage
has_stage-between bits k h = (and_parts (is_between 1 64 k) _ h).0

-- the event of a stage that has begun stands
begun-occurs : (past : List Event) (set : RequestId) (k : ℕ) → has_stage (stages_begun past set) k ≡ true → occurs (begins_stage set k) past ≡ true
begun-occurs past set k h = sym (stages_begun-occur past set k (has_stage-between (stages_begun past set) k h)) ∙ h

-- a stage that has begun stays so
begun-more : (past : List Event) (set : RequestId) (k : ℕ) (e : Event) → has_stage (stages_begun past set) k ≡ true
    → has_stage (stages_begun (e ∷ past) set) k ≡ true
begun-more past set k e h =
    stages_begun-occur (e ∷ past) set k (has_stage-between (stages_begun past set) k h) ∙ or_right _ _ (begun-occurs past set k h)

-- a member that does not wait for its stage waits no more
pub waits-more : (plan : Plan) (past : List Event) (r : Req) (e : Event) → waits_for_stage plan past r ≡ false → waits_for_stage plan (e ∷ past) r ≡ false
unfolding waits_for_stage
waits-more plan past r e h = by (parent plan r) h where
  by : (o : Option Req) → some_and (λ set. not (has_stage (stages_begun past set.number) r.stage)) o ≡ false
      → some_and (λ set. not (has_stage (stages_begun (e ∷ past) set.number) r.stage)) o ≡ false
  by None k = refl
  by (Some set) k = not_from_true _ (begun-more past set.number r.stage e (not-false _ k))

-- ---- a let request

-- a let request does not wait for its stage
let_waits_no_more : (plan : Plan) (past : List Event) (r : Req) → Has plan.requests r → is_lawful_so_far plan past ≡ true → is_let plan past r ≡ true
    → waits_for_stage plan past r ≡ false
unfolding is_lawful_so_far is_let
let_waits_no_more plan [] r hr lawful h = cc
let_waits_no_more plan (e ∷ past) r hr lawful h =
    let p : (is_lawful_so_far plan past ≡ true) × (may_follow plan None past e ≡ true) = and_parts _ _ lawful in
    waits-more plan past r e (elim (is_let-more plan past r e h) [
      | inl l ↦
          let could : may_let plan (state plan past) r ≡ true = (let_could plan None past r hr (subst (λ d. may_follow plan None past d ≡ true) l p.1)).0 in
          sym (is_waiting-state plan past r) ∙ (may_let-parts plan (state plan past) r could).1
      | inr s ↦ let_waits_no_more plan past r hr p.0 s.1
    ])

-- a let request is no set
pub let_no_set : (plan : Plan) (past : List Event) (r : Req) → Has plan.requests r → is_lawful_so_far plan past ≡ true → is_let plan past r ≡ true → is_set r.item ≡ false
unfolding is_lawful_so_far is_let
let_no_set plan [] r hr lawful h = cc
let_no_set plan (e ∷ past) r hr lawful h =
    let p : (is_lawful_so_far plan past ≡ true) × (may_follow plan None past e ≡ true) = and_parts _ _ lawful in
    elim (is_let-more plan past r e h) [
      | inl l ↦ (let_could plan None past r hr (subst (λ d. may_follow plan None past d ≡ true) l p.1)).1
      | inr s ↦ let_no_set plan past r hr p.0 s.1
    ]

-- ---- a let request is not completed

-- a test that fails gives no outcome
pub none_if : (b : Bool) (o : Outcome) → b ≡ false → is_some (then_some b o) ≡ false
none_if b o h = ap (λ c. is_some (then_some c o)) h

-- an open or completed request is not idle
pub idle_not : (plan : Plan) (past : List Event) (set : Req) → (is_open past set ≡ true) ⊎ (was_completed plan past set ≡ true)
    → is_idle past (completion plan past) set ≡ false
unfolding is_idle was_completed
idle_not plan past set h =
    let rest : (not (is_open past set) && not (is_some (completion plan past set))) ≡ false = elim h [
      | inl o ↦ and_left _ _ (not_from_true _ o)
      | inr c ↦ and_right _ _ (not_from_true _ c)
    ] in
    and_right _ _ (and_right _ _ rest)

-- a request that is not idle is not cancelled
pub cancels_not : (plan : Plan) (past : List Event) (set : Req) (e : Event) → is_idle past (completion plan past) set ≡ false
    → cancels plan past (completion plan past) set e ≡ false
unfolding cancels
cancels_not plan past set e h = and_right _ _ h

-- the set of a member that waits no more has begun its stage
parent_begun : (plan : Plan) (past : List Event) (r set : Req) → parent plan r ≡ Some set → waits_for_stage plan past r ≡ false
    → Has plan.requests set × (has_stage (stages_begun past set.number) r.stage ≡ true)
unfolding parent waits_for_stage
parent_begun plan past r set h w =
    let p : (id : RequestId) × (r.parent ≡ Some id) × (request plan id ≡ Some set) = and_then-some (request plan) r.parent set h in
    let n : not (has_stage (stages_begun past set.number) r.stage) ≡ false =
    ap (some_and (λ z. not (has_stage (stages_begun past z.number) r.stage))) (sym h) ∙ w in
    ((found plan p.0 set p.2).1, not-false _ n)

-- the set of a let member is not cancelled
pub parent_cancel : (plan : Plan) (past : List Event) (r : Req) (e : Event) → is_lawful_so_far plan past ≡ true → waits_for_stage plan past r ≡ false
    → (o : Option Req) → parent plan r ≡ o → some_and (λ set. cancels plan past (completion plan past) set e) o ≡ false
parent_cancel plan past r e lawful w None is = refl
parent_cancel plan past r e lawful w (Some set) is =
    let p : Has plan.requests set × (has_stage (stages_begun past set.number) r.stage ≡ true) = parent_begun plan past r set is w in
    cancels_not plan past set e (idle_not plan past set (begun_set plan past set r.stage p.0 lawful (begun-occurs past set.number r.stage p.1)))

-- an event after which a request is let neither ends its run nor cancels it
unlets-parts : (plan : Plan) (past : List Event) (r : Req) (e : Event) → unlets plan r past e ≡ false
    → (ends_run r.number e ≡ false) × (cancels plan past (completion plan past) r e ≡ false)
unfolding unlets
unlets-parts plan past r e h =
    let p : (ends_run r.number e ≡ false) × ((holds plan r past e || cancels plan past (completion plan past) r e) ≡ false) = or_parts _ _ h in
    (p.0, (or_parts (holds plan r past e) _ p.1).1)

-- an event after which a let request is let does not complete it
completes_not : (plan : Plan) (past : List Event) (r : Req) (e : Event) → Has plan.requests r → is_lawful_so_far plan past ≡ true
    → may_follow plan None past e ≡ true → is_let plan past r ≡ true → unlets plan r past e ≡ false
    → is_some (completes plan past (completion plan past) r e) ≡ false
unfolding completes is_open
completes_not plan past r (event.Ended q o x) hr lawful m l u =
    none_if _ o (or_parts (id_eq q r.number) _ (unlets-parts plan past r (event.Ended q o x) u).0).0
completes_not plan past r (event.Interrupt q) hr lawful m l u =
    none_if _ outcome.Error (and_left _ _ (or_parts false _ (unlets-parts plan past r (event.Interrupt q) u).0).1)
completes_not plan past r (event.CloseSet s o) hr lawful m l u = elim (cases_Bool (id_eq s r.number)) [
  | inl same ↦
      let n : s ≡ r.number = id_same s r.number same in
      let k : may_follow plan None past (event.CloseSet r.number o) ≡ true = subst (λ z. may_follow plan None past (event.CloseSet z o) ≡ true) n m in
      let open_now : is_open past r ≡ true = opened_open plan past r hr (close_comes plan None past r.number o k) in
      absurd (both_ways _ (let_no_set plan past r hr lawful l) (and_parts (is_set r.item) _ open_now).0)
  | inr other ↦
      ap is_some (cond-false (id_eq s r.number) _ _ other)
      ∙ none_if _ outcome.Cancelled (and_right _ _ (let_waits_no_more plan past r hr lawful l))
]
completes_not plan past r (event.Command n) hr lawful m l u =
    none_if _ outcome.Cancelled (or_from _ _ (unlets-parts plan past r (event.Command n) u).1
    (parent_cancel plan past r (event.Command n) lawful (let_waits_no_more plan past r hr lawful l) (parent plan r) refl))
completes_not plan past r _ hr lawful m l u = refl

-- no let completes its request
let_completes_not : (plan : Plan) (past : List Event) (r : Req) → is_some (completes plan past (completion plan past) r (event.LetOut r.number)) ≡ false
unfolding completes
let_completes_not plan past r = refl

-- the state at each position of a lawful history: a let request is not completed
pub let_not_completed : (plan : Plan) (past : List Event) (r : Req) → Has plan.requests r → is_lawful_so_far plan past ≡ true → is_let plan past r ≡ true
    → was_completed plan past r ≡ false
unfolding is_lawful_so_far is_let
let_not_completed plan [] r hr lawful h = cc
let_not_completed plan (e ∷ past) r hr lawful h =
    let p : (is_lawful_so_far plan past ≡ true) × (may_follow plan None past e ≡ true) = and_parts _ _ lawful in
    elim (is_let-more plan past r e h) [
      | inl l ↦
          let could : may_let plan (state plan past) r ≡ true = (let_could plan None past r hr (subst (λ d. may_follow plan None past d ≡ true) l p.1)).0 in
          let before : was_completed plan past r ≡ false = sym (is_completed-state plan past r hr) ∙ (may_let-parts plan (state plan past) r could).0 in
          subst (λ d. was_completed plan (d ∷ past) r ≡ false) (sym l)
          (was_completed-neither plan past r (event.LetOut r.number) before (let_completes_not plan past r))
      | inr s ↦ was_completed-neither plan past r e (let_not_completed plan past r hr p.0 s.1) (completes_not plan past r e hr p.0 p.1 s.1 s.0)
    ]

-- where a request starts it is not completed
pub start_not_completed : (plan : Plan) (before : List Event) (r : Req) (place : PlaceId) → Has plan.requests r
    → is_lawful_so_far plan (reverse (before ++ event.Started r.number place ∷ [])) ≡ true → was_completed plan (reverse before) r ≡ false
unfolding is_lawful_so_far
start_not_completed plan before r place hr h =
    let turned : is_lawful_so_far plan (event.Started r.number place ∷ reverse before) ≡ true =
    ap (is_lawful_so_far plan) (sym (reverse-append before (event.Started r.number place ∷ []))) ∙ h in
    let p : (is_lawful_so_far plan (reverse before) ≡ true) × (may_follow plan None (reverse before) (event.Started r.number place) ≡ true) = and_parts _ _ turned in
    let_not_completed plan (reverse before) r hr p.0 (start_let plan None (reverse before) r place hr p.1)
