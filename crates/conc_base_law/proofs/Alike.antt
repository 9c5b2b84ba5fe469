-- Plans with the same first commands, and the facts of the requests that these enter.
use Rattle.std.proofs.Common.{◌≡◌, ℕ, ◌+◌, ◌<◌, ◌≤◌, Bool, false, not, ◌&&◌, ◌||◌, List, [], ◌∷◌, length, Option, None, Some, is_some, if◌then◌else◌, refl, sym, ◌∙◌, ap, subst, inl, inr}
use Rattle.std.specs.Bool.{then_some}
use Rattle.std.specs.Option.{option_and_then, option_map, option_or}
use Rattle.std.specs.Prelude.{slice_get}
use Rattle.std.proofs.lemmas.Bool.{both_ways, cases_lt, or_left, or_parts}
use Rattle.conc_types.specs.declared.event.Event.{Event}
use Rattle.conc_types.specs.declared.event.Event.TheVariants as event
use Rattle.conc_types.specs.declared.event.Outcome.{Outcome}
use Rattle.conc_types.specs.declared.event.Outcome.TheVariants as outcome
use Rattle.conc_types.specs.declared.event.RequestId.{RequestId}
use Rattle.conc_types.specs.declared.item.Item.{Item}
use Rattle.conc_types.specs.declared.item.Item.TheVariants as item
use Rattle.conc_types.specs.declared.plan.Plan.{Plan}
use Rattle.conc_types.specs.declared.plan.Req.{Req}
use Rattle.conc_types.specs.Plans.{request}
use Rattle.conc_types.specs.Stages.{has_stage}
use Rattle.conc_types.specs.Words.{numbered, some_and}
use Rattle.conc_base_law.specs.Before.{occurs, occurs_since}
use Rattle.conc_base_law.specs.Facts.{cancels, completes, completion, current_stage, facts_of, holds, is_entered, is_held, is_idle, is_let, is_open, running_place, runs, stages_begun, terminates, unholds, unlets, waits_for_stage, was_completed, was_started, was_terminated}
use Rattle.conc_base_law.specs.Kinds.{act_of, ends_run, is_cancel, is_command, is_hold, is_terminate, is_unhold, lets, starts}
use Rattle.conc_base_law.specs.Plans.{has_restart, parent, program_at, program_of}
use Rattle.conc_base_law.specs.State.{facts_at, state}
use Rattle.conc_base_law.specs.Words.{Has, id_eq}
use Rattle.conc_base_law.proofs.EqualEvents.{eqb-refl}
use Rattle.conc_base_law.proofs.FactsAt.{facts_at-state}
use Rattle.conc_base_law.proofs.Numbers.{numbered-get}
use Rattle.conc_base_law.proofs.Fronts.{get-has, has-left, numbered-front}
use Rattle.conc_base_law.proofs.Submitted.{AreClosed, Begins}

-- two plans with the same setup and the same first commands, as many as this, and with the requests that these enter
pub record IsAlike (one another : Plan) (count : ℕ) (front : List Req) : Type 0 where
  pub setup : another.setup ≡ one.setup
  pub orders : (n : ℕ) → n ≤ count → numbered one.script.commands n ≡ numbered another.script.commands n
  pub closed : AreClosed front
  pub of_one : Begins one count front
  pub of_another : Begins another count front

-- no other command is done
abbrev pub OnlyFirst : ℕ → List Event → Type 0
OnlyFirst count past = (n : ℕ) → count < n → occurs (is_command n) past ≡ false

-- so it was before
pub only-before : (count : ℕ) (e : Event) (past : List Event) → OnlyFirst count (e ∷ past) → OnlyFirst count past
only-before count e past h = λ n l. (or_parts (is_command n e) _ (h n l)).1

-- ---- requests

-- a request of the front is one of the plan
pub front-has : (plan : Plan) (count : ℕ) (front : List Req) (r : Req) → Begins plan count front → Has front r → Has plan.requests r
front-has plan count front r b h = subst (λ l. Has l r) (sym b.is) (has-left front b.rest r h)

-- a request with a number of the front is one of the front
pub request-front : (plan : Plan) (count : ℕ) (front : List Req) (id : RequestId) → Begins plan count front → id.number ≤ length front → request plan id ≡ numbered front id.number
unfolding request
request-front plan count front id b few = ap (λ l. numbered l id.number) b.is ∙ numbered-front front b.rest id.number few

-- what a number finds is an element
pub numbered-has : {T : Type 0} (xs : List T) (n : ℕ) (x : T) → numbered xs n ≡ Some x → Has xs x
numbered-has xs n x h =
    let p : (k : ℕ) × (n ≡ 1 + k) × (slice_get xs k ≡ Some x) = numbered-get xs n x h in
    get-has xs p.0 x p.2

-- the set of a request of the front is one of the front
pub parent-front : (plan : Plan) (count : ℕ) (front : List Req) (r set : Req) → Begins plan count front → AreClosed front → Has front r → parent plan r ≡ Some set → Has front set
unfolding parent
parent-front plan count front r set b closed h p = by r.parent refl p where
  by : (o : Option RequestId) → r.parent ≡ o → option_and_then (request plan) o ≡ Some set → Has front set
  by None is k = cc
  by (Some id) is k = numbered-has front id.number set (sym (request-front plan count front id b (closed r h id is)) ∙ k)

-- the program of an item is the same
pub program-same : (one another : Plan) (i : Item) → another.setup ≡ one.setup → program_at one i ≡ program_at another i
unfolding program_at
program-same one another (item.Program n) same = ap (λ setup. slice_get setup.programs n) (sym same)
program-same one another (item.Set n) same = refl

-- two ways to tell what is completed agree on the front
abbrev Agree : List Req → (Req → Option Outcome) → (Req → Option Outcome) → Type 0
Agree front c d = (r : Req) → Has front r → c r ≡ d r

-- so they agree on what is idle
idle-same : (front : List Req) (past : List Event) (c d : Req → Option Outcome) (r : Req) → Agree front c d → Has front r → is_idle past c r ≡ is_idle past d r
unfolding is_idle
idle-same front past c d r same h = ap (λ o. is_entered past r && (not (runs past r.number) && (not (is_open past r) && not (is_some o)))) (same r h)

-- what stands since an event, by kinds of event that agree where no other command is done
since-same : (count : ℕ) (kind other like unlike : List Event → Event → Bool)
    → ((past : List Event) (e : Event) → OnlyFirst count (e ∷ past) → kind past e ≡ like past e)
    → ((past : List Event) (e : Event) → OnlyFirst count (e ∷ past) → other past e ≡ unlike past e)
    → (past : List Event) → OnlyFirst count past → occurs_since kind other past ≡ occurs_since like unlike past
since-same count kind other like unlike same others [] only = refl
since-same count kind other like unlike same others (e ∷ past) only =
    ap (λ b. b || (not (other past e) && occurs_since kind other past)) (same past e only)
    ∙ (ap (λ b. like past e || (not b && occurs_since kind other past)) (others past e only)
    ∙ ap (λ b. like past e || (not (unlike past e) && b)) (since-same count kind other like unlike same others past (only-before count e past only)))

module _ (one another : Plan) (count : ℕ) (front : List Req) (a : IsAlike one another count front) where
  -- the set of a request of the front is the same
  pub parent-same : (r : Req) → Has front r → parent one r ≡ parent another r
  unfolding parent
  parent-same r h = by r.parent refl where
    by : (o : Option RequestId) → r.parent ≡ o → option_and_then (request one) o ≡ option_and_then (request another) o
    by None is = refl
    by (Some id) is =
        let few : id.number ≤ length front = a.closed r h id is in
        request-front one count front id a.of_one few ∙ sym (request-front another count front id a.of_another few)

  -- ---- events

  -- what a command does that is done
  act-same : (past : List Event) (e : Event) → OnlyFirst count (e ∷ past) → act_of one e ≡ act_of another e
  unfolding act_of
  act-same past (event.Command n) only = elim (cases_lt count n) [
    | inl l ↦ absurd (both_ways _ (only n l) (or_left _ _ (eqb-refl n)))
    | inr few ↦ ap (option_map (λ order. order.act)) (a.orders n few)
  ]
  act-same past _ only = refl

  -- whether the program has the mark for restart
  restart-same : (r : Req) → has_restart one r ≡ has_restart another r
  unfolding has_restart program_of
  restart-same r = ap (some_and (λ program. program.restart)) (program-same one another r.item a.setup)

  -- whether a request waits for its stage
  waits-same : (past : List Event) (r : Req) → Has front r → waits_for_stage one past r ≡ waits_for_stage another past r
  unfolding waits_for_stage
  waits-same past r h = ap (some_and (λ set. not (has_stage (stages_begun past set.number) r.stage))) (parent-same r h)

  -- ---- completion

  cancels-same : (past : List Event) (c d : Req → Option Outcome) (r : Req) (e : Event) → OnlyFirst count (e ∷ past) → Agree front c d → Has front r
      → cancels one past c r e ≡ cancels another past d r e
  unfolding cancels
  cancels-same past c d r e only same h =
      ap (λ o. some_and (is_cancel r.number) o && is_idle past c r) (act-same past e only)
      ∙ ap (λ b. some_and (is_cancel r.number) (act_of another e) && b) (idle-same front past c d r same h)

  -- of the set of a request
  parent_cancels-same : (past : List Event) (c d : Req → Option Outcome) (r : Req) (e : Event) → OnlyFirst count (e ∷ past) → Agree front c d → Has front r
      → some_and (λ set. cancels one past c set e) (parent one r) ≡ some_and (λ set. cancels another past d set e) (parent another r)
  parent_cancels-same past c d r e only same h =
      by (parent one r) refl ∙ ap (some_and (λ set. cancels another past d set e)) (parent-same r h) where
        by : (o : Option Req) → parent one r ≡ o → some_and (λ set. cancels one past c set e) o ≡ some_and (λ set. cancels another past d set e) o
        by None is = refl
        by (Some set) is = cancels-same past c d set e only same (parent-front one count front r set a.of_one a.closed h is)

  completes-same : (past : List Event) (c d : Req → Option Outcome) (r : Req) (e : Event) → OnlyFirst count (e ∷ past) → Agree front c d → Has front r
      → completes one past c r e ≡ completes another past d r e
  unfolding completes
  completes-same past c d r (event.Ended q o x) only same h = refl
  completes-same past c d r (event.CloseSet s o) only same h =
      ap (λ b. if id_eq s r.number then Some o else then_some (some_and (id_eq s) r.parent && b) outcome.Cancelled) (waits-same past r h)
  completes-same past c d r (event.Interrupt q) only same h =
      ap (λ b. then_some (id_eq q r.number && not b) outcome.Error) (restart-same r)
  completes-same past c d r (event.Command n) only same h =
      ap (λ b. then_some (b || some_and (λ set. cancels one past c set (event.Command n)) (parent one r)) outcome.Cancelled)
      (cancels-same past c d r (event.Command n) only same h)
      ∙ ap (λ b. then_some (cancels another past d r (event.Command n) || b) outcome.Cancelled)
      (parent_cancels-same past c d r (event.Command n) only same h)
  completes-same past c d r _ only same h = refl

  -- the outcome of a request
  completion-same : (past : List Event) → OnlyFirst count past → Agree front (completion one past) (completion another past)
  unfolding completion
  completion-same [] only = λ r h. refl
  completion-same (e ∷ past) only = λ r h.
      let same : Agree front (completion one past) (completion another past) = completion-same past (only-before count e past only) in
      ap (λ o. option_or o (completes one past (completion one past) r e)) (same r h)
      ∙ ap (option_or (completion another past r)) (completes-same past (completion one past) (completion another past) r e only same h)

  -- ---- commands that take effect

  holds-same : (r : Req) (past : List Event) (e : Event) → OnlyFirst count (e ∷ past) → Has front r → holds one r past e ≡ holds another r past e
  unfolding holds
  holds-same r past e only h =
      ap (λ o. some_and (is_hold r.number) o && is_idle past (completion one past) r) (act-same past e only)
      ∙ ap (λ b. some_and (is_hold r.number) (act_of another e) && b)
      (idle-same front past (completion one past) (completion another past) r (completion-same past (only-before count e past only)) h)

  unholds-same : (r : Req) (past : List Event) (e : Event) → OnlyFirst count (e ∷ past) → Has front r → unholds one r past e ≡ unholds another r past e
  unfolding unholds was_completed
  unholds-same r past e only h =
      ap (λ o. some_and (is_unhold r.number) o && not (is_some (completion one past r))) (act-same past e only)
      ∙ ap (λ o. some_and (is_unhold r.number) (act_of another e) && not (is_some o)) (completion-same past (only-before count e past only) r h)

  terminates-same : (r : Req) (past : List Event) (e : Event) → OnlyFirst count (e ∷ past) → terminates one r past e ≡ terminates another r past e
  unfolding terminates
  terminates-same r past e only = ap (λ o. some_and (is_terminate r.number) o && runs past r.number) (act-same past e only)

  unlets-same : (r : Req) (past : List Event) (e : Event) → OnlyFirst count (e ∷ past) → Has front r → unlets one r past e ≡ unlets another r past e
  unfolding unlets
  unlets-same r past e only h =
      ap (λ b. ends_run r.number e || (b || cancels one past (completion one past) r e)) (holds-same r past e only h)
      ∙ ap (λ b. ends_run r.number e || (holds another r past e || b))
      (cancels-same past (completion one past) (completion another past) r e only (completion-same past (only-before count e past only)) h)

  -- ---- all facts

  held-same : (past : List Event) (r : Req) → OnlyFirst count past → Has front r → is_held one past r ≡ is_held another past r
  unfolding is_held
  held-same past r only h =
      since-same count (holds one r) (unholds one r) (holds another r) (unholds another r) (λ p e k. holds-same r p e k h) (λ p e k. unholds-same r p e k h) past only

  let-same : (past : List Event) (r : Req) → OnlyFirst count past → Has front r → is_let one past r ≡ is_let another past r
  unfolding is_let
  let-same past r only h =
      since-same count (λ _ e. lets r.number e) (unlets one r) (λ _ e. lets r.number e) (unlets another r) (λ p e k. refl) (λ p e k. unlets-same r p e k h) past only

  terminated-same : (past : List Event) (r : Req) → OnlyFirst count past → was_terminated one past r ≡ was_terminated another past r
  unfolding was_terminated
  terminated-same past r only =
      since-same count (terminates one r) (λ _ e. starts r.number e) (terminates another r) (λ _ e. starts r.number e) (λ p e k. terminates-same r p e k) (λ p e k. refl) past only

  facts-same : (past : List Event) (r : Req) → OnlyFirst count past → Has front r → facts_of one past r ≡ facts_of another past r
  unfolding facts_of
  facts-same past r only h = λ i. record {
    entered = is_entered past r;
    held = held-same past r only h i;
    opened = is_open past r;
    stage = current_stage past r.number;
    begun = record { bits = stages_begun past r.number };
    let_out = let-same past r only h i;
    place = running_place past r.number;
    started = was_started past r.number;
    terminated = terminated-same past r only i;
    outcome = completion-same past only r h i;
  }

  -- the facts of a request of the front that stand in the states
  pub facts_at-same : (past : List Event) (r : Req) → OnlyFirst count past → Has front r → facts_at (state one past) r ≡ facts_at (state another past) r
  facts_at-same past r only h =
      facts_at-state one past r (front-has one count front r a.of_one h)
      ∙ (facts-same past r only h ∙ sym (facts_at-state another past r (front-has another count front r a.of_another h)))
