-- The requests that the events of a history name are the same for a grown plan, and so are their reports.
use Rattle.std.proofs.Common.{◌≡◌, ℕ, ◌+◌, ◌≤◌, Bool, true, false, List, [], ◌∷◌, length, reverse, None, Some, refl, sym, ◌∙◌, ap, subst, inl, inr, arith}
use Rattle.std.specs.Prelude.{slice_get}
use Rattle.std.specs.List.{enumerate_from}
use Rattle.std.specs.Option.{option_and_then, option_map}
use Rattle.std.proofs.lemmas.Bool.{and_parts, both_ways, eqb-true, or_cases}
use Rattle.std.proofs.lemmas.List.{reverse-append}
use Rattle.conc_types.specs.declared.event.Event.{Event}
use Rattle.conc_types.specs.declared.event.Event.TheVariants as event
use Rattle.conc_types.specs.declared.event.Extent.{Extent}
use Rattle.conc_types.specs.declared.event.Outcome.{Outcome}
use Rattle.conc_types.specs.declared.event.RequestId.{RequestId}
use Rattle.conc_types.specs.declared.facts.State.{State}
use Rattle.conc_types.specs.declared.plan.Plan.{Plan}
use Rattle.conc_types.specs.declared.plan.Req.{Req}
use Rattle.conc_types.specs.declared.script.Order.{Order}
use Rattle.conc_types.specs.Expansion.{expansion}
use Rattle.conc_types.specs.Plans.{request}
use Rattle.conc_types.specs.Tables.{table_named}
use Rattle.conc_types.specs.Words.{some_and}
use Rattle.conc_base_law.specs.Alone.{report_of}
use Rattle.conc_base_law.specs.Before.{occurs}
use Rattle.conc_base_law.specs.Ends.{IsReported}
use Rattle.conc_base_law.specs.Law.{is_lawful_so_far, may_follow}
use Rattle.conc_base_law.specs.Next.{is_allowed, may_end, may_start}
use Rattle.conc_base_law.specs.Plans.{program_of}
use Rattle.conc_base_law.specs.Report.{report}
use Rattle.conc_base_law.specs.State.{state}
use Rattle.conc_base_law.specs.Words.{Has}
use Rattle.conc_base_law.proofs.Comes.{close_comes, comes_allowed, let_comes, Lettable, open_comes, Opened, stage_comes}
use Rattle.conc_base_law.proofs.EqualEvents.{eqb-refl}
use Rattle.conc_base_law.proofs.FirstBy.{any-some}
use Rattle.conc_base_law.proofs.Numbering.{found}
use Rattle.conc_base_law.proofs.Options.{some_and-some}
use Rattle.conc_base_law.proofs.Stops.{interrupt_comes, LeftRunning}
use Rattle.conc_base_law.specs.Growth.{Grows, names}
use Rattle.conc_base_law.proofs.Alike.{IsAlike, only-before, OnlyFirst, program-same, request-front}
use Rattle.conc_base_law.proofs.Fronts.{get-has, has-append, has-left, has-right}
use Rattle.conc_base_law.proofs.Grown.{AreLater, grown_lawful, IsGrown, IsKept, kept, later-before, same}
use Rattle.conc_base_law.proofs.GrownPositions.{end-none, IsSame, left-none, let-none, number-front, start-none}
use Rattle.conc_base_law.proofs.Unentered.{IsUnentered}

-- ---- an event names a request that was entered

-- the request with this number is one of the plan, and was entered
record IsThere (plan : Plan) (s : State) (id : RequestId) : Type 0 where
  req : Req
  element : Has plan.requests req
  number : req.number.number ≡ id.number
  entered : IsUnentered s req → ⊥

-- a test that only entered ones pass finds such a request
there-by : (plan : Plan) (s : State) (q id : RequestId) (test : Req → Bool) → q.number ≡ id.number → ((r : Req) → IsUnentered s r → test r ≡ false)
    → some_and test (request plan q) ≡ true → IsThere plan s id
there-by plan s q id test n none h =
    let p : (r : Req) × (request plan q ≡ Some r) × (test r ≡ true) = some_and-some test (request plan q) h in
    let f : (p.0.number.number ≡ q.number) × Has plan.requests p.0 = found plan q p.0 p.1 in
    record { req = p.0; element = f.1; number = f.0 ∙ n; entered = λ u. both_ways _ (none p.0 u) p.2 }

-- the request of an open set, and of one that could be let
there-opened : (plan : Plan) (s : State) (q id : RequestId) → q.number ≡ id.number → Opened plan s q → IsThere plan s id
there-opened plan s q id n o = record { req = o.req; element = o.element; number = ap (λ z. z.number) o.number ∙ n; entered = λ u. both_ways _ u.opened o.opened }

there-let : (plan : Plan) (s : State) (q id : RequestId) (set : Bool) → q.number ≡ id.number → Lettable plan s q set → IsThere plan s id
there-let plan s q id set n l = record { req = l.req; element = l.element; number = ap (λ z. z.number) l.number ∙ n; entered = λ u. both_ways _ (let-none plan s l.req u) l.could }

there-left : (plan : Plan) (s : State) (q id : RequestId) → q.number ≡ id.number → LeftRunning plan s q → IsThere plan s id
there-left plan s q id n l = record { req = l.req; element = l.element; number = ap (λ z. z.number) l.number ∙ n; entered = λ u. both_ways _ (left-none s l.req u) l.runs_on }

-- the request that an event names is so
there : (plan : Plan) (past : List Event) (e : Event) (id : RequestId) → names id e ≡ true → may_follow plan None past e ≡ true → IsThere plan (state plan past) id
unfolding may_follow is_allowed
there plan past (event.OpenSet q) id n m = there-let plan (state plan past) q id true (eqb-true q.number id.number n) (open_comes plan None past q m)
there plan past (event.LetOut q) id n m = there-let plan (state plan past) q id false (eqb-true q.number id.number n) (let_comes plan None past q m)
there plan past (event.Stage q k) id n m = there-opened plan (state plan past) q id (eqb-true q.number id.number n) (stage_comes plan None past q k m)
there plan past (event.CloseSet q o) id n m = there-opened plan (state plan past) q id (eqb-true q.number id.number n) (close_comes plan None past q o m)
there plan past (event.Interrupt q) id n m = there-left plan (state plan past) q id (eqb-true q.number id.number n) (interrupt_comes plan None past q m)
there plan past (event.Started q place) id n m =
    let s : State = state plan past in
    there-by plan s q id (λ r. may_start plan s r place) (eqb-true q.number id.number n) (start-none plan s place)
    (comes_allowed plan s None (event.Started q place) refl refl m).1
there plan past (event.Ended q o x) id n m =
    let s : State = state plan past in
    there-by plan s q id (λ r. may_end s r o x) (eqb-true q.number id.number n) (end-none s o x)
    (comes_allowed plan s None (event.Ended q o x) refl refl m).1
there plan past _ id n m = cc

-- ---- so it is one of the first requests, which both plans have

module _ (plan grown : Plan) (orders old new : List Order) (g : IsGrown plan grown orders old new) where
  -- of a request that was entered
  there-same : (past : List Event) (id : RequestId) → IsSame plan grown (length orders) (expansion plan.setup orders) (state plan past) (state grown past)
      → IsThere plan (state plan past) id → request grown id ≡ request plan id
  there-same past id p t =
      let front : List Req = expansion plan.setup orders in
      let a : IsAlike plan grown (length orders) front = p.alike in
      let here : Has front t.req = elim (has-append front a.of_one.rest t.req (subst (λ l. Has l t.req) a.of_one.is t.element)) [
        | inl h ↦ h
        | inr h ↦ absurd (t.entered (p.rest t.req h))
      ] in
      let few : id.number ≤ length front = omega (arith, t.number, number-front plan (length orders) front t.req a.of_one here) in
      request-front grown (length orders) front id a.of_another few ∙ sym (request-front plan (length orders) front id a.of_one few)

  -- of one that an event of the history names
  named-same : (past : List Event) (id : RequestId) → OnlyFirst (length orders) past → AreLater (enumerate_from (1 + length orders) new) past → is_lawful_so_far plan past ≡ true
      → occurs (names id) past ≡ true → request grown id ≡ request plan id
  unfolding is_lawful_so_far
  named-same [] id only later lawful h = cc
  named-same (e ∷ past) id only later lawful h =
      let m : (is_lawful_so_far plan past ≡ true) × (may_follow plan None past e ≡ true) = and_parts _ _ lawful in
      let only_before : OnlyFirst (length orders) past = only-before (length orders) e past only in
      let before : AreLater (enumerate_from (1 + length orders) new) past = later-before plan (enumerate_from (1 + length orders) new) past e m.1 later in
      let too : is_lawful_so_far grown past ≡ true = grown_lawful plan grown orders old new g past only_before before m.0 in
      elim (or_cases (names id e) _ h) [
        | inl n ↦ there-same past id (same plan grown orders old new g past only_before m.0 too) (there plan past e id n m.1)
        | inr k ↦ named-same past id only_before before m.0 k
      ]

-- the requests that a history names are the same
pub requests_same : (plan grown : Plan) (history : List Event) (id : RequestId) → Grows plan grown history → is_lawful_so_far plan (reverse history) ≡ true
    → occurs (names id) (reverse history) ≡ true → request grown id ≡ request plan id
requests_same plan grown history id g lawful h =
    let k : IsKept plan grown (reverse history) = kept plan grown history g lawful in
    named-same plan grown k.orders k.old k.new k.grown_is (reverse history) id k.only k.later lawful h

-- ---- reports

-- the report of a request is the same
report_of-same : (plan grown : Plan) (r : Req) → grown.setup ≡ plan.setup → grown.tables ≡ plan.tables → report_of grown r ≡ report_of plan r
unfolding report_of program_of
report_of-same plan grown r setup tables =
    ap (option_and_then (λ program. option_map (report program.job r.argument) (table_named grown.setup grown.tables program.job.table))) (sym (program-same plan grown r.item setup))
    ∙ (ap (λ z. option_and_then (λ program. option_map (report program.job r.argument) (table_named z grown.tables program.job.table)) (program_of plan r)) setup
    ∙ ap (λ z. option_and_then (λ program. option_map (report program.job r.argument) (table_named plan.setup z program.job.table)) (program_of plan r)) tables)

-- an element of a list is one of the list the other way round
reverse-has : {T : Type 0} (xs : List T) (x : T) → Has xs x → Has (reverse xs) x
reverse-has [] x h = h
reverse-has (y ∷ xs) x (inl e) = subst (λ l. Has l x) (sym (reverse-append (y ∷ []) xs)) (has-right (reverse xs) (reverse (y ∷ [])) x (inl e))
reverse-has (y ∷ xs) x (inr k) = subst (λ l. Has l x) (sym (reverse-append (y ∷ []) xs)) (has-left (reverse xs) (reverse (y ∷ [])) x (reverse-has xs x k))

-- an end that is that of its request's report for the plan is that of the same report for the grown one
abbrev pub SameReport : (plan grown : Plan) (id : RequestId) (o : Outcome) (x : Extent) → IsReported plan id o x → Type 0
SameReport plan grown id o x r = (k : IsReported grown id o x) × (k.made ≡ r.made)

pub reported_same : (plan grown : Plan) (history : List Event) (i : ℕ) (id : RequestId) (o : Outcome) (x : Extent) → Grows plan grown history → is_lawful_so_far plan (reverse history) ≡ true
    → slice_get history i ≡ Some (event.Ended id o (Some x)) → (r : IsReported plan id o x) → SameReport plan grown id o x r
reported_same plan grown history i id o x g lawful at r =
    let e : Event = event.Ended id o (Some x) in
    let h : occurs (names id) (reverse history) ≡ true = any-some (names id) (reverse history) e (reverse-has history e (get-has history i e at)) (eqb-refl id.number) in (
      record {
        ended = r.ended;
        found = requests_same plan grown history id g lawful h ∙ r.found;
        made = r.made;
        report = report_of-same plan grown r.ended g.setup g.tables ∙ r.report;
        same_outcome = r.same_outcome;
        same_length = r.same_length;
      },
      refl,
    )
