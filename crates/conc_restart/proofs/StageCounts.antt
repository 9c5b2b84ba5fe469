-- The sets of a plan have together no more stages than the plan has requests: each stage has a member.
use Rattle.std.proofs.Common.{◌≡◌, ℕ, ◌+◌, ◌≤◌, true, List, [], ◌∷◌, ◌++◌, length, map, Option, None, Some, refl, sym, ◌∙◌, ap, subst, arith, length-append}
use Rattle.std.specs.Prelude.{nat_le, slice_get}
use Rattle.std.specs.List.{enumerate_from, flat_map, sum_by}
use Rattle.std.specs.Option.{option_map_or}
use Rattle.std.proofs.lemmas.Bool.{and_parts, leb-true}
use Rattle.std.proofs.lemmas.List.{length-map}
use Rattle.std.proofs.lemmas.List.Sums.{sum_by-append, sum_by-cons}
use Rattle.conc_types.specs.declared.item.Item.{Item}
use Rattle.conc_types.specs.declared.item.Item.TheVariants as item
use Rattle.conc_types.specs.declared.plan.Plan.{Plan}
use Rattle.conc_types.specs.declared.plan.Req.{Req}
use Rattle.conc_types.specs.declared.script.Act.{Act}
use Rattle.conc_types.specs.declared.script.Act.TheVariants as act
use Rattle.conc_types.specs.declared.script.Order.{Order}
use Rattle.conc_types.specs.declared.set.SetDef.{SetDef}
use Rattle.conc_types.specs.declared.setup.Setup.{Setup}
use Rattle.conc_types.specs.declared.stage.Stage.{Stage}
use Rattle.conc_types.specs.Expansion.{entered, expansion_from, members_of, Part, parts, parts_by, request_by}
use Rattle.conc_base_law.specs.Plans.{set_at, stages_of}
use Rattle.conc_base_law.proofs.Sums.{sum_by-below}

-- how many stages an item has
abbrev pub stages_in : Setup → Item → ℕ
stages_in setup (item.Program n) = 0
stages_in setup (item.Set n) = option_map_or (λ s. length s.stages) (slice_get setup.sets n) 0

-- ---- parts

-- how many stages the item of a part has
abbrev of_part : Setup → Part → ℕ
of_part setup part = stages_in setup part.1

-- programs have none
programs-none : (setup : Setup) (stage : ℕ) (programs : List ℕ) → sum_by (of_part setup) (map (λ program. (stage, item.Program program)) programs) ≡ 0
programs-none setup stage [] = refl
programs-none setup stage (p ∷ ps) =
    omega (
      arith,
      sum_by-cons (of_part setup) (stage, item.Program p) (map (λ program. (stage, item.Program program)) ps),
      programs-none setup stage ps,
    )

-- the members of some stages have none
members-none : (setup : Setup) (n : ℕ) (stages : List Stage) → sum_by (of_part setup) (flat_map members_of (enumerate_from n stages)) ≡ 0
members-none setup n [] = refl
members-none setup n (s ∷ ss) =
    omega (
      arith,
      sum_by-append (of_part setup) (members_of (n, s)) (flat_map members_of (enumerate_from (n + 1) ss)),
      programs-none setup n s.members,
      members-none setup (n + 1) ss,
    )

-- each stage has a member
members-enough : (n : ℕ) (stages : List Stage) → length stages ≤ length (flat_map members_of (enumerate_from n stages))
members-enough n [] = omega arith
members-enough n (s ∷ ss) =
    let some : nat_le 1 (length s.members) ≡ true = (and_parts _ _ s.some).0 in
    let one : 1 ≤ length s.members = leb-true 1 (length s.members) some in
    let here : length (members_of (n, s)) ≡ length s.members = length-map s.members (λ program. (n, item.Program program)) in
    omega (
      arith,
      length-append (members_of (n, s)) (flat_map members_of (enumerate_from (n + 1) ss)),
      members-enough (n + 1) ss,
    )

-- the stages of a set are no more than what a submission of it enters
parts-enough : (setup : Setup) (what : Item) → sum_by (of_part setup) (parts setup what) ≤ length (parts setup what)
parts-enough setup (item.Program n) = omega arith
parts-enough setup (item.Set n) = by (slice_get setup.sets n) refl where
  rest : Option SetDef → List Part
  rest def = option_map_or (λ s. flat_map members_of (enumerate_from 1 s.stages)) def []

  by : (def : Option SetDef) → slice_get setup.sets n ≡ def → sum_by (of_part setup) ((0, item.Set n) ∷ rest def) ≤ length ((0, item.Set n) ∷ rest def)
  by None is =
      let none : of_part setup (0, item.Set n) ≡ 0 = ap (λ o. option_map_or (λ s. length s.stages) o 0) is in
      omega (arith, sum_by-cons (of_part setup) (0, item.Set n) (rest None))
  by (Some s) is =
      let all : of_part setup (0, item.Set n) ≡ length s.stages = ap (λ o. option_map_or (λ s. length s.stages) o 0) is in
      omega (
        arith,
        sum_by-cons (of_part setup) (0, item.Set n) (rest (Some s)),
        members-none setup 1 s.stages,
        members-enough 1 s.stages,
      )

-- ---- requests

-- how many stages the item of a request has
abbrev of_request : Setup → Req → ℕ
of_request setup r = stages_in setup r.item

-- the requests have as many stages as these parts, and are as many
abbrev AreSame : Setup → List Part → List Req → Type 0
AreSame setup parts requests = (sum_by (of_request setup) requests ≡ sum_by (of_part setup) parts) × (length requests ≡ length parts)

-- a command enters one request of its item for each part
each-same : (setup : Setup) (command first n : ℕ) (a : Act) (parts : List Part)
    → ((part : ℕ × Part) → (r : Req) × (request_by setup command first a part ≡ r ∷ []) × (r.item ≡ part.1.1))
    → AreSame setup parts (flat_map (request_by setup command first a) (enumerate_from n parts))
each-same setup command first n a [] one = (refl, refl)
each-same setup command first n a (p ∷ ps) one =
    let q : (r : Req) × (request_by setup command first a (n, p) ≡ r ∷ []) × (r.item ≡ p.1) = one (n, p) in
    let rest : List Req = flat_map (request_by setup command first a) (enumerate_from (n + 1) ps) in
    let later : AreSame setup ps rest = each-same setup command first (n + 1) a ps one in
    let here : request_by setup command first a (n, p) ++ rest ≡ q.0 ∷ rest = ap (λ l. l ++ rest) q.1 in
    let item : of_request setup q.0 ≡ of_part setup p = ap (stages_in setup) q.2 in (
      ap (sum_by (of_request setup)) here ∙ omega (arith, sum_by-cons (of_request setup) q.0 rest, sum_by-cons (of_part setup) p ps, later.0),
      ap length here ∙ omega (arith, later.1),
    )

-- the sets of the requests that a command enters have no more stages than these are
act-enough : (setup : Setup) (command first : ℕ) (a : Act)
    → let requests = flat_map (request_by setup command first a) (enumerate_from first (parts_by setup a)) in
    sum_by (of_request setup) requests ≤ length requests
act-enough setup command first (act.Submit what user priority start domain argument) =
    let a = act.Submit what user priority start domain argument in
    let same : AreSame setup (parts setup what) (flat_map (request_by setup command first a) (enumerate_from first (parts setup what))) =
    each-same setup command first first a (parts setup what) (λ part. (_, refl, refl)) in
    omega (arith, same.0, same.1, parts-enough setup what)
act-enough setup command first (act.Hold r) = omega arith
act-enough setup command first (act.Unhold r) = omega arith
act-enough setup command first (act.Cancel r) = omega arith
act-enough setup command first (act.Terminate r) = omega arith

-- those of all requests have no more stages than these are
expansion-enough : (setup : Setup) (first : ℕ) (orders : List (ℕ × Order))
    → sum_by (of_request setup) (expansion_from setup first orders) ≤ length (expansion_from setup first orders)
expansion-enough setup first [] = omega arith
expansion-enough setup first (order ∷ orders) =
    let rest = expansion_from setup (first + length (parts_by setup order.1.act)) orders in
    omega (
      arith,
      sum_by-append (of_request setup) (entered setup first order) rest,
      length-append (entered setup first order) rest,
      act-enough setup order.0 first order.1.act,
      expansion-enough setup (first + length (parts_by setup order.1.act)) orders,
    )

-- ---- of a plan

-- the stages of a request's set are as many as its item has
stages_of-count : (plan : Plan) (r : Req) → length (stages_of plan r) ≡ stages_in plan.setup r.item
unfolding stages_of set_at
stages_of-count plan r = by r.item where
  at : (def : Option SetDef) → length (option_map_or (λ s. s.stages) def []) ≡ option_map_or (λ s. length s.stages) def 0
  at None = refl
  at (Some s) = refl

  by : (i : Item) → length (option_map_or (λ s. s.stages) (set_at plan i) []) ≡ stages_in plan.setup i
  by (item.Program n) = refl
  by (item.Set n) = at (slice_get plan.setup.sets n)

-- the sets have together no more stages than there are requests
pub stages-enough : (plan : Plan) → sum_by (λ r. length (stages_of plan r)) plan.requests ≤ length plan.requests
stages-enough plan =
    let all : sum_by (of_request plan.setup) plan.requests ≤ length plan.requests =
    subst (λ rs. sum_by (of_request plan.setup) rs ≤ length rs) (sym plan.expanded) (expansion-enough plan.setup 1 (enumerate_from 1 plan.script.commands)) in
    omega (
      arith,
      all,
      sum_by-below (λ r. length (stages_of plan r)) (of_request plan.setup) plan.requests (λ r hr. omega (arith, stages_of-count plan r)),
    )
