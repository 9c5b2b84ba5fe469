-- The lists of the managers, of requests that are put.
use Rattle.std.proofs.Common.{◌≡◌, ℕ, ◌+◌, ◌<◌, Bool, true, false, List, [], ◌∷◌, ◌++◌, Option, None, Some, if◌then◌else◌, length, length-append, map, replicate, filter, append-nil, ltb-true, lt-ltb, eq-eqb, refl, sym, ◌∙◌, ap, ap₂, arith}
use Rattle.std.specs.Prelude.{nat_lt}
use Rattle.std.proofs.lemmas.Bool.{and_from, and_parts}
use Rattle.std.proofs.lemmas.List.Elements.{filter-append}
use Rattle.conc_types.specs.declared.event.RequestId.{RequestId}
use Rattle.conc_types.specs.declared.manager.Manager.{Manager}
use Rattle.conc_types.specs.declared.plan.Plan.{Plan}
use Rattle.conc_types.specs.declared.plan.Req.{Req}
use Rattle.conc_types.specs.Plans.{request}
use Rattle.conc_types.specs.Words.{some_and}
use Rattle.conc_base_law.specs.Managers.{admits}
use Rattle.conc_base_law.proofs.EqualEvents.{id_same}
use Rattle.conc_base_law.proofs.Numbering.{found}
use Rattle.conc_base_law.proofs.Sums.{filter-within}
use Rattle.conc_pool_lanes.specs.Lanes.{are_shorter, joined, joined_by, joined_one}
use Rattle.conc_pool_lanes.specs.Puts.{lists_for}

-- the manager admits the request with this number
abbrev takes : Plan → Manager → RequestId → Bool
takes plan manager r = some_and (admits manager) (request plan r)

-- the lists of some managers
abbrev lists_by : Plan → List Manager → List RequestId → List (List RequestId)
lists_by plan managers requests = map (λ manager. filter (takes plan manager) requests) managers

-- ---- none, and one more

-- of no requests each list is empty
lists_by-none : (plan : Plan) (managers : List Manager) → lists_by plan managers [] ≡ replicate (length managers) []
lists_by-none plan [] = refl
lists_by-none plan (manager ∷ managers) = ap (λ l. [] ∷ l) (lists_by-none plan managers)

-- of no requests each manager's list is empty
pub lists_for-none : (plan : Plan) → lists_for plan [] ≡ replicate (length plan.setup.managers) []
unfolding lists_for
lists_for-none plan = lists_by-none plan plan.setup.managers

-- a number that no request has joins no list
lists_by-unknown : (plan : Plan) (managers : List Manager) (requests : List RequestId) (r : RequestId) → request plan r ≡ None
    → lists_by plan managers (requests ++ r ∷ []) ≡ lists_by plan managers requests
lists_by-unknown plan [] requests r none = refl
lists_by-unknown plan (manager ∷ managers) requests r none =
    let l = filter (takes plan manager) requests in
    let one : filter (takes plan manager) (requests ++ r ∷ []) ≡ l =
    filter-append (takes plan manager) requests (r ∷ [])
    ∙ ap (λ (o : Option Req). l ++ (if some_and (admits manager) o then r ∷ [] else [])) none ∙ append-nil l in
    ap₂ (λ (a : List RequestId) (b : List (List RequestId)). a ∷ b) one (lists_by-unknown plan managers requests r none)

-- a request joins the list of a manager that admits it
joins_one : (plan : Plan) (manager : Manager) (requests : List RequestId) (r : RequestId) (q : Req) → request plan r ≡ Some q → q.number ≡ r
    → filter (takes plan manager) (requests ++ r ∷ []) ≡ joined_one manager q (filter (takes plan manager) requests)
joins_one plan manager requests r q is same =
    filter-append (takes plan manager) requests (r ∷ [])
    ∙ ap (λ (o : Option Req). l ++ (if some_and (admits manager) o then r ∷ [] else [])) is ∙ by (admits manager q) where
      l : List RequestId
      l = filter (takes plan manager) requests

      by : (b : Bool) → l ++ (if b then r ∷ [] else []) ≡ (if b then l ++ q.number ∷ [] else l)
      by true = ap (λ k. l ++ k ∷ []) (sym same)
      by false = append-nil l

-- a request joins the lists of some managers
lists_by-joined : (plan : Plan) (managers : List Manager) (requests : List RequestId) (r : RequestId) (q : Req) → request plan r ≡ Some q → q.number ≡ r
    → lists_by plan managers (requests ++ r ∷ []) ≡ joined managers q (lists_by plan managers requests)
unfolding joined
lists_by-joined plan [] requests r q is same = refl
lists_by-joined plan (manager ∷ managers) requests r q is same =
    ap₂ (λ (a : List RequestId) (b : List (List RequestId)). a ∷ b) (joins_one plan manager requests r q is same) (lists_by-joined plan managers requests r q is same)

-- the same of what is found by the number
lists_by-more : (plan : Plan) (managers : List Manager) (requests : List RequestId) (r : RequestId) (o : Option Req) → request plan r ≡ o → managers ≡ plan.setup.managers
    → lists_by plan managers (requests ++ r ∷ []) ≡ joined_by plan o (lists_by plan managers requests)
lists_by-more plan managers requests r None is all = lists_by-unknown plan managers requests r is
lists_by-more plan managers requests r (Some q) is all =
    let same : q.number ≡ r = id_same q.number r (eq-eqb q.number.number r.number (found plan r q is).0) in
    lists_by-joined plan managers requests r q is same ∙ ap (λ m. joined m q (lists_by plan managers requests)) all

-- one more request joins the list of each manager that admits it
pub lists_for-more : (plan : Plan) (requests : List RequestId) (r : RequestId) → lists_for plan (requests ++ r ∷ []) ≡ joined_by plan (request plan r) (lists_for plan requests)
unfolding lists_for
lists_for-more plan requests r = lists_by-more plan plan.setup.managers requests r (request plan r) refl refl

-- ---- lists that are shorter than a number

-- each list is as long as the requests at most
lists_by-shorter : (n : ℕ) (plan : Plan) (managers : List Manager) (requests : List RequestId) → length requests < n → are_shorter n (lists_by plan managers requests) ≡ true
lists_by-shorter n plan [] requests less = refl
lists_by-shorter n plan (manager ∷ managers) requests less =
    and_from _ _ (lt-ltb _ _ (omega (arith, filter-within (takes plan manager) requests))) (lists_by-shorter n plan managers requests less)

-- so it is shorter than a number that is greater
pub lists_for-shorter : (n : ℕ) (plan : Plan) (requests : List RequestId) → length requests < n → are_shorter n (lists_for plan requests) ≡ true
unfolding lists_for
lists_for-shorter n plan requests less = lists_by-shorter n plan plan.setup.managers requests less

-- the lists of what comes first are no longer
lists_by-first : (n : ℕ) (plan : Plan) (managers : List Manager) (xs zs : List RequestId) → are_shorter n (lists_by plan managers (xs ++ zs)) ≡ true
    → are_shorter n (lists_by plan managers xs) ≡ true
lists_by-first n plan [] xs zs h = refl
lists_by-first n plan (manager ∷ managers) xs zs h =
    let both = filter (takes plan manager) (xs ++ zs) in
    let p : (nat_lt (length both) n ≡ true) × (are_shorter n (lists_by plan managers (xs ++ zs)) ≡ true) = and_parts _ _ h in
    let split : length both ≡ length (filter (takes plan manager) xs) + length (filter (takes plan manager) zs) =
    ap length (filter-append (takes plan manager) xs zs) ∙ length-append (filter (takes plan manager) xs) (filter (takes plan manager) zs) in
    and_from _ _ (lt-ltb _ _ (omega (arith, ltb-true (length both) n p.0))) (lists_by-first n plan managers xs zs p.1)

-- the lists of a beginning are shorter where those of the whole are
pub lists_for-first : (n : ℕ) (plan : Plan) (xs ys zs : List RequestId) → ys ≡ xs ++ zs → are_shorter n (lists_for plan ys) ≡ true → are_shorter n (lists_for plan xs) ≡ true
unfolding lists_for
lists_for-first n plan xs ys zs is h = lists_by-first n plan plan.setup.managers xs zs (ap (λ l. are_shorter n (lists_by plan plan.setup.managers l)) (sym is) ∙ h)
