-- What the commands of a script enter one after the other.
use Rattle.std.proofs.Common.{◌≡◌, refl, sym, ap, ◌∙◌, ℕ, ◌+◌, ◌-◌, ◌≤◌, ◌<◌, List, [], ◌∷◌, ◌++◌, length, get_or, take, append_assoc, length-append, Option, None, Some, arith}
use Rattle.std.specs.List.{enumerate_from, flat_map, sum_by}
use Rattle.std.specs.Option.{option_map_or}
use Rattle.std.specs.Prelude.{slice_get}
use Rattle.std.proofs.lemmas.Bool.Decides.{nat_tests}
use Rattle.std.proofs.lemmas.List.{append-nil, length-take-le, take_more}
use Rattle.std.proofs.lemmas.List.Sums.{sum_by-cons}
use Rattle.conc_types.specs.declared.kind.RefusalKind.TheVariants as refused
use Rattle.conc_types.specs.declared.item.Item.TheVariants as item
use Rattle.conc_types.specs.declared.plan.Req.{Req}
use Rattle.conc_types.specs.declared.script.Act.{Act}
use Rattle.conc_types.specs.declared.script.Act.TheVariants as act
use Rattle.conc_types.specs.declared.script.Order.{Order}
use Rattle.conc_types.specs.declared.set.SetDef.{SetDef}
use Rattle.conc_types.specs.declared.setup.Setup.{Setup}
use Rattle.conc_types.specs.declared.stage.Stage.{Stage}
use Rattle.conc_types.specs.Expansion.{entered, expansion, expansion_from, members_of, parts, parts_by, request_by}
use Rattle.conc_types.specs.Faults.{Fault, fault_or, first_fault}
use Rattle.conc_types.specs.Scripts.{count_of}
use Rattle.conc_plan.specs.Faults.{record_kind}
use Rattle.conc_plan.proofs.Faults.{fault_next}
use Rattle.conc_plan.proofs.Parts.{length-members}

-- ---- how many

one_each : {X A : Type 0} (f : ℕ × X → List A) → ((x : ℕ × X) → length (f x) ≡ 1) → (n : ℕ) (xs : List X) → length (flat_map f (enumerate_from n xs)) ≡ length xs
one_each f one n [] = refl
one_each f one n (x ∷ xs) = omega (arith, length-append (f (n, x)) (flat_map f (enumerate_from (n + 1) xs)), one (n, x), one_each f one (n + 1) xs)

length-entered_by : (setup : Setup) (command first : ℕ) (a : Act) → length (flat_map (request_by setup command first a) (enumerate_from first (parts_by setup a))) ≡ length (parts_by setup a)
length-entered_by setup command first (act.Submit what user priority start domain argument) =
    one_each (request_by setup command first (act.Submit what user priority start domain argument)) (λ x. refl) first (parts setup what)
length-entered_by setup command first (act.Hold r) = refl
length-entered_by setup command first (act.Unhold r) = refl
length-entered_by setup command first (act.Cancel r) = refl
length-entered_by setup command first (act.Terminate r) = refl

-- a command enters one request for each of its parts
length-entered : (setup : Setup) (first : ℕ) (order : ℕ × Order) → length (entered setup first order) ≡ length (parts_by setup order.1.act)
length-entered setup first order = length-entered_by setup order.0 first order.1.act

length-stages : (k : ℕ) (stages : List Stage) → length (flat_map members_of (enumerate_from k stages)) ≡ sum_by (λ s. length s.members) stages
length-stages k [] = refl
length-stages k (stage ∷ stages) =
    omega (arith, length-append (members_of (k, stage)) (flat_map members_of (enumerate_from (k + 1) stages)), length-members k stage, length-stages (k + 1) stages, sum_by-cons (λ (s : Stage). length s.members) stage stages)

length-set : (found : Option SetDef) → length (option_map_or (λ s. flat_map members_of (enumerate_from 1 s.stages)) found []) ≡ option_map_or (λ s. sum_by (λ stage. length stage.members) s.stages) found 0
length-set None = refl
length-set (Some s) = length-stages 1 s.stages

-- a submission enters as many parts as its item counts
pub length-parts : (setup : Setup) (what : _) → length (parts setup what) ≡ count_of setup what
length-parts setup (item.Program n) = refl
length-parts setup (item.Set n) = omega (arith, length-set (slice_get setup.sets n))

-- ---- one more command

enumerate_from-snoc : {X : Type 0} (k : ℕ) (xs : List X) (x : X) → enumerate_from k (xs ++ x ∷ []) ≡ enumerate_from k xs ++ (k + length xs, x) ∷ []
enumerate_from-snoc k [] x = grind arith
enumerate_from-snoc k (y ∷ ys) x =
    let e : k + 1 + length ys ≡ k + length (y ∷ ys) = omega arith in
    ap (λ l. (k, y) ∷ l) (enumerate_from-snoc (k + 1) ys x ∙ ap (λ n. enumerate_from (k + 1) ys ++ (n, x) ∷ []) e)

expansion_from-snoc : (setup : Setup) (first : ℕ) (orders : List (ℕ × Order)) (order : ℕ × Order)
    → expansion_from setup first (orders ++ order ∷ []) ≡ expansion_from setup first orders ++ entered setup (first + length (expansion_from setup first orders)) order
expansion_from-snoc setup first [] order = append-nil (entered setup first order) ∙ ap (λ n. entered setup n order) (omega arith)
expansion_from-snoc setup first (o ∷ orders) order =
    let next = first + length (parts_by setup o.1.act) in
    let count : next + length (expansion_from setup next orders) ≡ first + length (expansion_from setup first (o ∷ orders))
    = omega (arith, length-append (entered setup first o) (expansion_from setup next orders), length-entered setup first o) in
    ap (λ l. entered setup first o ++ l) (expansion_from-snoc setup next orders order ∙ ap (λ n. expansion_from setup next orders ++ entered setup n order) count)
    ∙ sym (append_assoc (entered setup first o) _ _)

-- the requests of so many commands and of one more
expansion-more : (setup : Setup) (orders : List Order) (i : ℕ) (order : Order) → i < length orders → order ≡ get_or orders i order
    → expansion setup (take (i + 1) orders) ≡ expansion setup (take i orders) ++ entered setup (1 + length (expansion setup (take i orders))) (1 + i, order)
expansion-more setup orders i order below here =
    let many : 1 + length (take i orders) ≡ 1 + i = omega (arith, length-take-le i orders (omega arith)) in
    ap (expansion setup) (take_more orders i order below ∙ ap (λ (o : Order). take i orders ++ o ∷ []) (sym here))
    ∙ ap (expansion_from setup 1) (enumerate_from-snoc 1 (take i orders) order ∙ ap (λ n. enumerate_from 1 (take i orders) ++ (n, order) ∷ []) many)
    ∙ expansion_from-snoc setup 1 (enumerate_from 1 (take i orders)) (1 + i, order)

-- the command enters its requests after those of the commands before it
pub entered-more : (setup : Setup) (orders : List Order) (i command : ℕ) (order : Order) (out out' : List Req) → i < length orders → order ≡ get_or orders i order
    → command ≡ 1 + i → out ≡ expansion setup (take i orders) → out' ≡ out ++ entered setup (length out + 1) (command, order)
    → out' ≡ expansion setup (take (i + 1) orders)
entered-more setup orders i command order out out' below here number so_far is =
    let count : length out + 1 ≡ 1 + length (expansion setup (take i orders)) = omega (arith, ap length so_far) in
    is ∙ ap (λ n. out ++ entered setup (length out + 1) (n, order)) number
    ∙ ap (λ n. out ++ entered setup n (1 + i, order)) count
    ∙ ap (λ l. l ++ entered setup (1 + length (expansion setup (take i orders))) (1 + i, order)) so_far
    ∙ sym (expansion-more setup orders i order below here)

-- how many there are with it
pub count-more : (setup : Setup) (orders : List Order) (i : ℕ) (order : Order) (out : List Req) → i < length orders → order ≡ get_or orders i order
    → out ≡ expansion setup (take i orders) → length (expansion setup (take (i + 1) orders)) ≡ length out + length (parts_by setup order.act)
count-more setup orders i order out below here so_far =
    let first = 1 + length (expansion setup (take i orders)) in
    omega (arith, ap length (expansion-more setup orders i order below here), length-append (expansion setup (take i orders)) (entered setup first (1 + i, order)), length-entered setup first (1 + i, order), ap length so_far)

-- ---- the first record with too many

-- the record of the command is the one
pub record-fails : (setup : Setup) (orders : List Order) (i line : ℕ) (order : Order) (out : List Req) (wanted : Option Fault) → i < length orders → order ≡ get_or orders i order
    → out ≡ expansion setup (take i orders) → line ≡ 2 + i → 16384 < length out + length (parts_by setup order.act)
    → first_fault (record_kind setup orders) (2 + i) (length orders - i) ≡ wanted → wanted ≡ Some (line, refused.TooManyRequests)
unfolding record_kind
record-fails setup orders i line order out wanted below here so_far at many rest =
    let before : 2 + i - 1 ≡ i + 1 = omega arith in
    let kind : record_kind setup orders (2 + i) ≡ Some refused.TooManyRequests = rw (before, count-more setup orders i order out below here so_far) (grind (arith, nat_tests)) in
    sym rest ∙ fault_next (record_kind setup orders) (2 + i) (length orders) i below
    ∙ ap (λ k. fault_or (2 + i) k (first_fault (record_kind setup orders) (2 + i + 1) (length orders - (i + 1)))) kind
    ∙ ap (λ n. Some (n, refused.TooManyRequests)) (sym at)

-- it is not
pub record-passes : (setup : Setup) (orders : List Order) (i : ℕ) (order : Order) (out : List Req) (wanted : Option Fault) → i < length orders → order ≡ get_or orders i order
    → out ≡ expansion setup (take i orders) → length out + length (parts_by setup order.act) ≤ 16384
    → first_fault (record_kind setup orders) (2 + i) (length orders - i) ≡ wanted
    → first_fault (record_kind setup orders) (2 + (i + 1)) (length orders - (i + 1)) ≡ wanted
unfolding record_kind
record-passes setup orders i order out wanted below here so_far few rest =
    let before : 2 + i - 1 ≡ i + 1 = omega arith in
    let kind : record_kind setup orders (2 + i) ≡ None = rw (before, count-more setup orders i order out below here so_far) (grind (arith, nat_tests)) in
    let next : 2 + (i + 1) ≡ 2 + i + 1 = omega arith in
    ap (λ n. first_fault (record_kind setup orders) n (length orders - (i + 1))) next
    ∙ sym (ap (λ k. fault_or (2 + i) k (first_fault (record_kind setup orders) (2 + i + 1) (length orders - (i + 1)))) kind)
    ∙ sym (fault_next (record_kind setup orders) (2 + i) (length orders) i below) ∙ rest
