-- A request with a parent is no set.
use Rattle.std.proofs.Common.{◌≡◌, ℕ, ◌+◌, Bool, true, false, not, ◌||◌, ◌==◌, List, [], ◌∷◌, ◌++◌, length, map, Option, None, Some, is_some, refl, ◌∙◌, ap}
use Rattle.std.specs.Prelude.{slice_get, if◌then◌else◌}
use Rattle.std.specs.List.{enumerate_from, flat_map, list_all}
use Rattle.std.specs.Option.{option_map_or}
use Rattle.std.proofs.lemmas.Bool.{and_from, and_parts, or_right}
use Rattle.conc_types.specs.declared.event.RequestId.{RequestId}
use Rattle.conc_types.specs.declared.item.Item.{Item}
use Rattle.conc_types.specs.declared.item.Item.TheVariants as item
use Rattle.conc_types.specs.declared.plan.Plan.{Plan}
use Rattle.conc_types.specs.declared.plan.Req.{Req}
use Rattle.conc_types.specs.declared.script.Act.{Act}
use Rattle.conc_types.specs.declared.script.Act.TheVariants as act
use Rattle.conc_types.specs.declared.script.Order.{Order}
use Rattle.conc_types.specs.declared.set.SetDef.{SetDef}
use Rattle.conc_types.specs.declared.setup.Setup.{Setup}
use Rattle.conc_types.specs.declared.stage.Stage.{Stage}
use Rattle.conc_types.specs.Expansion.{entered, expansion_from, members_of, Part, parts, parts_by, request_by}
use Rattle.conc_base_law.specs.Words.{Has, is_set}
use Rattle.conc_base_law.proofs.Lists.{all-has}

-- it has no parent, or is no set
abbrev is_plain : Req → Bool
is_plain r = not (is_some r.parent) || not (is_set r.item)

-- it is what the command names, or no set
abbrev is_plain_part : Part → Bool
is_plain_part part = part.0 == 0 || not (is_set part.1)

-- what passes in two lists passes in both in a row
all-append : {T : Type 0} (test : T → Bool) (xs ys : List T) → list_all test xs ≡ true → list_all test ys ≡ true → list_all test (xs ++ ys) ≡ true
all-append test [] ys h k = k
all-append test (x ∷ xs) ys h k = let p : (test x ≡ true) × (list_all test xs ≡ true) = and_parts _ _ h in and_from _ _ p.0 (all-append test xs ys p.1 k)

-- the members of a stage are no sets
members-plain : (k : ℕ) (ms : List ℕ) → list_all is_plain_part (map (λ program. (k, item.Program program)) ms) ≡ true
members-plain k [] = refl
members-plain k (m ∷ ms) = and_from _ _ (or_right (k == 0) true refl) (members-plain k ms)

-- so are those of all stages
stages-plain : (stages : List (ℕ × Stage)) → list_all is_plain_part (flat_map members_of stages) ≡ true
stages-plain [] = refl
stages-plain (s ∷ stages) = all-append is_plain_part (members_of s) (flat_map members_of stages) (members-plain s.0 s.1.members) (stages-plain stages)

-- the parts of a submission are so
parts-plain : (setup : Setup) (what : Item) → list_all is_plain_part (parts setup what) ≡ true
parts-plain setup (item.Program n) = refl
parts-plain setup (item.Set n) = by (slice_get setup.sets n) where
  by : (o : Option SetDef) → list_all is_plain_part (option_map_or (λ s. flat_map members_of (enumerate_from 1 s.stages)) o []) ≡ true
  by None = refl
  by (Some s) = stages-plain (enumerate_from 1 s.stages)

-- a request of such a part is so
request-plain : (setup : Setup) (command first n : ℕ) (a : Act) (p : Part) → is_plain_part p ≡ true → list_all is_plain (request_by setup command first a (n, p)) ≡ true
request-plain setup command first n (act.Submit what user priority start domain argument) p h = and_from _ _ (by (p.0 == 0) (is_set p.1) h) refl where
  by : (top set : Bool) → (top || not set) ≡ true → (not (is_some {T = RequestId} (if top then None else Some (record { number = first }))) || not set) ≡ true
  by true set h = refl
  by false set h = h
request-plain setup command first n (act.Hold r) p h = refl
request-plain setup command first n (act.Unhold r) p h = refl
request-plain setup command first n (act.Cancel r) p h = refl
request-plain setup command first n (act.Terminate r) p h = refl

-- the requests of a command are so
entered-plain : (setup : Setup) (command first n : ℕ) (a : Act) (ps : List Part) → list_all is_plain_part ps ≡ true
    → list_all is_plain (flat_map (request_by setup command first a) (enumerate_from n ps)) ≡ true
entered-plain setup command first n a [] h = refl
entered-plain setup command first n a (p ∷ ps) h =
    let q : (is_plain_part p ≡ true) × (list_all is_plain_part ps ≡ true) = and_parts _ _ h in
    all-append is_plain (request_by setup command first a (n, p)) _ (request-plain setup command first n a p q.0) (entered-plain setup command first (n + 1) a ps q.1)

-- the parts of each command are so
act-plain : (setup : Setup) (a : Act) → list_all is_plain_part (parts_by setup a) ≡ true
act-plain setup (act.Submit what user priority start domain argument) = parts-plain setup what
act-plain setup (act.Hold r) = refl
act-plain setup (act.Unhold r) = refl
act-plain setup (act.Cancel r) = refl
act-plain setup (act.Terminate r) = refl

-- so are all requests
expansion-plain : (setup : Setup) (n : ℕ) (orders : List (ℕ × Order)) → list_all is_plain (expansion_from setup n orders) ≡ true
expansion-plain setup n [] = refl
expansion-plain setup n (order ∷ orders) =
    all-append is_plain (entered setup n order) _ (entered-plain setup order.0 n n order.1.act (parts_by setup order.1.act) (act-plain setup order.1.act))
    (expansion-plain setup (n + length (parts_by setup order.1.act)) orders)

-- a request with a parent is no set
pub member-no_set : (plan : Plan) (r : Req) → Has plan.requests r → is_some r.parent ≡ true → is_set r.item ≡ false
member-no_set plan r hr h =
    let all : list_all is_plain plan.requests ≡ true = ap (list_all is_plain) plan.expanded ∙ expansion-plain plan.setup 1 (enumerate_from 1 plan.script.commands) in
    by (is_some r.parent) (is_set r.item) h (all-has is_plain plan.requests r all hr) where
      by : (p s : Bool) → p ≡ true → (not p || not s) ≡ true → s ≡ false
      by p false h k = refl
      by false true h k = cc
      by true true h k = cc
