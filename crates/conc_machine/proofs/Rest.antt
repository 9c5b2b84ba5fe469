-- A search that finds nothing, and a test that nothing passes.
use Rattle.std.proofs.Common.{◌≡◌, Bool, true, false, not, List, [], ◌∷◌, Option, None, Some, refl, sym, ◌∙◌, inl, inr}
use Rattle.std.specs.Prelude.{is_some}
use Rattle.std.specs.List.{find, list_any}
use Rattle.std.specs.Option.{option_and_then, option_map}
use Rattle.std.proofs.lemmas.Bool.{and_parts, cases_Bool}
use Rattle.conc_types.specs.declared.event.Event.TheVariants as event
use Rattle.conc_types.specs.declared.facts.State.{State}
use Rattle.conc_types.specs.declared.plan.Plan.{Plan}
use Rattle.conc_types.specs.declared.plan.Req.{Req}
use Rattle.conc_base_law.specs.Alone.{first_start, start_of}
use Rattle.conc_base_law.specs.Next.{may_start, may_start_somewhere}
use Rattle.conc_base_law.specs.Places.{all_places}
use Rattle.conc_base_law.specs.Plans.{precedes}
use Rattle.conc_base_law.specs.Words.{first_by, Has}
use Rattle.conc_base_law.proofs.FirstBy.{any-some, find-some, first_by-none, none_any, precedes-order}

-- a search finds something exactly where something passes
pub find-any : {T : Type 0} (test : T → Bool) (xs : List T) → is_some (find test xs) ≡ list_any test xs
find-any test [] = refl
find-any test (x ∷ xs) = elim (cases_Bool (test x)) [
  | inl hit ↦ rw hit refl
  | inr miss ↦ rw miss (find-any test xs)
]

-- what is there of a map is what is there
pub some-map : {A B : Type 0} (f : A → B) (o : Option A) → is_some (option_map f o) ≡ is_some o
some-map f None = refl
some-map f (Some x) = refl

-- what is not the other
pub other-of : (a b : Bool) → a ≡ not b → b ≡ not a
other-of a true h = rw h refl
other-of a false h = rw h refl

-- a request that may start somewhere has a start
start-some : (plan : Plan) (s : State) (r : Req) → may_start_somewhere plan s r ≡ true → is_some (start_of plan s r) ≡ true
unfolding may_start_somewhere
start-some plan s r may =
    some-map (λ place. event.Started r.number place) (find (may_start plan s r) (all_places plan)) ∙ find-any (may_start plan s r) (all_places plan) ∙ may

-- there is a first start exactly where a request may start
pub first_start-any : (plan : Plan) (s : State) → is_some (first_start plan s) ≡ list_any (may_start_somewhere plan s) plan.requests
unfolding first_start
first_start-any plan s = by (first_by precedes (may_start_somewhere plan s) plan.requests) refl where
  by : (o : Option Req) → first_by precedes (may_start_somewhere plan s) plan.requests ≡ o
      → is_some (option_and_then (start_of plan s) o) ≡ list_any (may_start_somewhere plan s) plan.requests
  by None found =
      sym (none_any (may_start_somewhere plan s) plan.requests (first_by-none precedes (may_start_somewhere plan s) plan.requests precedes-order found))
  by (Some r) found =
      let p : _ × Has plan.requests r = find-some _ plan.requests r found in
      let may : may_start_somewhere plan s r ≡ true = (and_parts (may_start_somewhere plan s r) _ p.0).0 in
      start-some plan s r may ∙ sym (any-some (may_start_somewhere plan s) plan.requests r p.1 may)
