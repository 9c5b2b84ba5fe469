-- Two requests of programs are no kin, since the parent of a request is one of a set.
use Rattle.std.proofs.Common.{◌≡◌, ℕ, ◌+◌, Bool, true, false, List, [], ◌∷◌, ◌++◌, length, Option, None, Some, if◌then◌else◌, refl, sym, ◌∙◌, ap, subst, inl, inr}
use Rattle.std.specs.Prelude.{◌==◌}
use Rattle.std.specs.List.{enumerate_from, flat_map}
use Rattle.std.proofs.lemmas.Bool.{both_ways, cases_Bool, or_from}
use Rattle.conc_types.specs.declared.event.RequestId.{RequestId}
use Rattle.conc_types.specs.declared.item.Item.TheVariants as item
use Rattle.conc_types.specs.declared.plan.Plan.{Plan}
use Rattle.conc_types.specs.declared.plan.Req.{Req}
use Rattle.conc_types.specs.declared.script.Act.{Act}
use Rattle.conc_types.specs.declared.script.Act.TheVariants as act
use Rattle.conc_types.specs.declared.script.Order.{Order}
use Rattle.conc_types.specs.declared.setup.Setup.{Setup}
use Rattle.conc_types.specs.Expansion.{entered, expansion_from, Part, parts_by, request_by}
use Rattle.conc_types.specs.Words.{some_and}
use Rattle.conc_base_law.specs.Exclusion.{is_kin}
use Rattle.conc_base_law.specs.Words.{Has, id_eq, is_set}
use Rattle.conc_base_law.proofs.Comes.{same_request}
use Rattle.conc_base_law.proofs.EqualEvents.{id_same}
use Rattle.conc_base_law.proofs.Fronts.{has-left, has-right}
use Rattle.conc_base_law.proofs.Lists.{has-append}

-- ---- parents

-- one of the requests has this number, and is of a set
record IsSetAmong (requests : List Req) (id : RequestId) : Type 0 where
  set : Req
  element : Has requests set
  number : set.number ≡ id
  kind : is_set set.item ≡ true

-- the parent of each request is so
abbrev HaveSets : List Req → Type 0
HaveSets requests = (r : Req) (id : RequestId) → Has requests r → r.parent ≡ Some id → IsSetAmong requests id

-- the parent of each request of a command is the first of its requests
parent_first : (setup : Setup) (command first : ℕ) (a : Act) (parts : List (ℕ × Part)) (r : Req) (id : RequestId)
    → Has (flat_map (request_by setup command first a) parts) r → r.parent ≡ Some id → record { number = first } ≡ id
parent_first setup command first a [] r id h is = absurd h
parent_first setup command first (act.Submit what user priority start domain argument) (part ∷ parts) r id (inl e) is =
    by (part.1.0 == 0) (sym (ap (λ z. z.parent) e) ∙ is) where
      by : (b : Bool) → (if b then None else Some (record { number = first })) ≡ Some id → record { number = first } ≡ id
      by true h = cc
      by false h = cc
parent_first setup command first (act.Submit what user priority start domain argument) (part ∷ parts) r id (inr h) is =
    parent_first setup command first (act.Submit what user priority start domain argument) parts r id h is
parent_first setup command first (act.Hold q) (part ∷ parts) r id h is = parent_first setup command first (act.Hold q) parts r id h is
parent_first setup command first (act.Unhold q) (part ∷ parts) r id h is = parent_first setup command first (act.Unhold q) parts r id h is
parent_first setup command first (act.Cancel q) (part ∷ parts) r id h is = parent_first setup command first (act.Cancel q) parts r id h is
parent_first setup command first (act.Terminate q) (part ∷ parts) r id h is = parent_first setup command first (act.Terminate q) parts r id h is

-- the requests of a command have their set among them
act-sets : (setup : Setup) (command first : ℕ) (a : Act) → HaveSets (flat_map (request_by setup command first a) (enumerate_from first (parts_by setup a)))
act-sets setup command first (act.Submit (item.Program n) user priority start domain argument) r id (inl e) is =
    let none : r.parent ≡ None = ap (λ z. z.parent) e in
    cc
act-sets setup command first (act.Submit (item.Program n) user priority start domain argument) r id (inr h) is = absurd h
act-sets setup command first (act.Submit (item.Set n) user priority start domain argument) r id h is = record {
  set = _;
  element = inl refl;
  number = parent_first setup command first (act.Submit (item.Set n) user priority start domain argument)
      (enumerate_from first (parts_by setup (act.Submit (item.Set n) user priority start domain argument))) r id h is;
  kind = refl;
}
act-sets setup command first (act.Hold q) r id h is = absurd h
act-sets setup command first (act.Unhold q) r id h is = absurd h
act-sets setup command first (act.Cancel q) r id h is = absurd h
act-sets setup command first (act.Terminate q) r id h is = absurd h

-- so have two lists in a row of which each has
sets-append : (xs ys : List Req) → HaveSets xs → HaveSets ys → HaveSets (xs ++ ys)
sets-append xs ys one other r id h is = elim (has-append xs ys r h) [
  | inl a ↦
      let p : IsSetAmong xs id = one r id a is in
      record { set = p.set; element = has-left xs ys p.set p.element; number = p.number; kind = p.kind }
  | inr b ↦
      let p : IsSetAmong ys id = other r id b is in
      record { set = p.set; element = has-right xs ys p.set p.element; number = p.number; kind = p.kind }
]

-- and those of all commands
expansion-sets : (setup : Setup) (first : ℕ) (orders : List (ℕ × Order)) → HaveSets (expansion_from setup first orders)
expansion-sets setup first [] = λ r id h is. absurd h
expansion-sets setup first (order ∷ orders) =
    sets-append (entered setup first order) (expansion_from setup (first + length (parts_by setup order.1.act)) orders) (act-sets setup order.0 first order.1.act)
    (expansion-sets setup (first + length (parts_by setup order.1.act)) orders)

-- and those of a plan
plan-sets : (plan : Plan) → HaveSets plan.requests
plan-sets plan = subst HaveSets (sym plan.expanded) (expansion-sets plan.setup 1 (enumerate_from 1 plan.script.commands))

-- ---- kin

-- a request of a program is no parent
no_parent : (plan : Plan) (x y : Req) → Has plan.requests x → Has plan.requests y → is_set y.item ≡ false → some_and (id_eq y.number) x.parent ≡ false
no_parent plan x y hx hy program = by x.parent refl where
  by : (o : Option RequestId) → x.parent ≡ o → some_and (id_eq y.number) o ≡ false
  by None is = refl
  by (Some id) is = elim (cases_Bool (id_eq y.number id)) [
    | inr f ↦ f
    | inl t ↦
        let p : IsSetAmong plan.requests id = plan-sets plan x id hx is in
        let same : p.set ≡ y = same_request plan p.set y p.element hy (p.number ∙ sym (id_same y.number id t)) in
        absurd (both_ways _ program (ap (λ z. is_set z.item) (sym same) ∙ p.kind))
  ]

-- two requests of programs are no kin
pub no_kin : (plan : Plan) (x y : Req) → Has plan.requests x → Has plan.requests y → is_set x.item ≡ false → is_set y.item ≡ false → is_kin x y ≡ false
unfolding is_kin
no_kin plan x y hx hy one other = or_from _ _ (no_parent plan x y hx hy other) (no_parent plan y x hy hx one)
