-- The requests that the first commands of a plan enter, and those that the further ones enter.
use Rattle.std.proofs.Common.{◌≡◌, ℕ, suc, ◌+◌, ◌<◌, ◌≤◌, ◌==◌, Bool, true, false, if◌then◌else◌, List, [], ◌∷◌, ◌++◌, length, None, Some, refl, sym, ◌∙◌, ap, inl, inr, append_assoc, length-append, arith}
use Rattle.std.specs.List.{enumerate_from, flat_map}
use Rattle.conc_types.specs.declared.event.RequestId.{RequestId}
use Rattle.conc_types.specs.declared.plan.Plan.{Plan}
use Rattle.conc_types.specs.declared.plan.Req.{Req}
use Rattle.conc_types.specs.declared.script.Act.{Act}
use Rattle.conc_types.specs.declared.script.Act.TheVariants as act
use Rattle.conc_types.specs.declared.script.Order.{Order}
use Rattle.conc_types.specs.declared.setup.Setup.{Setup}
use Rattle.conc_types.specs.Expansion.{entered, expansion, expansion_from, Part, parts_by, request_by}
use Rattle.conc_base_law.specs.Words.{Has}
use Rattle.conc_base_law.proofs.Fronts.{enumerate-front, enumerated-at, has-append, has-length}

-- ---- of one command

-- the request of a command for a part names the command, and as its set, if it has one, the first of its requests
abbrev pub IsEntered : ℕ → ℕ → Req → Type 0
IsEntered command first r = (r.command ≡ command) × ((id : RequestId) → r.parent ≡ Some id → id.number ≡ first)

-- each request that a command enters for some parts is so
entered_parts : (setup : Setup) (command first : ℕ) (a : Act) (parts : List (ℕ × Part)) (r : Req) → Has (flat_map (request_by setup command first a) parts) r → IsEntered command first r
entered_parts setup command first a [] r h = absurd h
entered_parts setup command first (act.Submit what user priority start domain argument) (part ∷ parts) r (inl e) = (
  ap (λ z. z.command) e,
  λ id h. by (part.1.0 == 0) id (sym (ap (λ z. z.parent) e) ∙ h),
) where
  by : (b : Bool) (id : RequestId) → (if b then None else Some (record { number = first })) ≡ Some id → id.number ≡ first
  by true id h = cc
  by false id h = let same : ◌≡◌ {A = RequestId} (record { number = first }) id = cc in ap (λ z. z.number) (sym same)
entered_parts setup command first (act.Submit what user priority start domain argument) (part ∷ parts) r (inr h) =
    entered_parts setup command first (act.Submit what user priority start domain argument) parts r h
entered_parts setup command first (act.Hold q) (part ∷ parts) r h = entered_parts setup command first (act.Hold q) parts r h
entered_parts setup command first (act.Unhold q) (part ∷ parts) r h = entered_parts setup command first (act.Unhold q) parts r h
entered_parts setup command first (act.Cancel q) (part ∷ parts) r h = entered_parts setup command first (act.Cancel q) parts r h
entered_parts setup command first (act.Terminate q) (part ∷ parts) r h = entered_parts setup command first (act.Terminate q) parts r h

-- a command enters as many requests as it has parts
entered_many : (setup : Setup) (command first n : ℕ) (what : Act) (parts : List Part) → ((part : ℕ × Part) → (r : Req) × (request_by setup command first what part ≡ r ∷ []))
    → length (flat_map (request_by setup command first what) (enumerate_from n parts)) ≡ length parts
entered_many setup command first n what [] one = refl
entered_many setup command first n what (part ∷ parts) one =
    let rest : List Req = flat_map (request_by setup command first what) (enumerate_from (n + 1) parts) in
    ap (λ l. length (l ++ rest)) (one (n, part)).1 ∙ ap (λ m. suc m) (entered_many setup command first (n + 1) what parts one)

-- the same, whatever the command does
entered_length : (setup : Setup) (command first : ℕ) (a : Act) → length (flat_map (request_by setup command first a) (enumerate_from first (parts_by setup a))) ≡ length (parts_by setup a)
entered_length setup command first (act.Submit what user priority start domain argument) =
    entered_many setup command first first (act.Submit what user priority start domain argument) (parts_by setup (act.Submit what user priority start domain argument)) (λ part. (_, refl))
entered_length setup command first (act.Hold q) = refl
entered_length setup command first (act.Unhold q) = refl
entered_length setup command first (act.Cancel q) = refl
entered_length setup command first (act.Terminate q) = refl

-- ---- of many commands

-- the request is that of one of the commands, and its set, if it has one, has one of these numbers
pub record IsOf (first last : ℕ) (orders : List (ℕ × Order)) (r : Req) : Type 0 where
  pub order : ℕ × Order
  pub element : Has orders order
  pub command : r.command ≡ order.0
  pub parent : (id : RequestId) → r.parent ≡ Some id → (first ≤ id.number) × (id.number < last)

-- each request that commands enter is so
pub entered_of : (setup : Setup) (first : ℕ) (orders : List (ℕ × Order)) (r : Req) → Has (expansion_from setup first orders) r
    → IsOf first (first + length (expansion_from setup first orders)) orders r
entered_of setup first [] r h = absurd h
entered_of setup first (order ∷ orders) r h =
    let here : List Req = entered setup first order in
    let next : ℕ = first + length (parts_by setup order.1.act) in
    let rest : List Req = expansion_from setup next orders in
    let many : length here ≡ length (parts_by setup order.1.act) = entered_length setup order.0 first order.1.act in
    let all : length (here ++ rest) ≡ length here + length rest = length-append here rest in
    elim (has-append here rest r h) [
      | inl a ↦
          let p : IsEntered order.0 first r = entered_parts setup order.0 first order.1.act (enumerate_from first (parts_by setup order.1.act)) r a in
          let some : 0 < length here = has-length here r a in
          record {
            order = order;
            element = inl refl;
            command = p.0;
            parent = λ id k. (omega (arith, p.1 id k), omega (arith, p.1 id k, some, all));
          }
      | inr b ↦
          let p : IsOf next (next + length rest) orders r = entered_of setup next orders r b in
          record {
            order = p.order;
            element = inr p.element;
            command = p.command;
            parent = λ id k. let q : (next ≤ id.number) × (id.number < next + length rest) = p.parent id k in (omega (arith, q.0), omega (arith, q.1, all, many));
          }
    ]

-- the requests of the first commands, and then those of the further ones
pub expansion-front : (setup : Setup) (first : ℕ) (xs ys : List (ℕ × Order))
    → expansion_from setup first (xs ++ ys) ≡ expansion_from setup first xs ++ expansion_from setup (first + length (expansion_from setup first xs)) ys
expansion-front setup first [] ys = ap (λ n. expansion_from setup n ys) (omega arith)
expansion-front setup first (order ∷ xs) ys =
    let here : List Req = entered setup first order in
    let next : ℕ = first + length (parts_by setup order.1.act) in
    let rest : List Req = expansion_from setup next xs in
    let many : length here ≡ length (parts_by setup order.1.act) = entered_length setup order.0 first order.1.act in
    let last : next + length rest ≡ first + length (here ++ rest) = omega (arith, length-append here rest, many) in
    ap (λ l. here ++ l) (expansion-front setup next xs ys ∙ ap (λ n. rest ++ expansion_from setup n ys) last)
    ∙ sym (append_assoc here rest (expansion_from setup (first + length (here ++ rest)) ys))

-- ---- of a plan

-- the plan has these requests first. Of the others none is of one of the first commands, as many as this, and none has
-- one of the first requests as its set
pub record Begins (plan : Plan) (count : ℕ) (front : List Req) : Type 0 where
  pub rest : List Req
  pub is : plan.requests ≡ front ++ rest
  pub later : (r : Req) → Has rest r → count < r.command
  pub apart : (r : Req) → Has rest r → (id : RequestId) → r.parent ≡ Some id → length front < id.number

-- the sets of these requests are among them
abbrev pub AreClosed : List Req → Type 0
AreClosed front = (r : Req) → Has front r → (id : RequestId) → r.parent ≡ Some id → id.number ≤ length front

-- the requests of some commands are so
pub expansion-closed : (setup : Setup) (orders : List Order) → AreClosed (expansion setup orders)
expansion-closed setup orders r h id k =
    let p : IsOf 1 (1 + length (expansion setup orders)) (enumerate_from 1 orders) r = entered_of setup 1 (enumerate_from 1 orders) r h in
    omega (arith, (p.parent id k).1)

-- a plan begins with the requests of its first commands
pub plan_begins : (plan : Plan) (setup : Setup) (orders further : List Order) (count : ℕ) → plan.setup ≡ setup → plan.script.commands ≡ orders ++ further → length orders ≡ count
    → Begins plan count (expansion setup orders)
plan_begins plan setup orders further count same are many =
    let front : List Req = expansion setup orders in
    let behind : List (ℕ × Order) = enumerate_from (1 + length orders) further in
    let rest : List Req = expansion_from setup (1 + length front) behind in
    let of : (r : Req) → Has rest r → IsOf (1 + length front) (1 + length front + length rest) behind r = λ r h. entered_of setup (1 + length front) behind r h in
    record {
      rest = rest;
      is = plan.expanded
          ∙ (ap (λ z. expansion z plan.script.commands) same
          ∙ (ap (expansion setup) are
          ∙ (ap (expansion_from setup 1) (enumerate-front 1 orders further)
          ∙ expansion-front setup 1 (enumerate_from 1 orders) behind)));
      later = λ r h.
          let p : IsOf (1 + length front) (1 + length front + length rest) behind r = of r h in
          let q : (k : ℕ) × (p.order.0 ≡ 1 + length orders + k) × _ = enumerated-at (1 + length orders) further p.order p.element in
          omega (arith, p.command, q.1, many);
      apart = λ r h id k. omega (arith, ((of r h).parent id k).0);
    }
