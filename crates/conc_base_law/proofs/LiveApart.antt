-- In a lawful history two live requests never exclude each other.
use Rattle.std.proofs.Common.{◌≡◌, ◌⊎◌, Bool, true, false, not, ◌&&◌, ◌||◌, List, [], ◌∷◌, Option, None, refl, sym, ◌∙◌, ap, subst, inl, inr}
use Rattle.std.specs.List.{list_any}
use Rattle.std.proofs.lemmas.Bool.{and_from, and_left, and_parts, and_right, both_ways, eq-eqb, not-true, not_from_true, or_cases, or_left, or_right}
use Rattle.conc_types.specs.declared.event.Event.{Event}
use Rattle.conc_types.specs.declared.event.Event.TheVariants as event
use Rattle.conc_types.specs.declared.event.RequestId.{RequestId}
use Rattle.conc_types.specs.declared.facts.State.{State}
use Rattle.conc_types.specs.declared.plan.Plan.{Plan}
use Rattle.conc_types.specs.declared.plan.Req.{Req}
use Rattle.conc_types.specs.declared.script.Reading.{Reading}
use Rattle.conc_base_law.specs.Exclusion.{excludes}
use Rattle.conc_base_law.specs.Facts.{facts_of, is_let, is_open, unlets}
use Rattle.conc_base_law.specs.Kinds.{closes, lets, opens}
use Rattle.conc_base_law.specs.Law.{is_lawful_so_far, may_follow}
use Rattle.conc_base_law.specs.Next.{blocks, can_run, is_free, is_ready, may_let}
use Rattle.conc_base_law.specs.Before.{occurs_since}
use Rattle.conc_base_law.specs.Plans.{are_exclusive, parent_item}
use Rattle.conc_base_law.specs.State.{facts_at, has_come, is_completed, is_live, is_waiting, state}
use Rattle.conc_base_law.specs.Words.{Has, is_set}
use Rattle.conc_base_law.proofs.Comes.{let_comes, Lettable, open_comes, same_request}
use Rattle.conc_base_law.proofs.EqualEvents.{id_same}
use Rattle.conc_base_law.proofs.FactsAt.{is_live-state}
use Rattle.conc_base_law.proofs.FirstBy.{any-some}
use Rattle.conc_base_law.proofs.Symmetry.{excludes_comm}

-- ---- exclusion

-- exclusion is symmetric
pub are_exclusive_comm : (plan : Plan) (x y : Req) → are_exclusive plan x y ≡ are_exclusive plan y x
unfolding are_exclusive
are_exclusive_comm plan x y = excludes_comm plan.setup x y (parent_item plan x) (parent_item plan y)

-- no request excludes one with its number
pub not_itself : (plan : Plan) (x y : Req) → x.number ≡ y.number → are_exclusive plan x y ≡ false
unfolding are_exclusive excludes
not_itself plan x y n = and_left _ _ (not_from_true _ (eq-eqb _ _ (ap (λ k. k.number) n)))

-- ---- what becomes live

-- the event lets r out, or opens it
abbrev pub GoesLive : Req → Event → Type 0
GoesLive r e = (e ≡ event.LetOut r.number) ⊎ (e ≡ event.OpenSet r.number)

-- the event that lets r out
pub lets-event : (r : RequestId) (e : Event) → lets r e ≡ true → e ≡ event.LetOut r
lets-event r (event.LetOut q) h = ap (λ x. event.LetOut x) (id_same q r h)
lets-event r _ h = cc

-- the event that opens a set
pub opens-event : (r : RequestId) (e : Event) → opens r e ≡ true → e ≡ event.OpenSet r
opens-event r (event.OpenSet q) h = ap (λ x. event.OpenSet x) (id_same q r h)
opens-event r _ h = cc

-- a request that is let is let out by this event, or was let and is not unlet by it
pub is_let-more : (plan : Plan) (past : List Event) (r : Req) (e : Event) → is_let plan (e ∷ past) r ≡ true
    → (e ≡ event.LetOut r.number) ⊎ ((unlets plan r past e ≡ false) × (is_let plan past r ≡ true))
unfolding is_let
is_let-more plan past r e h = elim (or_cases (lets r.number e) _ h) [
  | inl l ↦ inl (lets-event r.number e l)
  | inr s ↦ let p : (not (unlets plan r past e) ≡ true) × (is_let plan past r ≡ true) = and_parts _ _ s in inr (not-true _ p.0, p.1)
]

-- a set that is open is opened by this event, or was open and is not closed by it
pub is_open-more : (past : List Event) (r : Req) (e : Event) → is_open (e ∷ past) r ≡ true
    → (e ≡ event.OpenSet r.number) ⊎ ((closes r.number e ≡ false) × (is_open past r ≡ true))
unfolding is_open
is_open-more past r e h =
    let since : Bool = occurs_since (λ _ e. opens r.number e) (λ _ e. closes r.number e) past in
    let p : (is_set r.item ≡ true) × ((opens r.number e || (not (closes r.number e) && since)) ≡ true) = and_parts _ _ h in
    elim (or_cases (opens r.number e) _ p.1) [
      | inl o ↦ inl (opens-event r.number e o)
      | inr s ↦ let q : (not (closes r.number e) ≡ true) × (since ≡ true) = and_parts _ _ s in inr (not-true _ q.0, and_from _ _ p.0 q.1)
    ]

-- a request that is live goes live by this event, or was live
is_live-more : (plan : Plan) (past : List Event) (r : Req) (e : Event) → is_live (facts_of plan (e ∷ past) r) ≡ true
    → (is_live (facts_of plan past r) ≡ true) ⊎ GoesLive r e
unfolding facts_of
is_live-more plan past r e h = elim (or_cases (is_let plan (e ∷ past) r) _ h) [
  | inl l ↦ elim (is_let-more plan past r e l) [ inl g ↦ inr (inl g) | inr s ↦ inl (or_left _ _ s.1) ]
  | inr o ↦ elim (is_open-more past r e o) [ inl g ↦ inr (inr g) | inr s ↦ inl (or_right _ _ s.1) ]
]

-- a request of the plan with the number of one that could be let could be let
lettable_could : (plan : Plan) (s : State) (r : Req) (set : Bool) → Has plan.requests r → Lettable plan s r.number set
    → (may_let plan s r ≡ true) × (is_set r.item ≡ set)
lettable_could plan s r set hr l =
    let same : l.req ≡ r = same_request plan l.req r l.element hr l.number in
    (subst (λ z. may_let plan s z ≡ true) same l.could, subst (λ z. is_set z.item ≡ set) same l.kind)

-- a request that is let out could be let, and is no set
pub let_could : (plan : Plan) (readings : Option (List Reading)) (past : List Event) (r : Req) → Has plan.requests r
    → may_follow plan readings past (event.LetOut r.number) ≡ true → (may_let plan (state plan past) r ≡ true) × (is_set r.item ≡ false)
let_could plan readings past r hr h = lettable_could plan (state plan past) r false hr (let_comes plan readings past r.number h)

-- a request that is opened could be opened, and is a set
pub open_could : (plan : Plan) (readings : Option (List Reading)) (past : List Event) (r : Req) → Has plan.requests r
    → may_follow plan readings past (event.OpenSet r.number) ≡ true → (may_let plan (state plan past) r ≡ true) × (is_set r.item ≡ true)
open_could plan readings past r hr h = lettable_could plan (state plan past) r true hr (open_comes plan readings past r.number h)

-- a request that goes live could be let
went_live : (plan : Plan) (past : List Event) (r : Req) (e : Event) → Has plan.requests r → may_follow plan None past e ≡ true → GoesLive r e
    → may_let plan (state plan past) r ≡ true
went_live plan past r e hr h (inl l) = (let_could plan None past r hr (subst (λ d. may_follow plan None past d ≡ true) l h)).0
went_live plan past r e hr h (inr o) = (open_could plan None past r hr (subst (λ d. may_follow plan None past d ≡ true) o h)).0

-- what a request that can be let meets: it is not completed, does not wait for its stage, and none excludes it
pub may_let-parts : (plan : Plan) (s : State) (r : Req) → may_let plan s r ≡ true
    → (is_completed (facts_at s r) ≡ false) × (is_waiting plan s r ≡ false) × (is_free plan s r ≡ true)
unfolding may_let is_ready
may_let-parts plan s r h =
    let f = facts_at s r in
    let both : (is_ready plan s r ≡ true) × (is_free plan s r ≡ true) = and_parts _ _ h in
    let come : Bool = has_come s.time r.start && (can_run plan r && not (is_waiting plan s r)) in
    let open_part : (not (is_completed f) ≡ true) × ((not f.held && come) ≡ true) =
    and_parts _ _ (and_parts (not (is_live f)) _ (and_parts f.entered _ both.0).1).1 in
    let begun : not (is_waiting plan s r) ≡ true =
    (and_parts (can_run plan r) _ (and_parts (has_come s.time r.start) _ (and_parts (not f.held) _ open_part.1).1).1).1 in
    (not-true _ open_part.0, not-true _ begun, both.1)

-- a request that can be let is excluded by no live one
let_is_free : (plan : Plan) (past : List Event) (r q : Req) → may_let plan (state plan past) r ≡ true → Has plan.requests q
    → is_live (facts_of plan past q) ≡ true → are_exclusive plan q r ≡ true → ⊥
unfolding is_free blocks
let_is_free plan past r q h hq live ex =
    let s = state plan past in
    let free : is_free plan s r ≡ true = (may_let-parts plan s r h).2 in
    let here : is_live (facts_at s q) ≡ true = is_live-state plan past q hq ∙ live in
    both_ways (list_any (blocks plan s r) plan.requests) (not-true _ free) (any-some (blocks plan s r) plan.requests q hq (and_from _ _ here ex))

-- one event makes one request live
live_number : (x y : Req) (e : Event) → GoesLive x e → GoesLive y e → x.number ≡ y.number
live_number x y e (inl g) (inl h) = let k : event.LetOut x.number ≡ event.LetOut y.number = sym g ∙ h in cc
live_number x y e (inr g) (inr h) = let k : event.OpenSet x.number ≡ event.OpenSet y.number = sym g ∙ h in cc
live_number x y e (inl g) (inr h) = let k : event.LetOut x.number ≡ event.OpenSet y.number = sym g ∙ h in cc
live_number x y e (inr g) (inl h) = let k : event.OpenSet x.number ≡ event.LetOut y.number = sym g ∙ h in cc

-- before the first event no request is live
none_live : (plan : Plan) (r : Req) → is_live (facts_of plan [] r) ≡ false
unfolding facts_of is_let is_open
none_live plan r = and_right (is_set r.item) false refl

-- two live requests never exclude each other
pub live_apart : (plan : Plan) (past : List Event) (x y : Req) → Has plan.requests x → Has plan.requests y → is_lawful_so_far plan past ≡ true
    → are_exclusive plan x y ≡ true → is_live (facts_of plan past x) ≡ true → is_live (facts_of plan past y) ≡ true → ⊥
unfolding is_lawful_so_far
live_apart plan [] x y hx hy lawful ex lx ly = both_ways _ (none_live plan x) lx
live_apart plan (e ∷ past) x y hx hy lawful ex lx ly =
    let p : (is_lawful_so_far plan past ≡ true) × (may_follow plan None past e ≡ true) = and_parts _ _ lawful in
    elim (is_live-more plan past x e lx) [
      | inl bx ↦ elim (is_live-more plan past y e ly) [
        | inl by ↦ live_apart plan past x y hx hy p.0 ex bx by
        | inr gy ↦ let_is_free plan past y x (went_live plan past y e hy p.1 gy) hx bx ex
      ]
      | inr gx ↦ elim (is_live-more plan past y e ly) [
        | inl by ↦ let_is_free plan past x y (went_live plan past x e hx p.1 gx) hy by (are_exclusive_comm plan y x ∙ ex)
        | inr gy ↦ both_ways _ (not_itself plan x y (live_number x y e gx gy)) ex
      ]
    ]
