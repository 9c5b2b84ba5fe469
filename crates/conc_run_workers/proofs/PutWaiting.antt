-- The requests that wait to start, put one by one.
use Rattle.std.proofs.Common.{◌≡◌, ℕ, suc, ◌+◌, ◌<◌, ◌≤◌, zero, Bool, true, false, if◌then◌else◌, List, [], ◌∷◌, ◌++◌, length, get_or, map, filter, take, drop, reverse, refl, sym, ◌∙◌, ap, ap₂, arith, take_all, take-append-drop, append-nil}
use Rattle.std.specs.List.{list_any}
use Rattle.std.proofs.lemmas.List.{drop_all}
use Rattle.std.proofs.lemmas.List.Elements.{filter-append}
use Rattle.conc_types.specs.declared.event.Event.{Event}
use Rattle.conc_types.specs.declared.event.RequestId.{RequestId}
use Rattle.conc_types.specs.declared.plan.Plan.{Plan}
use Rattle.conc_types.specs.declared.plan.Req.{Req}
use Rattle.conc_types.specs.Plans.{request}
use Rattle.conc_types.specs.Words.{some_and}
use Rattle.conc_base_law.specs.Kinds.{is_resume}
use Rattle.conc_base_law.specs.Law.{LawfulSoFar}
use Rattle.conc_base_law.specs.State.{facts_at, state}
use Rattle.conc_base_law.specs.Words.{Has}
use Rattle.conc_base_law.proofs.FactsAt.{facts_at-state}
use Rattle.conc_base_law.proofs.Numbering.{numbered_plan}
use Rattle.conc_pool_lanes.specs.Lanes.{are_shorter, IsLeadPassOf, joined_by, plan_of, puts_of}
use Rattle.conc_pool_lanes.specs.Puts.{lists_for, puts, waiting_to_start, waits_to_start}
use Rattle.conc_pool_lanes.specs.Rooms.{room_for}
use Rattle.conc_pool_lanes.specs.declared.lanes.Lanes.{Lanes}
use Rattle.conc_pool_lanes.specs.declared.lanes.LeadPass.{LeadPass}
use Rattle.conc_pool_lanes.proofs.Lists.{lists_for-first, lists_for-more}
use Rattle.conc_pool_lanes.proofs.Puts.{puts-begun, puts-shorter}
use Rattle.conc_run_desk.specs.Desks.{list_at, plan_at}
use Rattle.conc_run_desk.specs.State.{DeskState}
use Rattle.conc_run_desk.proofs.Waiting.{are_let, SaysLet}
use Rattle.conc_run_state.specs.Machines.{Machine, plan_of as machine_plan, StandsFor}
use Rattle.conc_run_workers.specs.Filling.{AreFilled}

-- those among the first so many requests of a list that wait to start, by number
abbrev pub waiting_among : Plan → List Event → List Req → ℕ → List RequestId
waiting_among plan past items n = map (λ (r : Req). r.number) (filter (waits_to_start plan past) (take n items))

-- ---- one more

take-more : (items : List Req) (n : ℕ) (x : Req) → n < length items → x ≡ get_or items n x → take (suc n) items ≡ take n items ++ x ∷ []
take-more [] n x below is = absurd (omega arith)
take-more (y ∷ items) zero x below is = ap (λ z. z ∷ []) (sym is)
take-more (y ∷ items) (suc n) x below is = ap (λ l. y ∷ l) (take-more items n x (omega arith) is)

map-append : (f : Req → RequestId) (xs ys : List Req) → map f (xs ++ ys) ≡ map f xs ++ map f ys
map-append f [] ys = refl
map-append f (x ∷ xs) ys = ap (λ l. f x ∷ l) (map-append f xs ys)

among-more : (plan : Plan) (past : List Event) (items : List Req) (n : ℕ) (x : Req) → n < length items → x ≡ get_or items n x
    → waiting_among plan past items (suc n) ≡ waiting_among plan past items n ++ map (λ (r : Req). r.number) (if waits_to_start plan past x then x ∷ [] else [])
among-more plan past items n x below is =
    let test = waits_to_start plan past in
    ap (λ (l : List Req). map (λ (r : Req). r.number) (filter test l)) (take-more items n x below is)
    ∙ (ap (map (λ (r : Req). r.number)) (filter-append test (take n items) (x ∷ []))
    ∙ map-append (λ r. r.number) (filter test (take n items)) (if test x then x ∷ [] else []))

pub among-yes : (plan : Plan) (past : List Event) (items : List Req) (n : ℕ) (x : Req) → n < length items → x ≡ get_or items n x → waits_to_start plan past x ≡ true
    → waiting_among plan past items (n + 1) ≡ waiting_among plan past items n ++ x.number ∷ []
among-yes plan past items n x below is so =
    ap (waiting_among plan past items) (let e : n + 1 ≡ suc n = omega arith in e)
    ∙ (among-more plan past items n x below is ∙ ap (λ (b : Bool). waiting_among plan past items n ++ map (λ (r : Req). r.number) (if b then x ∷ [] else [])) so)

pub among-no : (plan : Plan) (past : List Event) (items : List Req) (n : ℕ) (x : Req) → n < length items → x ≡ get_or items n x → waits_to_start plan past x ≡ false
    → waiting_among plan past items (n + 1) ≡ waiting_among plan past items n
among-no plan past items n x below is not_so =
    ap (waiting_among plan past items) (let e : n + 1 ≡ suc n = omega arith in e)
    ∙ (among-more plan past items n x below is
    ∙ (ap (λ (b : Bool). waiting_among plan past items n ++ map (λ (r : Req). r.number) (if b then x ∷ [] else [])) not_so ∙ append-nil (waiting_among plan past items n)))

-- all of them
pub among-all : (plan : Plan) (past : List Event) (items : List Req) (n : ℕ) → items ≡ plan.requests → length items ≤ n → waiting_among plan past items n ≡ waiting_to_start plan past
unfolding waiting_to_start
among-all plan past items n is all =
    ap (λ (l : List Req). map (λ (r : Req). r.number) (filter (waits_to_start plan past) l)) (take_all n items all ∙ is)

-- ---- a beginning of them

among-part : (plan : Plan) (past : List Event) (items : List Req) (n : ℕ) → items ≡ plan.requests
    → waiting_to_start plan past ≡ waiting_among plan past items n ++ map (λ (r : Req). r.number) (filter (waits_to_start plan past) (drop n items))
unfolding waiting_to_start
among-part plan past items n is =
    let test = waits_to_start plan past in
    ap (λ (l : List Req). map (λ (r : Req). r.number) (filter test l)) (sym is ∙ sym (take-append-drop n items))
    ∙ (ap (map (λ (r : Req). r.number)) (filter-append test (take n items) (drop n items))
    ∙ map-append (λ r. r.number) (filter test (take n items)) (filter test (drop n items)))

none-since : (list : List Event) → list_any is_resume (drop (length list) list) ≡ false
none-since list = ap (list_any is_resume) (drop_all (length list) list (omega arith))

-- the lanes have room for it
pub has-room-waiting : (lanes : Lanes) (plan : Plan) (list : List Event) (items : List Req) (n : ℕ) (pass : LeadPass) → plan_of lanes ≡ plan → items ≡ plan.requests → LawfulSoFar plan list
    → puts_of pass ≡ lists_for plan (waiting_among plan (reverse list) items n) → are_shorter (room_for (plan_of lanes)) (puts_of pass) ≡ true
has-room-waiting lanes plan list items n pass same is lawful put =
    let past = reverse list in
    let whole : are_shorter (room_for plan) (lists_for plan (waiting_to_start plan past)) ≡ true =
    ap (λ l. are_shorter (room_for plan) (lists_for plan l)) (sym (puts-begun plan list)) ∙ puts-shorter plan (length list) list lawful (none-since list) in
    ap₂ (λ (p : Plan) (l : List (List RequestId)). are_shorter (room_for p) l) same put
    ∙ lists_for-first (room_for plan) plan (waiting_among plan past items n) (waiting_to_start plan past) (map (λ (r : Req). r.number) (filter (waits_to_start plan past) (drop n items))) (among-part plan past items n is) whole

-- ---- what the machine says

-- of a request of the plan
pub says-waits : (machine : Machine) (plan : Plan) (past : List Event) (x : Req) (ok : Bool) → machine_plan machine ≡ plan → StandsFor machine past → SaysLet machine x.number ok → Has plan.requests x
    → ok ≡ waits_to_start plan past x
says-waits machine plan past x ok same stands says there =
    says past stands
    ∙ (ap (λ (p : Plan). some_and (λ q. are_let (facts_at (state p past) q)) (request p x.number)) same
    ∙ (ap (some_and (λ q. are_let (facts_at (state plan past) q))) (numbered_plan plan x there) ∙ ap are_let (facts_at-state plan past x there)))

-- ---- a step

pub put-yes : (lanes : Lanes) (plan : Plan) (past : List Event) (items : List Req) (n : ℕ) (x : Req) (old new : LeadPass) → plan_of lanes ≡ plan → n < length items → x ≡ get_or items n x → waits_to_start plan past x ≡ true
    → puts_of old ≡ lists_for plan (waiting_among plan past items n) → puts_of new ≡ joined_by (plan_of lanes) (request (plan_of lanes) x.number) (puts_of old)
    → puts_of new ≡ lists_for plan (waiting_among plan past items (n + 1))
put-yes lanes plan past items n x old new same below is so before put =
    put
    ∙ (ap₂ (λ (p : Plan) (l : List (List RequestId)). joined_by p (request p x.number) l) same before
    ∙ (sym (lists_for-more plan (waiting_among plan past items n) x.number) ∙ ap (lists_for plan) (sym (among-yes plan past items n x below is so))))

pub put-no : (plan : Plan) (past : List Event) (items : List Req) (n : ℕ) (x : Req) (pass : LeadPass) → n < length items → x ≡ get_or items n x → waits_to_start plan past x ≡ false
    → puts_of pass ≡ lists_for plan (waiting_among plan past items n) → puts_of pass ≡ lists_for plan (waiting_among plan past items (n + 1))
put-no plan past items n x pass below is not_so before = before ∙ ap (lists_for plan) (sym (among-no plan past items n x below is not_so))

-- ---- at the end

pub all-filled : (lanes : Lanes) (desk : DeskState) (pass : LeadPass) → plan_of lanes ≡ plan_at desk → desk.begun_with ≡ length (list_at desk) → IsLeadPassOf lanes pass
    → puts_of pass ≡ lists_for (plan_at desk) (waiting_to_start (plan_at desk) (reverse (list_at desk))) → AreFilled lanes desk pass
all-filled lanes desk pass same begun of put = record {
  filling = record {
    own = of;
    plan = same;
    begun = omega (arith, begun);
    no_resume = ap (λ (n : ℕ). list_any is_resume (drop n (list_at desk))) begun ∙ none-since (list_at desk);
  };
  all = put ∙ ap (lists_for (plan_at desk)) (sym (puts-begun (plan_at desk) (list_at desk)) ∙ ap (λ (n : ℕ). puts (plan_at desk) n (list_at desk)) (sym begun));
}
