-- The lanes, step by step of the resolver.
use Rattle.std.proofs.Common.{◌≡◌, inl, inr, ℕ, ◌≤◌, Bool, true, false, List, [], ◌∷◌, ◌++◌, drop, length, length-append, reverse, take, Some, Result, Ok, Err, append-nil, append_assoc, ◌||◌, refl, sym, ◌∙◌, ap, ap₂, subst, arith, take_all}
use Rattle.std.specs.List.{list_any}
use Rattle.std.proofs.lemmas.List.{drop-append-le, take-append-le}
use Rattle.conc_types.specs.declared.event.Event.{Event}
use Rattle.conc_types.specs.declared.event.Event.TheVariants as event
use Rattle.conc_types.specs.declared.event.RequestId.{RequestId}
use Rattle.conc_types.specs.declared.plan.Plan.{Plan}
use Rattle.conc_base_law.specs.Kinds.{is_resume}
use Rattle.conc_base_law.specs.Law.{LawfulSoFar}
use Rattle.conc_pool_lanes.specs.Lanes.{are_shorter, IsLeadPassOf, plan_of, puts_of}
use Rattle.conc_pool_lanes.specs.Puts.{lets_of, lists_for, puts, waiting_to_start}
use Rattle.conc_pool_lanes.specs.Rooms.{room_for}
use Rattle.conc_pool_lanes.specs.declared.lanes.Lanes.{Lanes}
use Rattle.conc_pool_lanes.specs.declared.lanes.LeadPass.{LeadPass}
use Rattle.conc_pool_lanes.proofs.LetsRoom.{lets_of-append}
use Rattle.conc_pool_lanes.proofs.Lists.{lists_for-more}
use Rattle.conc_pool_lanes.proofs.Puts.{puts-shorter}
use Rattle.conc_run_desk.specs.Desks.{list_at, plan_at, SameWork}
use Rattle.conc_run_desk.specs.State.{DeskState}
use Rattle.conc_run_state.specs.Works.{list_in}
use Rattle.conc_run_state.specs.declared.error.RunFail.{RunFail}
use Rattle.conc_run_state.specs.declared.work.Work.{Work}
use Rattle.conc_run_steps.specs.Steps.{plan_in}
use Rattle.conc_run_workers.specs.Filling.{Adds, AddsEvent, AddsNoLet, AreFilled, AreFilledAs, ArePartlyFilled, Fills, HasPuts, IsFilling, joined_after, puts_at}

-- ---- lists of events

pub any-append : (xs ys : List Event) → list_any is_resume xs ≡ false → list_any is_resume ys ≡ false → list_any is_resume (xs ++ ys) ≡ false
any-append [] ys none more = more
any-append (x ∷ xs) ys none more = by (is_resume x) none (λ later. any-append xs ys later more) where
  by : (b : Bool) → (b || list_any is_resume xs) ≡ false → (list_any is_resume xs ≡ false → list_any is_resume (xs ++ ys) ≡ false) → (b || list_any is_resume (xs ++ ys)) ≡ false
  by true is go = cc
  by false is go = go is

-- what a run puts, some events later
puts-later : (plan : Plan) (begun : ℕ) (list added : List Event) → begun ≤ length list → puts plan begun (list ++ added) ≡ puts plan begun list ++ lets_of added
unfolding puts
puts-later plan begun list added within =
    let waiting = waiting_to_start plan (reverse (take begun list)) in
    ap₂ (λ (a b : List Event). waiting_to_start plan (reverse a) ++ lets_of b) (take-append-le begun list added within) (drop-append-le begun list added within)
    ∙ ap (λ l. waiting ++ l) (lets_of-append (drop begun list) added)
    ∙ sym (append_assoc waiting (lets_of (drop begun list)) (lets_of added))

-- ---- a desk with the same work

module _ (lanes : Lanes) (old new : DeskState) (pass : LeadPass) (same : SameWork old new) where
  filling-still : IsFilling lanes old pass → IsFilling lanes new pass
  filling-still f = record {
    own = f.own;
    plan = subst (λ (w : Work). plan_of lanes ≡ plan_in w) (sym same.work) f.plan;
    begun = subst (λ (z : Work × ℕ). z.1 ≤ length (list_in z.0)) (λ i. (sym same.work i, sym same.begun_with i)) f.begun;
    no_resume = subst (λ (z : Work × ℕ). list_any is_resume (drop z.1 (list_in z.0)) ≡ false) (λ i. (sym same.work i, sym same.begun_with i)) f.no_resume;
  }

  pub filled-still : AreFilled lanes old pass → AreFilled lanes new pass
  filled-still f = record {
    filling = filling-still f.filling;
    all = subst (λ (z : Work × ℕ). puts_of pass ≡ lists_for (plan_in z.0) (puts (plan_in z.0) z.1 (list_in z.0))) (λ i. (sym same.work i, sym same.begun_with i)) f.all;
  }

  partly-still : ArePartlyFilled lanes old pass → ArePartlyFilled lanes new pass
  partly-still f = record {
    filling = filling-still f.filling;
    count = f.count;
    some = subst (λ (z : Work × ℕ). puts_of pass ≡ lists_for (plan_in z.0) (take f.count (puts (plan_in z.0) z.1 (list_in z.0)))) (λ i. (sym same.work i, sym same.begun_with i)) f.some;
  }

  filled-as-still : {T : Type 0} (answer : Result T RunFail) → AreFilledAs lanes answer old pass → AreFilledAs lanes answer new pass
  filled-as-still (Ok x) f = filled-still f
  filled-as-still (Err fail) f = partly-still f

-- ---- a desk with more events

-- the list is what it was and what was added
module _ (lanes : Lanes) (old new : DeskState) (added : List Event) (adds : Adds old new added) where
  filling-more : (pass : LeadPass) → IsLeadPassOf lanes pass → list_any is_resume added ≡ false → plan_of lanes ≡ plan_at old → old.begun_with ≤ length (list_at old)
      → list_any is_resume (drop old.begun_with (list_at old)) ≡ false → IsFilling lanes new pass
  filling-more pass of none plan begun before = record {
    own = of;
    plan = plan ∙ sym adds.plan;
    begun = omega (arith, begun, adds.begun_with, ap length adds.list, length-append (list_at old) added);
    no_resume =
        ap₂ (λ (n : ℕ) (l : List Event). list_any is_resume (drop n l)) adds.begun_with adds.list
        ∙ (ap (list_any is_resume) (drop-append-le old.begun_with (list_at old) added begun) ∙ any-append (drop old.begun_with (list_at old)) added before none);
  }

  puts-now : old.begun_with ≤ length (list_at old) → puts_at new ≡ puts_at old ++ lets_of added
  puts-now begun =
      ap₂ (λ (p : Plan) (n : ℕ). puts p n (list_at new)) adds.plan adds.begun_with
      ∙ (ap (puts (plan_at old) old.begun_with) adds.list ∙ puts-later (plan_at old) old.begun_with (list_at old) added begun)

  -- a beginning of them was put, where nothing was put since
  pub partly-more : (pass : LeadPass) → AreFilled lanes old pass → list_any is_resume added ≡ false → ArePartlyFilled lanes new pass
  partly-more pass f none = let is = f.filling in record {
    filling = filling-more pass is.own none is.plan is.begun is.no_resume;
    count = length (puts_at old);
    some = f.all
        ∙ ap₂ lists_for (sym adds.plan) (sym (take_all (length (puts_at old)) (puts_at old) (omega arith))
        ∙ sym (take-append-le (length (puts_at old)) (puts_at old) (lets_of added) (omega arith))
        ∙ ap (take (length (puts_at old))) (sym (puts-now is.begun)));
  }

  -- all were put, where the lists have what was let since
  pub filled-more : (pass pass' : LeadPass) → AreFilled lanes old pass → list_any is_resume added ≡ false → IsLeadPassOf lanes pass'
      → puts_of pass' ≡ lists_for (plan_at old) (puts_at old ++ lets_of added) → AreFilled lanes new pass'
  filled-more pass pass' f none of put = let is = f.filling in record {
    filling = filling-more pass' of none is.plan is.begun is.no_resume;
    all = put ∙ ap₂ lists_for (sym adds.plan) (sym (puts-now is.begun));
  }

-- events of which none lets a request leave the lanes filled
pub filled-quiet : (lanes : Lanes) (old new : DeskState) (pass : LeadPass) → AreFilled lanes old pass → AddsNoLet old new → AreFilled lanes new pass
filled-quiet lanes old new pass f quiet =
    filled-more lanes old new quiet.added quiet.adds pass pass f quiet.no_resume f.filling.own
    (f.all ∙ ap (lists_for (plan_at old)) (sym (append-nil (puts_at old)) ∙ ap (λ l. puts_at old ++ l) (sym quiet.no_let)))

pub partly-quiet : (lanes : Lanes) (old new : DeskState) (pass : LeadPass) → AreFilled lanes old pass → AddsNoLet old new → ArePartlyFilled lanes new pass
partly-quiet lanes old new pass f quiet = partly-more lanes old new quiet.added quiet.adds pass f quiet.no_resume

-- ---- an event that lets a request

pub no-resume : (e : Event) → is_resume e ≡ false → list_any is_resume (e ∷ []) ≡ false
no-resume e none = by (is_resume e) none where
  by : (b : Bool) → b ≡ false → (b || false) ≡ false
  by true is = is
  by false is = refl

lists-after : (plan : Plan) (requests : List RequestId) (e : Event) → joined_after plan e (lists_for plan requests) ≡ lists_for plan (requests ++ lets_of (e ∷ []))
unfolding lets_of
lists-after plan requests (event.LetOut r) = sym (lists_for-more plan requests r)
lists-after plan requests (event.Tick t) = ap (lists_for plan) (sym (append-nil requests))
lists-after plan requests (event.Command n) = ap (lists_for plan) (sym (append-nil requests))
lists-after plan requests (event.OpenSet s) = ap (lists_for plan) (sym (append-nil requests))
lists-after plan requests (event.Stage s k) = ap (lists_for plan) (sym (append-nil requests))
lists-after plan requests (event.CloseSet s o) = ap (lists_for plan) (sym (append-nil requests))
lists-after plan requests (event.Started r p) = ap (lists_for plan) (sym (append-nil requests))
lists-after plan requests (event.Ended r o x) = ap (lists_for plan) (sym (append-nil requests))
lists-after plan requests (event.Interrupt r) = ap (lists_for plan) (sym (append-nil requests))
lists-after plan requests event.Resume = ap (lists_for plan) (sym (append-nil requests))

-- the lanes have room for what it lets
pub has-room : (lanes : Lanes) (desk : DeskState) (pass : LeadPass) → AreFilled lanes desk pass → LawfulSoFar (plan_at desk) (list_at desk) → are_shorter (room_for (plan_of lanes)) (puts_of pass) ≡ true
has-room lanes desk pass f lawful =
    let is = f.filling in
    ap₂ (λ (p : Plan) (l : List (List RequestId)). are_shorter (room_for p) l) is.plan f.all
    ∙ puts-shorter (plan_at desk) desk.begun_with (list_at desk) lawful is.no_resume

-- it was added, and what it lets was put
pub filled-let : (lanes : Lanes) (old mid new : DeskState) (pass pass' : LeadPass) (e : Event) → AreFilled lanes old pass → Adds old mid (e ∷ []) → is_resume e ≡ false → SameWork mid new
    → IsLeadPassOf lanes pass' → puts_of pass' ≡ joined_after (plan_of lanes) e (puts_of pass) → AreFilled lanes new pass'
filled-let lanes old mid new pass pass' e f adds none same of put =
    let is = f.filling in
    filled-still lanes mid new pass' same
    (filled-more lanes old mid (e ∷ []) adds pass pass' f (no-resume e none) of
    (put ∙ (ap₂ (λ (p : Plan) (l : List (List RequestId)). joined_after p e l) is.plan f.all ∙ lists-after (plan_at old) (puts_at old) e)))

-- it was added or not, and nothing was put
pub partly-event : (lanes : Lanes) (old new : DeskState) (pass : LeadPass) (e : Event) (fail : RunFail) → AreFilled lanes old pass → is_resume e ≡ false → AddsEvent e (Err fail) old new
    → ArePartlyFilled lanes new pass × (new.begun_with ≡ old.begun_with)
partly-event lanes old new pass e fail f none (inl adds) = (partly-more lanes old new [] adds pass f refl, adds.begun_with)
partly-event lanes old new pass e fail f none (inr adds) = (partly-more lanes old new (e ∷ []) adds pass f (no-resume e none), adds.begun_with)

-- ---- one step after another

-- no step
pub fills-none : {lanes : Lanes} {desk : DeskState} {pass : LeadPass} {T : Type 0} {x : T} → AreFilled lanes desk pass → Fills lanes (Ok x) desk desk pass
fills-none f = record { begun_with = refl; filled = f }

-- a step that lets nothing, however it ended
pub fills-quiet : {T : Type 0} (lanes : Lanes) (old new : DeskState) (pass : LeadPass) (answer : Result T RunFail) → AreFilled lanes old pass → AddsNoLet old new → Fills lanes answer old new pass
fills-quiet lanes old new pass (Ok x) f quiet = record { begun_with = quiet.adds.begun_with; filled = filled-quiet lanes old new pass f quiet }
fills-quiet lanes old new pass (Err fail) f quiet = record { begun_with = quiet.adds.begun_with; filled = partly-quiet lanes old new pass f quiet }

-- a step on the board alone
pub fills-still : {T : Type 0} (lanes : Lanes) (old mid new : DeskState) (pass : LeadPass) (answer : Result T RunFail) → Fills lanes answer old mid pass → SameWork mid new → Fills lanes answer old new pass
fills-still lanes old mid new pass answer f same = record {
  begun_with = same.begun_with ∙ f.begun_with;
  filled = filled-as-still lanes mid new pass same answer f.filled;
}

-- one more step, from where an earlier one was
pub fills-after : {T : Type 0} {lanes : Lanes} {old mid new : DeskState} {pass : LeadPass} {answer : Result T RunFail} → mid.begun_with ≡ old.begun_with → Fills lanes answer mid new pass → Fills lanes answer old new pass
fills-after same f = record { begun_with = f.begun_with ∙ same; filled = f.filled }

-- ---- a whole run

-- what was put by a run that is at its end
pub puts-by : (answer : Result Unit RunFail) (lanes : Lanes) (plan : Plan) (first : List Event) (desk : DeskState) (pass : LeadPass) (work : Work) → work ≡ desk.work → plan_of lanes ≡ plan → desk.begun_with ≡ length first
    → AreFilledAs lanes answer desk pass → HasPuts plan first (list_in work) answer (Some pass)
puts-by (Ok x) lanes plan first desk pass work is same begun f =
    subst (λ (z : Plan × (ℕ × Work)). puts_of pass ≡ lists_for z.0 (puts z.0 z.1.0 (list_in z.1.1))) (λ i. ((sym f.filling.plan ∙ same) i, (begun i, sym is i))) f.all
puts-by (Err fail) lanes plan first desk pass work is same begun f = (
  f.count,
  subst (λ (z : Plan × (ℕ × Work)). puts_of pass ≡ lists_for z.0 (take f.count (puts z.0 z.1.0 (list_in z.1.1)))) (λ i. ((sym f.filling.plan ∙ same) i, (begun i, sym is i))) f.some,
)
