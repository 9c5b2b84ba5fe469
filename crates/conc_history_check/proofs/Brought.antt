-- Requests whose start comes, one after the other.
use Rattle.std.proofs.Common.{◌≡◌, ◌⊎◌, ℕ, zero, suc, ◌+◌, ◌-◌, ◌*◌, ◌%◌, ◌<◌, ◌≤◌, Bool, true, false, not, List, [], ◌∷◌, length, set, Option, None, Some, refl, sym, ◌∙◌, ap, inl, inr, subst, arith}
use Rattle.std.specs.Prelude.{nat_le, slice_get}
use Rattle.std.specs.Bool.{then_some}
use Rattle.std.proofs.lemmas.Bool.{cases_eq, le-leb, leb-true}
use Rattle.std.proofs.lemmas.List.{length-set}
use Rattle.std.proofs.lemmas.Option.{slice_get_within}
use Rattle.conc_types.specs.declared.event.Moment.{Moment}
use Rattle.conc_types.specs.declared.facts.State.{State}
use Rattle.conc_types.specs.declared.plan.Plan.{Plan}
use Rattle.conc_types.specs.declared.plan.Req.{Req}
use Rattle.conc_types.specs.Plans.{request}
use Rattle.conc_base_law.specs.State.{has_come}
use Rattle.conc_base_law.specs.Words.{Has}
use Rattle.conc_base_law.proofs.Numbering.{numbered_plan}
use Rattle.conc_base_law.proofs.Positions.{slice_get-some}
use Rattle.conc_event_classes.specs.declared.classes.Classes.{Classes}
use Rattle.conc_event_queue.specs.Least.{least}
use Rattle.conc_event_queue.specs.Turns.{request_at_turn}
use Rattle.conc_event_queue.proofs.Maps.{number_few, request_at_place}
use Rattle.conc_history_check.specs.Coming.{AreComing, AreStartKeys, HasCome, IsNotLater, NoneHasCome, start_key}
use Rattle.conc_history_check.specs.Marks.{AreMarkedSince, HaveRoom, IsMarked, IsMarkedSince, KeepsMarks, slot_of}
use Rattle.conc_history_check.specs.declared.marks.Marks.{Marks}
use Rattle.conc_history_check.proofs.Due.{later-not_come}
use Rattle.conc_history_check.proofs.Lives.{key-passes, least-of, least-slot}
use Rattle.conc_history_check.proofs.Puts.{since-kept}
use Rattle.conc_history_check.proofs.Slots.{has-slot, same_number, slot-set, slot-set_other}

-- ---- the earliest start

-- where nothing stands there, nothing has come
pub none-there : (plan : Plan) (queue : List (Option ℕ)) (now : Option Moment) → least queue ≡ None → NoneHasCome plan queue now
none-there plan queue now is r key has at =
    let l : (m : ℕ) × (least queue ≡ Some m) × (m ≤ key) = least-of queue (r.number.number - 1) key at in
    let e : ◌≡◌ {A = Option ℕ} None (Some l.0) = sym is ∙ l.1 in
    cc

-- the request of the least key
pub least-start : (plan : Plan) (queue : List (Option ℕ)) (key : ℕ) → AreStartKeys plan queue → least queue ≡ Some key
    → (r : Req) × Has plan.requests r × (slot_of queue r ≡ Some (Some key)) × (request_at_turn plan key ≡ Some r)
unfolding start_key request_at_turn
least-start plan queue key are is =
    let at : (i : ℕ) × (slice_get queue i ≡ Some (Some key)) = least-slot queue key is in
    let within : at.0 < length queue = slice_get_within queue at.0 (Some key) at.1 in
    let w : (r : Req) × (slice_get plan.requests at.0 ≡ Some r) = slice_get-some plan.requests at.0 (omega (arith, within, are.size)) in
    let p : (w.0.number.number ≡ at.0 + 1) × Has plan.requests w.0 = request_at_place plan at.0 w.0 w.1 in
    let there : slot_of queue w.0 ≡ Some (Some key) = ap (slice_get queue) (omega (arith, p.0)) ∙ at.1 in
    let own : key ≡ w.0.start.seconds * 32768 + w.0.number.number = are.own w.0 key p.1 there in
    let few : w.0.number.number ≤ 16384 = number_few plan w.0 p.1 in
    let digit : key % 32768 ≡ w.0.number.number = omega (arith, own, few) in
    (w.0, p.1, there, ap (λ n. request plan (record { number = n })) digit ∙ numbered_plan plan w.0 p.1)

pub start-found : (plan : Plan) (queue : List (Option ℕ)) (key : ℕ) (r : Req) → AreStartKeys plan queue → least queue ≡ Some key → request_at_turn plan key ≡ Some r
    → Has plan.requests r × (slot_of queue r ≡ Some (Some key))
start-found plan queue key r are is at =
    let f = least-start plan queue key are is in
    let one : ◌≡◌ {A = Option Req} (Some f.0) (Some r) = sym f.3 ∙ at in
    let same : f.0 ≡ r = cc in
    (subst (Has plan.requests) same f.1, ap (slot_of queue) (sym same) ∙ f.2)

-- where its start has not come, no other has
pub none-earlier : (plan : Plan) (queue : List (Option ℕ)) (now : Option Moment) (key : ℕ) (r : Req) → AreStartKeys plan queue → least queue ≡ Some key → request_at_turn plan key ≡ Some r
    → has_come now r.start ≡ false → NoneHasCome plan queue now
unfolding start_key
none-earlier plan queue now key r are is at off q k has there =
    let f : Has plan.requests r × (slot_of queue r ≡ Some (Some key)) = start-found plan queue key r are is at in
    let own_r : key ≡ r.start.seconds * 32768 + r.number.number = are.own r key f.0 f.1 in
    let own_q : k ≡ q.start.seconds * 32768 + q.number.number = are.own q k has there in
    let l : (m : ℕ) × (least queue ≡ Some m) × (m ≤ k) = least-of queue (q.number.number - 1) k there in
    let e : ◌≡◌ {A = Option ℕ} (Some key) (Some l.0) = sym is ∙ l.1 in
    let same : key ≡ l.0 = cc in
    let few : q.number.number ≤ 16384 = number_few plan q has in
    let behind : r.start.seconds ≤ q.start.seconds = omega (arith, own_r, own_q, same, l.2, few) in
    later-not_come now r.start q.start behind off

pub has-come : (plan : Plan) (queue : List (Option ℕ)) (now : Option Moment) (key : ℕ) (r : Req) → AreStartKeys plan queue → least queue ≡ Some key → request_at_turn plan key ≡ Some r
    → has_come now r.start ≡ true → HasCome plan queue now r
has-come plan queue now key r are is at on =
    let f : Has plan.requests r × (slot_of queue r ≡ Some (Some key)) = start-found plan queue key r are is at in
    record { own = f.0; key = key; there = f.1; come = on }

-- an earlier moment has brought nothing that a later one has not
pub not-later : (before now : Option Moment) (b n : Moment) → before ≡ Some b → now ≡ Some n → nat_le b.seconds n.seconds ≡ true → IsNotLater before now
unfolding has_come
not-later before now b n was is le t on =
    let come : nat_le t.seconds b.seconds ≡ true = rw was at on in
    rw is (le-leb t.seconds n.seconds (omega (arith, leb-true t.seconds b.seconds come, leb-true b.seconds n.seconds le)))

pub none-later : (before now : Option Moment) → before ≡ None → IsNotLater before now
unfolding has_come
none-later before now was t on = let off : false ≡ true = rw was at on in cc

-- ---- how many stand there

pub keyed : List (Option ℕ) → ℕ
keyed [] = 0
keyed (None ∷ xs) = keyed xs
keyed (Some k ∷ xs) = suc (keyed xs)

pub keyed-less : (xs : List (Option ℕ)) (i k : ℕ) → slice_get xs i ≡ Some (Some k) → keyed (set xs i None) < keyed xs
unfolding keyed
keyed-less [] i k at = cc
keyed-less (None ∷ xs) zero k at = cc
keyed-less (Some a ∷ xs) zero k at = omega arith
keyed-less (None ∷ xs) (suc i) k at = keyed-less xs i k at
keyed-less (Some a ∷ xs) (suc i) k at = omega (arith, keyed-less xs i k at)

-- ---- one after the other

-- q stands there and had not come, or it stands there no more, has come, and is put anew
abbrev pub IsBrought : Plan → Classes → Option Moment → State → List (Option ℕ) → Marks → Req → Type 0
IsBrought plan classes before s coming marks q =
    ((slot_of coming q ≡ Some (Some (start_key q))) × (has_come before q.start ≡ false))
    ⊎ ((slot_of coming q ≡ Some None) × (has_come s.time q.start ≡ true) × IsMarkedSince plan classes before s q marks)

pub record Brought (plan : Plan) (classes : Classes) (before : Option Moment) (s : State) (was : Marks) (coming : List (Option ℕ)) (marks : Marks) : Type 0 where
  pub room : HaveRoom plan classes marks
  pub kept : KeepsMarks plan classes s was marks
  pub size : length coming ≡ length plan.requests
  pub each : (q : Req) → Has plan.requests q → IsBrought plan classes before s coming marks q

pub brought-keys : (plan : Plan) (classes : Classes) (before : Option Moment) (s : State) (was : Marks) (coming : List (Option ℕ)) (marks : Marks)
    → Brought plan classes before s was coming marks → AreStartKeys plan coming
brought-keys plan classes before s was coming marks are = record {
  size = are.size;
  own = λ r key has at. by r key at (are.each r has);
} where
  by : (r : Req) (key : ℕ) → slot_of coming r ≡ Some (Some key) → IsBrought plan classes before s coming marks r → key ≡ start_key r
  by r key at (inl (there, off)) = let e : ◌≡◌ {A = Option (Option ℕ)} (Some (Some key)) (Some (Some (start_key r))) = sym at ∙ there in cc
  by r key at (inr (none, on, marked)) = let e : ◌≡◌ {A = Option (Option ℕ)} (Some (Some key)) (Some None) = sym at ∙ none in cc

pub brought-start : (plan : Plan) (classes : Classes) (before : Option Moment) (s : State) (was : Marks) (coming : List (Option ℕ)) → HaveRoom plan classes was
    → AreComing plan before coming → IsNotLater before s.time → Brought plan classes before s was coming was
brought-start plan classes before s was coming room are later = record {
  room = room;
  kept = λ q has is. is;
  size = are.size;
  each = λ q has. by q (has_come before q.start) refl (are.all q has);
} where
  by : (q : Req) (b : Bool) → has_come before q.start ≡ b → slot_of coming q ≡ Some (then_some (not b) (start_key q)) → IsBrought plan classes before s coming was q
  by q true is at = inr (at, later q.start is, inl (is ∙ sym (later q.start is)))
  by q false is at = inl (at, is)

pub brought-next : (plan : Plan) (classes : Classes) (before : Option Moment) (s : State) (was : Marks) (coming new : List (Option ℕ)) (marks is : Marks) (r : Req)
    → Brought plan classes before s was coming marks → Has plan.requests r → has_come s.time r.start ≡ true → new ≡ set coming (r.number.number - 1) None
    → HaveRoom plan classes is → KeepsMarks plan classes s marks is → IsMarked plan classes s r is → Brought plan classes before s was new is
brought-next plan classes before s was coming new marks is r are known on taken room kept own = record {
  room = room;
  kept = λ q has marked. kept q has (are.kept q has marked);
  size = ap length taken ∙ length-set coming (r.number.number - 1) None ∙ are.size;
  each = λ q has. elim (cases_eq q.number.number r.number.number) [
    | inl same ↦ subst (IsBrought plan classes before s new is) (same_number plan r q known has (sym same)) (inr (slot-set coming new r None (has-slot plan coming r are.size known) taken, on, inr own))
    | inr ne ↦ by q has (slot-set_other coming new r q None (has-slot plan coming r are.size known).0 (has-slot plan coming q are.size has).0 ne taken) (are.each q has)
  ];
} where
  by : (q : Req) → Has plan.requests q → slot_of new q ≡ slot_of coming q → IsBrought plan classes before s coming marks q → IsBrought plan classes before s new is q
  by q has stays (inl (at, off)) = inl (stays ∙ at, off)
  by q has stays (inr (none, come, marked)) = inr (stays ∙ none, come, since-kept plan classes before s q marks is has kept marked)

pub brought-since : (plan : Plan) (classes : Classes) (before : Option Moment) (s : State) (was : Marks) (coming : List (Option ℕ)) (marks : Marks)
    → Brought plan classes before s was coming marks → NoneHasCome plan coming s.time → AreMarkedSince plan classes before s marks
brought-since plan classes before s was coming marks are none q has = by (are.each q has) where
  by : IsBrought plan classes before s coming marks q → IsMarkedSince plan classes before s q marks
  by (inl (at, off)) = inl (off ∙ sym (none q (start_key q) has at))
  by (inr (gone, on, marked)) = marked

pub brought-coming : (plan : Plan) (classes : Classes) (before : Option Moment) (s : State) (was : Marks) (coming : List (Option ℕ)) (marks : Marks)
    → Brought plan classes before s was coming marks → NoneHasCome plan coming s.time → AreComing plan s.time coming
brought-coming plan classes before s was coming marks are none = record {
  size = are.size;
  all = λ q has. by q has (are.each q has);
} where
  by : (q : Req) → Has plan.requests q → IsBrought plan classes before s coming marks q → slot_of coming q ≡ Some (then_some (not (has_come s.time q.start)) (start_key q))
  by q has (inl (at, off)) = at ∙ ap (λ b. Some (then_some (not b) (start_key q))) (sym (none q (start_key q) has at))
  by q has (inr (gone, on, marked)) = gone ∙ ap (λ b. Some (then_some (not b) (start_key q))) (sym on)
