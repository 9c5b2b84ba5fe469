-- An event has one spelling.
use Rattle.std.proofs.Common.{◌≡◌, ℕ, zero, suc, ◌%◌, ◌+◌, ◌<◌, ◌≤◌, Bool, true, false, ◌&&◌, ◌==◌, List, [], ◌∷◌, ◌++◌, Option, Some, None, length, get_or, take, drop, replicate, refl, sym, ap, ◌∙◌, subst, arith, IsTrue}
use Rattle.std.specs.Bool.{then_some}
use Rattle.std.specs.Int.{from_be_bytes, to_be_bytes, w32, w64}
use Rattle.std.specs.List.{All}
use Rattle.std.specs.Option.{option_and_then, option_map}
use Rattle.std.specs.Prelude.{cond, IfSome, nat_lt}
use Rattle.std.proofs.lemmas.Bool.{and_parts, eqb-true}
use Rattle.std.proofs.lemmas.Bool.Decides.{nat_tests}
use Rattle.std.proofs.lemmas.List.{drop-drop, get_or-take, length-drop, length-take-le, take-append-drop}
use Rattle.std.proofs.lemmas.Nat.{be_bytes_4, be_bytes_8}
use Rattle.conc_types.specs.declared.event.Event.{Event}
use Rattle.conc_types.specs.declared.event.Event.TheVariants as event
use Rattle.conc_types.specs.declared.event.Extent.{Extent}
use Rattle.conc_types.specs.declared.event.Outcome.{Outcome}
use Rattle.conc_types.specs.declared.event.Outcome.TheVariants as outcome
use Rattle.conc_types.specs.declared.event.RequestId.{RequestId}
use Rattle.conc_base_law.specs.Calendar.{moment_at}
use Rattle.conc_journal_image.specs.Fields.{are_zero, close_of, end_of, event_in, event_of, fields_of, has_a_wide_number, has_first_alone, has_first_and_outcome, has_first_and_wide, has_record, has_two_numbers, IsSpelling, command_stamp, stamp_in, is_report_outcome, outcome_number, report_end_of, report_outcome, request_of, tick_of, wide_at, word_at}
use Rattle.conc_journal_image.specs.declared.fields.Fields.{Fields}
use Rattle.conc_journal_image.proofs.Fronts.{behind-same, middle-same}

-- ---- choices

-- what is chosen is one or the other
either : {X R : Type 0} (b : Bool) (x y z : X) → cond b x y ≡ z → (b ≡ true → x ≡ z → R) → (b ≡ false → y ≡ z → R) → R
either true x y z h p q = p refl h
either false x y z h p q = q refl h

-- there is a value where the test passes, and it is this one
passed : {X : Type 0} (b : Bool) (x y : X) → then_some b x ≡ Some y → (b ≡ true) × (x ≡ y)
passed true x y h = (refl, cc)
passed false x y h = absurd cc

-- ---- the bytes of fields

zeros : (xs : List ℕ) → are_zero xs ≡ true → xs ≡ replicate (length xs) 0
zeros [] h = refl
zeros (x ∷ xs) h =
    let p : ((x == 0) ≡ true) × (are_zero xs ≡ true) = and_parts (x == 0) (are_zero xs) h in
    let first : x ≡ 0 = eqb-true x 0 p.0 in
    let rest : xs ≡ replicate (length xs) 0 = zeros xs p.1 in
    ap (λ y. y ∷ xs) first ∙ ap (λ ys. 0 ∷ ys) rest

-- so many bytes that are 0
zeros_of : (xs : List ℕ) (n : ℕ) → length xs ≡ n → are_zero xs ≡ true → xs ≡ replicate n 0
zeros_of xs n e h = zeros xs h ∙ ap (λ k. replicate k 0) e

front : (xs : List ℕ) → 3 ≤ length xs → take 3 xs ≡ get_or xs 0 0 ∷ get_or xs 1 0 ∷ take 1 (drop 2 xs)
front [] h = absurd (omega arith)
front (x ∷ []) h = absurd (omega arith)
front (x ∷ y ∷ zs) h = refl

-- a list is its front and its rest, from a place on
part : (at n : ℕ) (xs : List ℕ) → take n (drop at xs) ++ drop (at + n) xs ≡ drop at xs
part at n xs = ap (λ ys. take n (drop at xs) ++ ys) (sym (drop-drop n at xs)) ∙ take-append-drop n (drop at xs)

parts : (xs : List ℕ) → take 3 xs ++ (take 4 (drop 3 xs) ++ (take 4 (drop 7 xs) ++ (take 8 (drop 11 xs) ++ (take 4 (drop 19 xs) ++ drop 23 xs)))) ≡ xs
parts xs = rw (part 19 4 xs, part 11 8 xs, part 7 4 xs, part 3 4 xs) (take-append-drop 3 xs)

-- each byte is below 256
abbrev AreBytes : List ℕ → Type 0
AreBytes xs = (i : ℕ) → get_or xs i 0 < 256

AreBytes-take : (n : ℕ) (xs : List ℕ) → AreBytes xs → AreBytes (take n xs)
AreBytes-take zero xs small i = omega arith
AreBytes-take (suc n) [] small i = omega arith
AreBytes-take (suc n) (x ∷ xs) small zero = small 0
AreBytes-take (suc n) (x ∷ xs) small (suc i) = AreBytes-take n xs (λ k. small (suc k)) i

AreBytes-drop : (n : ℕ) (xs : List ℕ) → AreBytes xs → AreBytes (drop n xs)
AreBytes-drop zero xs small i = small i
AreBytes-drop (suc n) [] small i = omega arith
AreBytes-drop (suc n) (x ∷ xs) small i = AreBytes-drop n xs (λ k. small (suc k)) i

-- the bytes of a number are told by the number
word_bytes : (xs : List ℕ) (at : ℕ) → at + 4 ≤ length xs → AreBytes xs → take 4 (drop at xs) ≡ to_be_bytes w32 (word_at at xs)
word_bytes xs at h small =
    sym (be_bytes_4 (take 4 (drop at xs)) (word_at at xs) (length-take-le 4 (drop at xs) (omega (arith, length-drop at xs))) (AreBytes-take 4 (drop at xs) (AreBytes-drop at xs small)) refl)

wide_bytes : (xs : List ℕ) (at : ℕ) → at + 8 ≤ length xs → AreBytes xs → take 8 (drop at xs) ≡ to_be_bytes w64 (wide_at at xs)
wide_bytes xs at h small =
    sym (be_bytes_8 (take 8 (drop at xs)) (wide_at at xs) (length-take-le 8 (drop at xs) (omega (arith, length-drop at xs))) (AreBytes-take 8 (drop at xs) (AreBytes-drop at xs small)) refl)

joined-same : (a b c d e f u v w x y z : List ℕ) → a ≡ u → b ≡ v → c ≡ w → d ≡ x → e ≡ y → f ≡ z
    → a ++ (b ++ (c ++ (d ++ (e ++ f)))) ≡ u ++ (v ++ (w ++ (x ++ (y ++ z))))
joined-same a b c d e f u v w x y z au bv cw dx ey fz = cc

-- the bytes that spell these fields
spelling : Fields → List ℕ
spelling f =
    (f.kind ∷ f.outcome ∷ replicate 1 0)
    ++ (to_be_bytes w32 f.first ++ (to_be_bytes w32 f.second ++ (to_be_bytes w64 f.wide ++ (to_be_bytes w32 f.length ++ replicate 8 0))))

spelling_of : (xs : List ℕ) (f : Fields) → AreBytes xs → fields_of xs ≡ Some f → xs ≡ spelling f
unfolding fields_of spelling
spelling_of xs f small h =
    let found = passed _ _ f h in
    let p : ((length xs == 31) ≡ true) × ((are_zero (take 1 (drop 2 xs)) && are_zero (drop 23 xs)) ≡ true) = and_parts _ _ found.0 in
    let q : (are_zero (take 1 (drop 2 xs)) ≡ true) × (are_zero (drop 23 xs) ≡ true) = and_parts _ _ p.1 in
    let long : length xs ≡ 31 = eqb-true _ _ p.0 in
    let one : take 1 (drop 2 xs) ≡ replicate 1 0 = zeros_of _ 1 (length-take-le 1 (drop 2 xs) (omega (arith, length-drop 2 xs))) q.0 in
    let eight : drop 23 xs ≡ replicate 8 0 = zeros_of _ 8 (omega (arith, length-drop 23 xs)) q.1 in
    let head : take 3 xs ≡ get_or xs 0 0 ∷ get_or xs 1 0 ∷ replicate 1 0 = front xs (omega arith) ∙ ap (λ ys. get_or xs 0 0 ∷ get_or xs 1 0 ∷ ys) one in
    sym (parts xs)
    ∙ joined-same
    _ _ _ _ _ _ _ _ _ _ _ _
    head
    (word_bytes xs 3 (omega arith) small)
    (word_bytes xs 7 (omega arith) small)
    (wide_bytes xs 11 (omega arith) small)
    (word_bytes xs 19 (omega arith) small)
    eight
    ∙ ap (λ g. spelling g) found.1

-- ---- the fields of an event

-- what a function gives of a value
mapped : {A B : Type 0} (g : A → B) (x : Option A) (y : B) → option_map g x ≡ Some y → (a : A) × (x ≡ Some a) × (g a ≡ y)
mapped g None y h = absurd cc
mapped g (Some a) y h = (a, refl, cc)

abbrev fields : ℕ → ℕ → ℕ → ℕ → ℕ → ℕ → Fields
fields k o a b w l = record { kind = k; outcome = o; first = a; second = b; wide = w; length = l }

same_fields : (f : Fields) (k o a b w l : ℕ) → f.kind ≡ k → f.outcome ≡ o → f.first ≡ a → f.second ≡ b → f.wide ≡ w → f.length ≡ l → f ≡ fields k o a b w l
same_fields f k o a b w l fk fo fa fb fw fl =
    ap (λ n. fields n f.outcome f.first f.second f.wide f.length) fk
    ∙ ap (λ n. fields k n f.first f.second f.wide f.length) fo
    ∙ ap (λ n. fields k o n f.second f.wide f.length) fa
    ∙ ap (λ n. fields k o a n f.wide f.length) fb
    ∙ ap (λ n. fields k o a b n f.length) fw
    ∙ ap (λ n. fields k o a b w n) fl

-- what a test says of the fields
first_alone : (f : Fields) (k : ℕ) → f.kind ≡ k → has_first_alone f ≡ true → f ≡ fields k 0 f.first 0 0 0
first_alone f k e h =
    let p : ((f.outcome == 0) ≡ true) × ((f.second == 0 && (f.wide == 0 && f.length == 0)) ≡ true) = and_parts _ _ h in
    let q : ((f.second == 0) ≡ true) × ((f.wide == 0 && f.length == 0) ≡ true) = and_parts _ _ p.1 in
    let r : ((f.wide == 0) ≡ true) × ((f.length == 0) ≡ true) = and_parts _ _ q.1 in
    same_fields f k 0 f.first 0 0 0 e (eqb-true _ _ p.0) refl (eqb-true _ _ q.0) (eqb-true _ _ r.0) (eqb-true _ _ r.1)

first_and_wide : (f : Fields) (k : ℕ) → f.kind ≡ k → has_first_and_wide f ≡ true → f ≡ fields k 0 f.first 0 f.wide 0
first_and_wide f k e h =
    let p : ((f.outcome == 0) ≡ true) × ((f.second == 0 && f.length == 0) ≡ true) = and_parts _ _ h in
    let r : ((f.second == 0) ≡ true) × ((f.length == 0) ≡ true) = and_parts _ _ p.1 in
    same_fields f k 0 f.first 0 f.wide 0 e (eqb-true _ _ p.0) refl (eqb-true _ _ r.0) refl (eqb-true _ _ r.1)

two_numbers : (f : Fields) (k : ℕ) → f.kind ≡ k → has_two_numbers f ≡ true → f ≡ fields k 0 f.first f.second 0 0
two_numbers f k e h =
    let p : ((f.outcome == 0) ≡ true) × ((f.wide == 0 && f.length == 0) ≡ true) = and_parts _ _ h in
    let r : ((f.wide == 0) ≡ true) × ((f.length == 0) ≡ true) = and_parts _ _ p.1 in
    same_fields f k 0 f.first f.second 0 0 e (eqb-true _ _ p.0) refl refl (eqb-true _ _ r.0) (eqb-true _ _ r.1)

wide_number : (f : Fields) (k : ℕ) → f.kind ≡ k → has_a_wide_number f ≡ true → f ≡ fields k 0 0 0 f.wide 0
wide_number f k e h =
    let p : ((f.outcome == 0) ≡ true) × ((f.first == 0 && (f.second == 0 && f.length == 0)) ≡ true) = and_parts _ _ h in
    let q : ((f.first == 0) ≡ true) × ((f.second == 0 && f.length == 0) ≡ true) = and_parts _ _ p.1 in
    let r : ((f.second == 0) ≡ true) × ((f.length == 0) ≡ true) = and_parts _ _ q.1 in
    same_fields f k 0 0 0 f.wide 0 e (eqb-true _ _ p.0) (eqb-true _ _ q.0) (eqb-true _ _ r.0) refl (eqb-true _ _ r.1)

first_and_outcome : (f : Fields) (k o : ℕ) → f.kind ≡ k → f.outcome ≡ o → has_first_and_outcome f ≡ true → f ≡ fields k o f.first 0 0 0
first_and_outcome f k o e t h =
    let q : ((f.second == 0) ≡ true) × ((f.wide == 0 && f.length == 0) ≡ true) = and_parts _ _ h in
    let r : ((f.wide == 0) ≡ true) × ((f.length == 0) ≡ true) = and_parts _ _ q.1 in
    same_fields f k o f.first 0 0 0 e t refl (eqb-true _ _ q.0) (eqb-true _ _ r.0) (eqb-true _ _ r.1)

-- a report's outcome is told by its number
report : (n : ℕ) (o : Outcome) → report_outcome n ≡ Some o → (n ≡ outcome_number o) × IsTrue (is_report_outcome o)
report n o h =
    either
    (n == 1) _ _ _ h
    (λ k e. numbered n 1 outcome.Normal o (eqb-true _ _ k) e refl refl)
    (λ _ h. either
    (n == 2) _ _ _ h
    (λ k e. numbered n 2 outcome.Warning o (eqb-true _ _ k) e refl refl)
    (λ _ h. let p = passed (n == 3) outcome.Error o h in numbered n 3 outcome.Error o (eqb-true _ _ p.0) (ap (λ x. Some x) p.1) refl refl)) where
      numbered : (n k : ℕ) (p o : Outcome) → n ≡ k → Some p ≡ Some o → k ≡ outcome_number p → IsTrue (is_report_outcome p) → (n ≡ outcome_number o) × IsTrue (is_report_outcome o)
      numbered n k p o e same number reports =
          let q : p ≡ o = cc in
          subst (λ x. (n ≡ outcome_number x) × IsTrue (is_report_outcome x)) q (e ∙ number, reports)

-- the fields of an event
fields_for : Event → ℕ → Fields
fields_for (event.Tick t) stamp = fields 1 0 0 0 t.seconds 0
fields_for (event.Command n) stamp = fields 2 0 n 0 stamp 0
fields_for (event.OpenSet s) stamp = fields 3 0 s.number 0 0 0
fields_for (event.Stage s n) stamp = fields 4 0 s.number n 0 0
fields_for (event.CloseSet s o) stamp = fields 5 (outcome_number o) s.number 0 0 0
fields_for (event.LetOut r) stamp = fields 6 0 r.number 0 0 0
fields_for (event.Started r p) stamp = fields 7 0 r.number p.index 0 0
fields_for (event.Ended r o None) stamp = fields 8 (outcome_number o) r.number 0 0 0
fields_for (event.Ended r o (Some x)) stamp = fields 8 (outcome_number o) r.number 0 x.offset x.length
fields_for event.Resume stamp = fields 9 0 0 0 0 0
fields_for (event.Interrupt r) stamp = fields 10 0 r.number 0 0 0

-- no other event than a command has a stamp
fields_for-stamp : (e : Event) (s t : ℕ) → command_stamp e s ≡ command_stamp e t → fields_for e s ≡ fields_for e t
unfolding fields_for
fields_for-stamp (event.Tick m) s t h = refl
fields_for-stamp (event.Command n) s t h = let e : s ≡ t = cc in ap (λ w. fields 2 0 n 0 w 0) e
fields_for-stamp (event.OpenSet q) s t h = refl
fields_for-stamp (event.Stage q n) s t h = refl
fields_for-stamp (event.CloseSet q o) s t h = refl
fields_for-stamp (event.LetOut r) s t h = refl
fields_for-stamp (event.Started r p) s t h = refl
fields_for-stamp (event.Ended r o None) s t h = refl
fields_for-stamp (event.Ended r o (Some x)) s t h = refl
fields_for-stamp event.Resume s t h = refl
fields_for-stamp (event.Interrupt r) s t h = refl

-- the event has a record, and these are its fields
abbrev Tells : Fields → Event → Type 0
Tells f e = IsTrue (has_record e) × (f ≡ fields_for e f.wide)

tells_tick : (f : Fields) (e : Event) → f.kind ≡ 1 → tick_of f ≡ Some e → Tells f e
unfolding fields_for moment_at
tells_tick f e k h =
    let p = passed _ _ e h in
    let q : (has_a_wide_number f ≡ true) × (nat_lt f.wide 315537897600 ≡ true) = and_parts _ _ p.0 in
    let below : f.wide < 315537897600 = grind (arith, nat_tests) in
    let same : f.wide ≡ f.wide % 315537897600 = omega arith in
    subst (λ x. Tells f x) p.1 (refl, wide_number f 1 k q.0 ∙ ap (λ n. fields 1 0 0 0 n 0) same)

tells_close : (f : Fields) (e : Event) → f.kind ≡ 5 → close_of f ≡ Some e → Tells f e
unfolding fields_for
tells_close f e k h =
    either
    (has_first_and_outcome f) _ _ _ h
    (λ t h.
    let m = mapped (λ o. event.CloseSet (request_of f.first) o) (report_outcome f.outcome) e h in
    let r = report f.outcome m.0 m.1 in
    subst (λ x. Tells f x) m.2 (r.1, first_and_outcome f 5 (outcome_number m.0) k r.0 t))
    (λ _ h. absurd cc)

tells_report_end : (f : Fields) (e : Event) → f.kind ≡ 8 → report_end_of f ≡ Some e → Tells f e
unfolding fields_for
tells_report_end f e k h =
    either
    (f.second == 0 && nat_lt 0 f.length) _ _ _ h
    (λ t h.
    let m = mapped (λ o. event.Ended (request_of f.first) o (Some (record { offset = f.wide; length = f.length }))) (report_outcome f.outcome) e h in
    let r = report f.outcome m.0 m.1 in
    let q : ((f.second == 0) ≡ true) × (nat_lt 0 f.length ≡ true) = and_parts _ _ t in
    subst
    (λ x. Tells f x)
    m.2
    (reported (request_of f.first) m.0 (record { offset = f.wide; length = f.length }) r.1 q.1, same_fields f 8 (outcome_number m.0) f.first 0 f.wide f.length k r.0 refl (eqb-true _ _ q.0) refl refl))
    (λ _ h. absurd cc) where
      reported : (r : RequestId) (o : Outcome) (x : Extent) → IsTrue (is_report_outcome o) → nat_lt 0 x.length ≡ true → IsTrue (has_record (event.Ended r o (Some x)))
      reported r outcome.Normal x t l = l
      reported r outcome.Warning x t l = l
      reported r outcome.Error x t l = l
      reported r outcome.Terminated x t l = absurd cc
      reported r outcome.Cancelled x t l = absurd cc

tells_end : (f : Fields) (e : Event) → f.kind ≡ 8 → end_of f ≡ Some e → Tells f e
unfolding fields_for
tells_end f e k h =
    either
    (f.outcome == 4) _ _ _ h
    (λ four h.
    let p = passed _ _ e h in
    subst (λ x. Tells f x) p.1 (refl, first_and_outcome f 8 4 k (eqb-true _ _ four) p.0))
    (λ _ h. tells_report_end f e k h)

tells_resume : (f : Fields) (e : Event) → f.kind ≡ 9 → then_some (has_first_alone f && f.first == 0) event.Resume ≡ Some e → Tells f e
unfolding fields_for
tells_resume f e k h =
    let p = passed _ _ e h in
    let q : (has_first_alone f ≡ true) × ((f.first == 0) ≡ true) = and_parts _ _ p.0 in
    subst (λ x. Tells f x) p.1 (refl, first_alone f 9 k q.0 ∙ ap (λ n. fields 9 0 n 0 0 0) (eqb-true _ _ q.1))

tells_interrupt : (f : Fields) (e : Event) → then_some (f.kind == 10 && has_first_alone f) (event.Interrupt (request_of f.first)) ≡ Some e → Tells f e
unfolding fields_for
tells_interrupt f e h =
    let p = passed _ _ e h in
    let q : ((f.kind == 10) ≡ true) × (has_first_alone f ≡ true) = and_parts _ _ p.0 in
    subst (λ x. Tells f x) p.1 (refl, first_alone f 10 (eqb-true _ _ q.0) q.1)

tells_command : (f : Fields) (e : Event) → f.kind ≡ 2 → then_some (has_first_and_wide f) (event.Command f.first) ≡ Some e → Tells f e
unfolding fields_for
tells_command f e same h = let p = passed _ _ e h in subst (λ x. Tells f x) p.1 (refl, first_and_wide f 2 same p.0)

-- what has the first number alone
tells_first : (f : Fields) (k : ℕ) (d e : Event) → f.kind ≡ k → IsTrue (has_record d) → fields_for d f.wide ≡ fields k 0 f.first 0 0 0 → then_some (has_first_alone f) d ≡ Some e → Tells f e
tells_first f k d e same has is h =
    let p = passed _ _ e h in subst (λ x. Tells f x) p.1 (has, first_alone f k same p.0 ∙ sym is)

-- what has the two numbers
tells_two : (f : Fields) (k : ℕ) (d e : Event) → f.kind ≡ k → IsTrue (has_record d) → fields_for d f.wide ≡ fields k 0 f.first f.second 0 0 → then_some (has_two_numbers f) d ≡ Some e → Tells f e
tells_two f k d e same has is h =
    let p = passed _ _ e h in subst (λ x. Tells f x) p.1 (has, two_numbers f k same p.0 ∙ sym is)

tells : (f : Fields) (e : Event) → event_of f ≡ Some e → Tells f e
unfolding event_of fields_for
tells f e h =
    either (f.kind == 1) _ _ _ h (λ k h. tells_tick f e (eqb-true _ _ k) h) (λ _ h.
    either (f.kind == 2) _ _ _ h (λ k h. tells_command f e (eqb-true _ _ k) h) (λ _ h.
    either (f.kind == 3) _ _ _ h (λ k h. tells_first f 3 (event.OpenSet (request_of f.first)) e (eqb-true _ _ k) refl refl h) (λ _ h.
    either (f.kind == 4) _ _ _ h (λ k h. tells_two f 4 (event.Stage (request_of f.first) f.second) e (eqb-true _ _ k) refl refl h) (λ _ h.
    either (f.kind == 5) _ _ _ h (λ k h. tells_close f e (eqb-true _ _ k) h) (λ _ h.
    either (f.kind == 6) _ _ _ h (λ k h. tells_first f 6 (event.LetOut (request_of f.first)) e (eqb-true _ _ k) refl refl h) (λ _ h.
    either (f.kind == 7) _ _ _ h (λ k h. tells_two f 7 (event.Started (request_of f.first) (record { index = f.second })) e (eqb-true _ _ k) refl refl h) (λ _ h.
    either (f.kind == 8) _ _ _ h (λ k h. tells_end f e (eqb-true _ _ k) h) (λ _ h.
    either (f.kind == 9) _ _ _ h (λ k h. tells_resume f e (eqb-true _ _ k) h) (λ _ h. tells_interrupt f e h)))))))))

-- the event of fields has a record
pub event_of-recorded : (f : Fields) (found : Option Event) → found ≡ event_of f → IfSome found (λ e. IsTrue (has_record e))
event_of-recorded f None h = tt
event_of-recorded f (Some e) h = (tells f e (sym h)).0

-- ---- the bytes of an event

-- the fields between
between : (xs : List ℕ) (e : Event) → event_in xs ≡ Some e → (f : Fields) × (fields_of xs ≡ Some f) × (event_of f ≡ Some e)
unfolding event_in
between xs e h = by (fields_of xs) refl h where
  by : (found : Option Fields) → fields_of xs ≡ found → option_and_then event_of found ≡ Some e → (f : Fields) × (fields_of xs ≡ Some f) × (event_of f ≡ Some e)
  by None is h = absurd cc
  by (Some f) is h = (f, is, h)

-- a spelling has 31 bytes
pub length-spelled : (xs : List ℕ) (e : Event) → event_in xs ≡ Some e → length xs ≡ 31
unfolding fields_of
length-spelled xs e h =
    let b = between xs e h in
    let found = passed _ _ b.0 b.1 in
    let p : ((length xs == 31) ≡ true) × ((are_zero (take 1 (drop 2 xs)) && are_zero (drop 23 xs)) ≡ true) = and_parts _ _ found.0 in
    eqb-true _ _ p.0

-- The bytes of a command spell it whatever its stamp is, which stands at bytes 11 to 18.
pub command_bytes : (xs ys : List ℕ) (n : ℕ) → length xs ≡ 31 → take 11 xs ≡ take 11 ys → drop 19 xs ≡ drop 19 ys
    → event_in ys ≡ Some (event.Command n) → event_in xs ≡ Some (event.Command n)
unfolding event_in event_of fields_of fields_for
command_bytes xs ys n long front back h =
    let b = between ys (event.Command n) h in
    let found = passed _ _ b.0 b.1 in
    let told : b.0 ≡ fields 2 0 n 0 b.0.wide 0 = (tells b.0 (event.Command n) b.2).1 in
    let byte : (i : ℕ) → i < 11 → get_or xs i 0 ≡ get_or ys i 0 =
    λ i below. sym (get_or-take 11 xs i 0 below) ∙ ap (λ zs. get_or zs i 0) front ∙ get_or-take 11 ys i 0 below in
    let one : take 1 (drop 2 xs) ≡ take 1 (drop 2 ys) = middle-same 2 1 11 xs ys (omega arith) front in
    let eight : drop 23 xs ≡ drop 23 ys = behind-same 19 23 xs ys (omega arith) back in
    let whole : (length xs == 31 && (are_zero (take 1 (drop 2 xs)) && are_zero (drop 23 xs))) ≡ true =
    ap (λ k. k == 31 && (are_zero (take 1 (drop 2 xs)) && are_zero (drop 23 xs))) (long ∙ sym (eqb-true _ _ (and_parts (length ys == 31) (are_zero (take 1 (drop 2 ys)) && are_zero (drop 23 ys)) found.0).0))
    ∙ ap (λ zs. length ys == 31 && (are_zero zs && are_zero (drop 23 xs))) one
    ∙ ap (λ zs. length ys == 31 && (are_zero (take 1 (drop 2 ys)) && are_zero zs)) eight
    ∙ found.0 in
    let is : Fields = fields (get_or xs 0 0) (get_or xs 1 0) (word_at 3 xs) (word_at 7 xs) (wide_at 11 xs) (word_at 19 xs) in
    let same : is ≡ fields 2 0 n 0 (wide_at 11 xs) 0 =
    same_fields
    is 2 0 n 0 (wide_at 11 xs) 0
    (byte 0 (omega arith) ∙ ap (λ f. f.kind) found.1 ∙ ap (λ f. f.kind) told)
    (byte 1 (omega arith) ∙ ap (λ f. f.outcome) found.1 ∙ ap (λ f. f.outcome) told)
    (ap (λ zs. from_be_bytes w32 zs) (middle-same 3 4 11 xs ys (omega arith) front) ∙ ap (λ f. f.first) found.1 ∙ ap (λ f. f.first) told)
    (ap (λ zs. from_be_bytes w32 zs) (middle-same 7 4 11 xs ys (omega arith) front) ∙ ap (λ f. f.second) found.1 ∙ ap (λ f. f.second) told)
    refl
    (ap (λ zs. from_be_bytes w32 (take 4 zs)) back ∙ ap (λ f. f.length) found.1 ∙ ap (λ f. f.length) told) in
    ap (λ t. option_and_then event_of (then_some t is)) whole ∙ ap (λ f. event_of f) same

-- what is spelled has a record
pub spelled-has_record : (xs : List ℕ) (e : Event) → event_in xs ≡ Some e → IsTrue (has_record e)
spelled-has_record xs e h = let b = between xs e h in (tells b.0 e b.2).0

bytes_from : (xs : List ℕ) → All (λ byte. byte < 256) xs → AreBytes xs
bytes_from [] small i = omega arith
bytes_from (x ∷ xs) small zero = small 0 0 (omega arith)
bytes_from (x ∷ xs) small (suc i) = bytes_from xs (λ k d h. small (suc k) d (omega arith)) i

-- the stamp of a spelling is the wide number of its fields
stamp_in-fields : (xs : List ℕ) (f : Fields) → fields_of xs ≡ Some f → f.wide ≡ stamp_in xs
unfolding fields_of
stamp_in-fields xs f h = let found = passed _ _ f h in sym (ap (λ g. g.wide) found.1)

-- two spellings of an event with one stamp are one
pub spelled-same : (xs ys : List ℕ) (e : Event) (stamp : ℕ) → All (λ byte. byte < 256) xs → All (λ byte. byte < 256) ys → IsSpelling e stamp xs → IsSpelling e stamp ys → xs ≡ ys
spelled-same xs ys e stamp sx sy hx hy =
    let a = between xs e hx.event_is in
    let b = between ys e hy.event_is in
    let same : command_stamp e a.0.wide ≡ command_stamp e b.0.wide =
    ap (λ n. command_stamp e n) (stamp_in-fields xs a.0 a.1) ∙ hx.stamp_is ∙ sym hy.stamp_is ∙ sym (ap (λ n. command_stamp e n) (stamp_in-fields ys b.0 b.1)) in
    spelling_of xs a.0 (bytes_from xs sx) a.1
    ∙ ap (λ f. spelling f) ((tells a.0 e a.2).1 ∙ fields_for-stamp e a.0.wide b.0.wide same ∙ sym (tells b.0 e b.2).1)
    ∙ sym (spelling_of ys b.0 (bytes_from ys sy) b.1)
