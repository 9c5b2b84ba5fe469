-- What is known of a clock file when some of its lines are read.
use Rattle.std.proofs.Common.{◌≡◌, refl, ◌∙◌, ap, sym, ◌<◌, ◌≤◌, ◌+◌, ◌-◌, ℕ, zero, suc, Bool, true, false, List, [], ◌∷◌, ◌++◌, length, map, append_assoc, arith}
use Rattle.std.specs.Prelude.{◌==◌, nat_le, nat_lt, slice_get, Option, None, Some}
use Rattle.std.specs.List.{list_all}
use Rattle.std.specs.Option.{option_and_then}
use Rattle.std.proofs.lemmas.Bool.{and_from, and_parts, le-leb, leb-true, ltb-false, ne_eqb}
use Rattle.std.proofs.lemmas.List.{append-nil, length-map, length_push, map-append}
use Rattle.conc_types.specs.declared.kind.RefusalKind.{RefusalKind}
use Rattle.conc_types.specs.declared.kind.RefusalKind.TheVariants as refused
use Rattle.conc_types.specs.declared.script.Reading.{Reading}
use Rattle.conc_types.specs.Faults.{first_broken, first_fault}
use Rattle.conc_types.specs.Scripts.{are_in_order}
use Rattle.conc_types.specs.Words.{numbered}
use Rattle.conc_script.specs.Clock.{is_earlier, line_kind, reading_at, reading_of}
use Rattle.conc_script.specs.Readings.{line_rules, ReadsLines}
use Rattle.conc_script.proofs.Faults.{fault_here, fault_later, fault_none}

-- ---- order

all_last : {X : Type 0} (test : X → Bool) (xs : List X) (x : X) → list_all test (xs ++ x ∷ []) ≡ true → test x ≡ true
all_last test [] x h = (and_parts (test x) true h).0
all_last test (y ∷ xs) x h = all_last test xs x (and_parts (test y) (list_all test (xs ++ x ∷ [])) h).1

all_more : {X : Type 0} (test : X → Bool) (xs : List X) (x : X) → list_all test xs ≡ true → test x ≡ true → list_all test (xs ++ x ∷ []) ≡ true
all_more test [] x h k = and_from (test x) true k refl
all_more test (y ∷ xs) x h k =
    let parts = and_parts (test y) (list_all test xs) h in
    and_from (test y) _ parts.0 (all_more test xs x parts.1 k)

not_earlier : (a b : ℕ) → nat_lt b a ≡ false → nat_le a b ≡ true
not_earlier a b h = le-leb a b (ltb-false b a h)

le_both : (a b c : ℕ) → nat_le a b ≡ true → nat_le b c ≡ true → nat_le a c ≡ true
le_both a b c h k = let l : a ≤ b = leb-true a b h in let m : b ≤ c = leb-true b c k in le-leb a c (omega arith)

abbrev is_later : Reading → Reading → Bool
is_later q r = nat_le q.moment.seconds r.moment.seconds

in_order_more : (xs : List Reading) (r : Reading) → are_in_order xs ≡ true → is_earlier (Some r) (slice_get xs (length xs - 1)) ≡ false → are_in_order (xs ++ r ∷ []) ≡ true
in_order_more [] r h k = refl
in_order_more (q ∷ []) r h k = rw (not_earlier q.moment.seconds r.moment.seconds k) refl
in_order_more (q ∷ y ∷ xs) r h k =
    let parts = and_parts (list_all (is_later q) (y ∷ xs)) (are_in_order (y ∷ xs)) h in
    let shift : suc (suc (length xs)) - 1 ≡ suc (suc (length xs) - 1) = omega arith in
    let last : is_earlier (Some r) (slice_get (y ∷ xs) (suc (length xs) - 1)) ≡ false = rw shift at k in
    let rest : are_in_order ((y ∷ xs) ++ r ∷ []) ≡ true = in_order_more (y ∷ xs) r parts.1 last in
    let next : is_later y r ≡ true = all_last (is_later y) xs r (and_parts (list_all (is_later y) (xs ++ r ∷ [])) (are_in_order (xs ++ r ∷ [])) rest).0 in
    let first : is_later q y ≡ true = (and_parts (is_later q y) (list_all (is_later q) xs) parts.0).0 in
    let all : list_all (is_later q) ((y ∷ xs) ++ r ∷ []) ≡ true = all_more (is_later q) (y ∷ xs) r parts.0 (le_both q.moment.seconds y.moment.seconds r.moment.seconds first next) in
    and_from (list_all (is_later q) ((y ∷ xs) ++ r ∷ [])) (are_in_order ((y ∷ xs) ++ r ∷ [])) all rest

-- ---- lines

slice_get_at : {X : Type 0} (done : List X) (x : X) (after : List X) → slice_get (done ++ x ∷ after) (length done) ≡ Some x
slice_get_at [] x after = refl
slice_get_at (y ∷ done) x after = slice_get_at done x after

numbered_at : {X : Type 0} (done : List X) (x : X) (after : List X) → numbered (done ++ x ∷ after) (length done + 1) ≡ Some x
numbered_at done x after =
    let some : (length done + 1 == 0) ≡ false = ne_eqb (length done + 1) 0 (λ e. omega arith) in
    let place : length done + 1 - 1 ≡ length done = omega arith in
    rw (some, place) (slice_get_at done x after)

reading_within : (done rest : List (List ℕ)) (readings : List Reading) (k : ℕ) → map reading_of done ≡ map (λ q. Some q) readings → k < length readings
    → option_and_then reading_of (slice_get (done ++ rest) k) ≡ slice_get readings k
reading_within done rest [] k e l = absurd (omega arith)
reading_within [] rest (q ∷ readings) k e l = absurd cc
reading_within (line ∷ done) rest (q ∷ readings) zero e l = cc
reading_within (line ∷ done) rest (q ∷ readings) (suc k) e l = reading_within done rest readings k (cc) (omega arith)

-- the reading of the line before the rest is the last one
reading_before : (done rest : List (List ℕ)) (readings : List Reading) → map reading_of done ≡ map (λ q. Some q) readings
    → option_and_then reading_of (numbered (done ++ rest) (length readings)) ≡ slice_get readings (length readings - 1)
reading_before done rest [] e = refl
reading_before done rest (q ∷ readings) e =
    let place : suc (length readings) - 1 ≡ length readings = omega arith in
    let some : (suc (length readings) == 0) ≡ false = ne_eqb (suc (length readings)) 0 (λ n. omega arith) in
    rw (some, place) (reading_within done rest (q ∷ readings) (length readings) e (omega arith))

-- the lines before the rest break no rule, and these are their readings
pub record Reads (lines rest : List (List ℕ)) (readings : List Reading) : Type 0 where
  pub done : List (List ℕ)
  pub all : lines ≡ done ++ rest
  pub list : map reading_of done ≡ map (λ q. Some q) readings
  pub faults : first_fault (line_kind lines) 1 (length lines) ≡ first_fault (line_kind lines) (length readings + 1) (length rest)
  pub few : length readings ≤ 65536
  pub in_order : are_in_order readings ≡ true

same_rules : (n : ℕ) (q p before last : Option Reading) → q ≡ p → before ≡ last → first_broken (line_rules n q before) ≡ first_broken (line_rules n p last)
same_rules n q p before last e f = rw (e, f) refl

-- the rules of the line after those that are read
kind_next : (lines after : List (List ℕ)) (line : List ℕ) (readings : List Reading) → Reads lines (line ∷ after) readings
    → line_kind lines (length readings + 1) ≡ first_broken (line_rules (length readings + 1) (reading_of line) (slice_get readings (length readings - 1)))
unfolding line_kind reading_at
kind_next lines after line readings r =
    let many : length r.done ≡ length readings = sym (length-map r.done reading_of) ∙ (ap length r.list ∙ length-map readings (λ (q : Reading). Some q)) in
    let here : numbered lines (length readings + 1) ≡ Some line = rw (← many, r.all) (numbered_at r.done line after) in
    let place : length readings + 1 - 1 ≡ length readings = omega arith in
    let before : option_and_then reading_of (numbered lines (length readings)) ≡ slice_get readings (length readings - 1) =
    rw r.all (reading_before r.done (line ∷ after) readings r.list) in
    same_rules (length readings + 1) (reading_at lines (length readings + 1)) (reading_of line) (reading_at lines (length readings + 1 - 1)) (slice_get readings (length readings - 1))
    (ap (option_and_then reading_of) here) (rw place before)

none_broken : (many back : Bool) → first_broken ((many, refused.TooManyLines) ∷ (false, refused.BadField) ∷ (back, refused.ClockBack) ∷ []) ≡ None → (many ≡ false) × (back ≡ false)
none_broken true back e = absurd cc
none_broken false true e = absurd cc
none_broken false false e = (refl, refl)

-- one more line is read
pub reads_more : (lines after : List (List ℕ)) (line : List ℕ) (readings more : List Reading) (q : Reading) (number : ℕ) (before : Option Reading) → Reads lines (line ∷ after) readings
    → number ≡ length readings + 1 → before ≡ slice_get readings (length readings - 1) → reading_of line ≡ Some q → first_broken (line_rules number (reading_of line) before) ≡ None
    → more ≡ readings ++ q ∷ [] → Reads lines after more
reads_more lines after line readings more q number before r n b is passes m =
    let passes' = rw (n, b) at passes in
    let parts = none_broken (nat_lt 65536 (length readings + 1)) (is_earlier (Some q) (slice_get readings (length readings - 1))) (rw is at passes') in
    let many : length more ≡ length readings + 1 = rw m (length_push readings q) in
    record {
      done = r.done ++ line ∷ [];
      all = r.all ∙ sym (append_assoc r.done (line ∷ []) after);
      list = rw (m, map-append reading_of r.done (line ∷ []), map-append (λ (p : Reading). Some p) readings (q ∷ []), r.list, is) refl;
      faults =
          r.faults ∙ (fault_later (line_kind lines) (length readings + 1) (length after) (kind_next lines after line readings r ∙ passes')
          ∙ ap (λ (n : ℕ). first_fault (line_kind lines) (n + 1) (length after)) (sym many));
      few = omega (arith, many, ltb-false 65536 (length readings + 1) parts.0);
      in_order = rw m (in_order_more readings q r.in_order parts.1);
    }

-- the next line breaks a rule
pub reads_fault : (lines after : List (List ℕ)) (line : List ℕ) (readings : List Reading) (kind : RefusalKind) (number : ℕ) (before : Option Reading) → Reads lines (line ∷ after) readings
    → number ≡ length readings + 1 → before ≡ slice_get readings (length readings - 1) → first_broken (line_rules number (reading_of line) before) ≡ Some kind
    → first_fault (line_kind lines) 1 (length lines) ≡ Some (number, kind)
reads_fault lines after line readings kind number before r n b broken =
    rw n (r.faults ∙ fault_here (line_kind lines) (length readings + 1) (length after) kind (kind_next lines after line readings r ∙ (rw (n, b) at broken)))

-- all lines are read
pub reads_all : (lines : List (List ℕ)) (readings : List Reading) → Reads lines [] readings → ReadsLines lines readings
reads_all lines readings r = record {
  faultless = r.faults ∙ fault_none (line_kind lines) (length readings + 1);
  list = ap (map reading_of) (r.all ∙ append-nil r.done) ∙ r.list;
  few = r.few;
  in_order = r.in_order;
}
