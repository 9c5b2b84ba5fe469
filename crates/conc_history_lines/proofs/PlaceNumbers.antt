-- The places of a plan, by the table of its places.
use Rattle.std.proofs.Common.{◌≡◌, refl, sym, ◌∙◌, ap, ◌≤◌, ◌+◌, ◌-◌, ℕ, zero, suc, true, false, ◌&&◌, List, [], ◌∷◌, ◌++◌, append_assoc, arith}
use Rattle.std.specs.Prelude.{◌==◌, codes, nat_le, nat_lt, slice_get, Option, Some}
use Rattle.std.specs.Bool.{then_some}
use Rattle.std.specs.Fmt.{decimal}
use Rattle.std.specs.List.{join_with_byte, slice_split}
use Rattle.std.specs.Option.{option_and_then, option_map_or}
use Rattle.std.proofs.lemmas.Bool.{and_parts, le-ltb, leb-true, lt-ltb}
use Rattle.std.proofs.lemmas.List.Splits.{join_with_byte-slice_split}
use Rattle.conc_types.specs.declared.event.PlaceId.{PlaceId}
use Rattle.conc_types.specs.declared.manager.Manager.{Manager}
use Rattle.conc_types.specs.declared.plan.Plan.{Plan}
use Rattle.conc_types.specs.Decimals.{decimal_value}
use Rattle.conc_types.specs.Shifts.{most_places}
use Rattle.conc_types.specs.Words.{numbered}
use Rattle.conc_base_law.specs.Places.{Place, place_from, place_of as place_of_plan}
use Rattle.conc_base_law.specs.Text.{place_word}
use Rattle.conc_base_law.proofs.Numbering.{numbered-at}
use Rattle.conc_base_law.proofs.Options.{and_then-some, then_some-some}
use Rattle.conc_history_lines.specs.Places.{place_at, place_of, place_of_parts, starts_from, starts_of}
use Rattle.conc_history_lines.proofs.Decimals.{decimal_spelled}

pub starts_first : (first : ℕ) (managers : List Manager) → slice_get (starts_from first managers) 0 ≡ Some first
starts_first first [] = refl
starts_first first (m ∷ managers) = refl

-- ---- from the table to the plan

-- the place of the plan with these numbers
pub record IsAt (owner first : ℕ) (managers : List Manager) (k a n : ℕ) : Type 0 where
  pub place : Place
  pub low : first ≤ a
  pub found : place_from owner managers (a + n - 1 - first) ≡ Some place
  pub owner_is : place.owner ≡ owner + k
  pub number_is : place.number ≡ n

found_from : (owner first : ℕ) (managers : List Manager) (k a b n : ℕ) → slice_get (starts_from first managers) k ≡ Some a
    → slice_get (starts_from first managers) (suc k) ≡ Some b → 1 ≤ n → a + n ≤ b → IsAt owner first managers k a n
found_from owner first [] k a b n h next some within = absurd cc
found_from owner first (m ∷ managers) zero a b n h next some within =
    let same : first ≡ a = cc in
    let end : Some (first + most_places m.shifts) ≡ Some b = sym (starts_first (first + most_places m.shifts) managers) ∙ next in
    let most : first + most_places m.shifts ≡ b = cc in
    let here : nat_lt (a + n - 1 - first) (most_places m.shifts) ≡ true = lt-ltb _ _ (omega arith) in
    record {
      place = record { owner = owner; manager = m; number = a + n - 1 - first + 1 };
      low = omega arith;
      found = rw here refl;
      owner_is = omega arith;
      number_is = omega arith;
    }
found_from owner first (m ∷ managers) (suc k) a b n h next some within =
    let later = found_from (owner + 1) (first + most_places m.shifts) managers k a b n h next some within in
    let low = later.low in
    let not_here : nat_lt (a + n - 1 - first) (most_places m.shifts) ≡ false = le-ltb _ _ (omega arith) in
    let owner_is = later.owner_is in
    record {
      place = later.place;
      low = omega arith;
      found = rw not_here (ap (place_from (owner + 1) managers) (omega arith) ∙ later.found);
      owner_is = omega arith;
      number_is = later.number_is;
    }

-- the word of the place that stands there
word_at : (plan : Plan) (k a b n : ℕ) (p : PlaceId) → slice_get (starts_from 0 plan.setup.managers) k ≡ Some a → slice_get (starts_from 0 plan.setup.managers) (suc k) ≡ Some b
    → 1 ≤ n → a + n ≤ b → a + n - 1 ≡ p.index → place_word plan p ≡ decimal (suc k) ++ codes "." ++ decimal n
unfolding place_of_plan place_word
word_at plan k a b n p first next some within index =
    let at = found_from 1 0 plan.setup.managers k a b n first next some within in
    let found : place_from 1 plan.setup.managers p.index ≡ Some at.place = ap (place_from 1 plan.setup.managers) (omega arith) ∙ at.found in
    let owner_is = at.owner_is in
    let owner : at.place.owner ≡ suc k = omega arith in
    ap (λ (o : Option Place). option_map_or (λ q. decimal q.owner ++ codes "." ++ decimal q.number) o []) found
    ∙ (ap (λ (i : ℕ). decimal i ++ codes "." ++ decimal at.place.number) owner ∙ ap (λ (j : ℕ). decimal (suc k) ++ codes "." ++ decimal j) at.number_is)

-- the word of the place with these numbers
number_word : (plan : Plan) (m n : ℕ) (p : PlaceId) → place_at (starts_of plan) m n ≡ Some p → place_word plan p ≡ decimal m ++ codes "." ++ decimal n
unfolding place_at starts_of
number_word plan zero n p h = absurd cc
number_word plan (suc k) n p h =
    let starts = starts_from 0 plan.setup.managers in
    let one = and_then-some (λ first. option_and_then (λ next. then_some (nat_le 1 n && nat_le (first + n) next) (record { index = first + n - 1 })) (numbered starts (suc k + 1))) (numbered starts (suc k)) p h in
    let two = and_then-some (λ next. then_some (nat_le 1 n && nat_le (one.0 + n) next) (record { index = one.0 + n - 1 })) (numbered starts (suc k + 1)) p one.2 in
    let three = then_some-some (nat_le 1 n && nat_le (one.0 + n) two.0) (record { index = one.0 + n - 1 }) p two.2 in
    let tests = and_parts (nat_le 1 n) (nat_le (one.0 + n) two.0) three.0 in
    word_at plan k one.0 two.0 n p (sym (numbered-at starts (suc k) k (omega arith)) ∙ one.1) (sym (numbered-at starts (suc k + 1) (suc k) (omega arith)) ∙ two.1)
    (leb-true 1 n tests.0) (leb-true (one.0 + n) two.0 tests.1) (ap (λ (q : PlaceId). q.index) three.1)

-- ---- the words

-- the two numbers of a word
record IsPair (starts : List ℕ) (parts : List (List ℕ)) (p : PlaceId) : Type 0 where
  m : ℕ
  n : ℕ
  both : parts ≡ decimal m ∷ decimal n ∷ []
  place : place_at starts m n ≡ Some p

pair_of : (starts : List ℕ) (parts : List (List ℕ)) (p : PlaceId) → place_of_parts starts parts ≡ Some p → IsPair starts parts p
pair_of starts [] p h = absurd cc
pair_of starts (a ∷ []) p h = absurd cc
pair_of starts (a ∷ b ∷ []) p h =
    let one = and_then-some (λ owner. option_and_then (place_at starts owner) (decimal_value b)) (decimal_value a) p h in
    let two = and_then-some (place_at starts one.0) (decimal_value b) p one.2 in
    let first = decimal_spelled a one.0 one.1 in
    let second = decimal_spelled b two.0 two.1 in
    record { m = one.0; n = two.0; both = cc; place = two.2 }
pair_of starts (a ∷ b ∷ c ∷ more) p h = absurd cc

pub place_spelled : (plan : Plan) (word : List ℕ) (p : PlaceId) → place_of (starts_of plan) word ≡ Some p → word ≡ place_word plan p
unfolding place_of
place_spelled plan word p h =
    let pair = pair_of (starts_of plan) (slice_split (λ byte. byte == 46) word) p h in
    let joined : word ≡ decimal pair.m ++ (46 ∷ decimal pair.n) = sym (join_with_byte-slice_split 46 word) ∙ ap (join_with_byte 46) pair.both in
    joined ∙ (sym (append_assoc (decimal pair.m) (46 ∷ []) (decimal pair.n)) ∙ sym (number_word plan pair.m pair.n p pair.place))
