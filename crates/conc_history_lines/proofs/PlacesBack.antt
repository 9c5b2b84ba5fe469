-- The word of each place of a plan is read back.
use Rattle.std.proofs.Common.{◌≡◌, refl, ◌∙◌, ap, ◌<◌, ◌≤◌, ◌+◌, ◌-◌, ℕ, suc, true, ◌&&◌, List, [], ◌∷◌, ◌++◌, length, append_assoc, inl, inr, arith}
use Rattle.std.specs.Prelude.{codes, nat_le, slice_get, Option, None, Some, is_some}
use Rattle.std.specs.Fmt.{decimal}
use Rattle.std.specs.List.{sum_by}
use Rattle.std.specs.Option.{option_map_or}
use Rattle.std.proofs.lemmas.Bool.{and_from, cases_lt, le-leb, le-ltb, lt-ltb}
use Rattle.std.proofs.lemmas.List.Sums.{sum_by-cons}
use Rattle.conc_types.specs.declared.event.PlaceId.{PlaceId}
use Rattle.conc_types.specs.declared.manager.Manager.{Manager}
use Rattle.conc_types.specs.declared.plan.Plan.{Plan}
use Rattle.conc_types.specs.Shifts.{most_places}
use Rattle.conc_types.specs.Words.{numbered}
use Rattle.conc_base_law.specs.Places.{Place, place_from, place_of as place_of_plan}
use Rattle.conc_base_law.specs.Text.{place_word}
use Rattle.conc_base_law.proofs.Numbering.{numbered-at}
use Rattle.conc_history_lines.specs.Places.{place_at, place_of, starts_from, starts_of}
use Rattle.conc_history_lines.proofs.Clean.{clean_append, clean_decimal, is_clean, no_dot}
use Rattle.conc_history_lines.proofs.Decimals.{decimal_back}
use Rattle.conc_history_lines.proofs.Dots.{place_round}
use Rattle.conc_history_lines.proofs.PlaceNumbers.{starts_first}

-- where a place of the plan stands in the table
record StandsAt (owner first : ℕ) (managers : List Manager) (index : ℕ) (place : Place) : Type 0 where
  k : ℕ
  start : ℕ
  next : ℕ
  start_is : slice_get (starts_from first managers) k ≡ Some start
  next_is : slice_get (starts_from first managers) (suc k) ≡ Some next
  owner_is : place.owner ≡ owner + k
  some : 1 ≤ place.number
  index_is : start + place.number ≡ first + index + 1
  below : start + place.number ≤ next
  few_owners : k < length managers
  few_places : place.number ≤ sum_by (λ m. most_places m.shifts) managers

stands_from : (owner first : ℕ) (managers : List Manager) (index : ℕ) (place : Place) → place_from owner managers index ≡ Some place → StandsAt owner first managers index place
stands_from owner first [] index place h = absurd cc
stands_from owner first (m ∷ managers) index place h = elim (cases_lt index (most_places m.shifts)) [
  | inl lt ↦
      let here : Some (record { owner = owner; manager = m; number = index + 1 }) ≡ Some place = rw (lt-ltb index (most_places m.shifts) lt) at h in
      let same : record { owner = owner; manager = m; number = index + 1 } ≡ place = cc in
      let owner_is : owner ≡ place.owner = ap (λ (q : Place). q.owner) same in
      let number_is : index + 1 ≡ place.number = ap (λ (q : Place). q.number) same in
      let all = sum_by-cons (λ (q : Manager). most_places q.shifts) m managers in
      record {
        k = 0;
        start = first;
        next = first + most_places m.shifts;
        start_is = refl;
        next_is = starts_first (first + most_places m.shifts) managers;
        owner_is = omega arith;
        some = omega arith;
        index_is = omega arith;
        below = omega arith;
        few_owners = omega arith;
        few_places = omega arith;
      }
  | inr ge ↦
      let later : place_from (owner + 1) managers (index - most_places m.shifts) ≡ Some place = rw (le-ltb index (most_places m.shifts) ge) at h in
      let r = stands_from (owner + 1) (first + most_places m.shifts) managers (index - most_places m.shifts) place later in
      let all = sum_by-cons (λ (q : Manager). most_places q.shifts) m managers in
      let owner_is = r.owner_is in
      let index_is = r.index_is in
      let few_owners = r.few_owners in
      let few_places = r.few_places in
      record {
        k = suc r.k;
        start = r.start;
        next = r.next;
        start_is = r.start_is;
        next_is = r.next_is;
        owner_is = omega arith;
        some = r.some;
        index_is = omega arith;
        below = r.below;
        few_owners = omega arith;
        few_places = omega arith;
      }
]

-- the numbers of a place lead to it
numbers_back : (plan : Plan) (p : PlaceId) (place : Place) → StandsAt 1 0 plan.setup.managers p.index place → place_at (starts_of plan) place.owner place.number ≡ Some p
unfolding place_at starts_of
numbers_back plan p place r =
    let starts = starts_from 0 plan.setup.managers in
    let owner_is = r.owner_is in
    let some = r.some in
    let below = r.below in
    let index_is = r.index_is in
    let first : numbered starts place.owner ≡ Some r.start = numbered-at starts place.owner r.k (omega arith) ∙ r.start_is in
    let next : numbered starts (place.owner + 1) ≡ Some r.next = numbered-at starts (place.owner + 1) (suc r.k) (omega arith) ∙ r.next_is in
    let test : (nat_le 1 place.number && nat_le (r.start + place.number) r.next) ≡ true = and_from _ _ (le-leb 1 place.number some) (le-leb (r.start + place.number) r.next below) in
    let index : r.start + place.number - 1 ≡ p.index = omega arith in
    rw (first, next, test) (ap (λ (i : ℕ). Some (record { index = i })) index)

-- what the word of a place of the plan is
record IsWord (plan : Plan) (p : PlaceId) : Type 0 where
  place : Place
  word : place_word plan p ≡ decimal place.owner ++ (46 ∷ decimal place.number)
  owner_fits : place.owner < 18446744073709551616
  number_fits : place.number < 18446744073709551616
  back : place_at (starts_of plan) place.owner place.number ≡ Some p

word_of : (plan : Plan) (p : PlaceId) (o : Option Place) → place_of_plan plan p ≡ o → is_some o ≡ true → IsWord plan p
unfolding place_of_plan place_word
word_of plan p None e h = absurd cc
word_of plan p (Some place) e h =
    let r = stands_from 1 0 plan.setup.managers p.index place e in
    let few_owners = r.few_owners in
    let few_places = r.few_places in
    let owner_is = r.owner_is in
    let few_managers = plan.setup.few_managers in
    let places = plan.setup.few_places in
    record {
      place = place;
      word =
          ap (λ (o : Option Place). option_map_or (λ q. decimal q.owner ++ codes "." ++ decimal q.number) o []) e
          ∙ append_assoc (decimal place.owner) (46 ∷ []) (decimal place.number);
      owner_fits = omega arith;
      number_fits = omega arith;
      back = numbers_back plan p place r;
    }

pub place_back : (plan : Plan) (p : PlaceId) → is_some (place_of_plan plan p) ≡ true → place_of (starts_of plan) (place_word plan p) ≡ Some p
place_back plan p h =
    let w = word_of plan p (place_of_plan plan p) refl h in
    let round = place_round (starts_of plan) (place_word plan p) (decimal w.place.owner) (decimal w.place.number) w.word (no_dot w.place.owner w.owner_fits) in
    (rw (decimal_back w.place.owner w.owner_fits, decimal_back w.place.number w.number_fits) at round) ∙ w.back

pub clean_place : (plan : Plan) (p : PlaceId) → is_some (place_of_plan plan p) ≡ true → is_clean (place_word plan p) ≡ true
clean_place plan p h =
    let w = word_of plan p (place_of_plan plan p) refl h in
    ap is_clean w.word
    ∙ clean_append (decimal w.place.owner) (46 ∷ decimal w.place.number) (clean_decimal w.place.owner w.owner_fits) (clean_append (46 ∷ []) (decimal w.place.number) refl (clean_decimal w.place.number w.number_fits))
