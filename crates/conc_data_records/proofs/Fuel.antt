-- Each record has a field and takes a byte at least: a text has at most as many records as bytes, and more turns than that give no more.
use Rattle.std.proofs.Common.{◌≡◌, ◌≤◌, ◌<◌, ◌+◌, ◌++◌, ℕ, zero, suc, Bool, true, false, List, [], ◌∷◌, length, Option, Some, None, refl, ap, subst, arith, if◌then◌else◌, ◌==◌, ◌||◌}
use Rattle.csv.specs.Machine.{Read, ends_at_end, field_after, fields_after, in_field, is_end, next_record, start_field, start_record, step}
use Rattle.csv.specs.Reading.{default_config, records_from, records_next, strip_bom}
use Rattle.csv.specs.declared.parser.State.{State}
use Rattle.csv.specs.declared.parser.State.TheVariants as st
use Rattle.csv.specs.declared.parser.Action.{Action}
use Rattle.csv.specs.declared.parser.Action.TheVariants as act
use Rattle.conc_data_records.specs.Records.{Record}

-- after the end of a record none is open
abbrev Closes : State × Action → Type 0
Closes p = is_end p.1 ≡ true → ends_at_end p.0 ≡ false

either-closes : (b : Bool) (p q : State × Action) → Closes p → Closes q → Closes (if b then p else q)
either-closes true p q h g = h
either-closes false p q h g = g

after_end-closed : (b : Bool) → ends_at_end (if b then st.AfterCr else st.StartRecord) ≡ false
after_end-closed true = refl
after_end-closed false = refl

in_field-closes : (c : ℕ) → Closes (in_field default_config c)
in_field-closes c =
    either-closes (c == 44) _ _ (λ e. cc e) (either-closes ((c == 13) || (c == 10)) _ _ (λ e. after_end-closed (c == 13)) (λ e. cc e))

start_field-closes : (c : ℕ) → Closes (start_field default_config c)
start_field-closes c = either-closes (c == 34) _ _ (λ e. cc e) (in_field-closes c)

start_record-closes : (c : ℕ) → Closes (start_record default_config c)
start_record-closes c = either-closes ((c == 13) || (c == 10)) _ _ (λ e. refl) (start_field-closes c)

step-closes : (s : State) (c : ℕ) → Closes (step default_config s c)
step-closes st.StartRecord c = start_record-closes c
step-closes st.StartField c = start_field-closes c
step-closes st.InField c = in_field-closes c
step-closes st.InQuoted c = either-closes (c == 34) _ _ (λ e. cc e) (λ e. cc e)
step-closes st.InEscape c = λ e. cc e
step-closes st.AfterQuote c = either-closes (c == 34) _ _ (λ e. cc e) (in_field-closes c)
step-closes st.InComment c = either-closes (c == 10) _ _ (λ e. refl) (λ e. cc e)
step-closes st.AfterCr c = either-closes (c == 10) _ _ (λ e. refl) (start_record-closes c)

-- one more where the end of the text ends a record
abbrev pub open_record : Bool → ℕ
open_record true = 1
open_record false = 0

-- how many records there can be from a state on
abbrev pub most_left : State → List ℕ → ℕ
most_left s xs = length xs + open_record (ends_at_end s)

open_record-le : (b : Bool) → open_record b ≤ 1
open_record-le true = omega arith
open_record-le false = omega arith

pub most_left-le : (s : State) (xs : List ℕ) → most_left s xs ≤ length xs + 1
most_left-le s xs = let h = open_record-le (ends_at_end s) in omega arith

abbrev read_or : Read → Option Read → Read
read_or d None = d
read_or d (Some p) = p

some-same : {p r : Read} → Some p ≡ Some r → p ≡ r
some-same {p} {r} e = ap (read_or p) e

-- a record leaves room for fewer
pub next-fewer : (s : State) (fields : List (List ℕ)) (field xs : List ℕ) (r : Read) → next_record default_config s fields field xs ≡ Some r
    → most_left r.1 r.2 < most_left s xs
unfolding next_record
next-fewer s fields field [] r e = by (ends_at_end s) e
  where
    by : (b : Bool) → (if b then Some (fields ++ (field ∷ []), st.StartRecord, []) else None) ≡ Some r → most_left r.1 r.2 < 0 + open_record b
    by true q = subst (λ (p : Read). most_left p.1 p.2 < 1) (some-same q) (omega arith)
    by false q = cc q
next-fewer s fields field (c ∷ rest) r e = by (is_end (step default_config s c).1) refl e (next-fewer (step default_config s c).0 _ _ rest r)
  where
    by : (b : Bool) → is_end (step default_config s c).1 ≡ b
        → (if b then Some (fields_after (step default_config s c).1 fields field, (step default_config s c).0, rest)
        else next_record default_config (step default_config s c).0 (fields_after (step default_config s c).1 fields field) (field_after (step default_config s c).1 c field) rest) ≡ Some r
        → (next_record default_config (step default_config s c).0 (fields_after (step default_config s c).1 fields field) (field_after (step default_config s c).1 c field) rest ≡ Some r
        → most_left r.1 r.2 < most_left (step default_config s c).0 rest)
        → most_left r.1 r.2 < suc (length rest) + open_record (ends_at_end s)
    by true i q more =
        let closed = ap open_record (step-closes s c i) in
        subst (λ (p : Read). most_left p.1 p.2 < suc (length rest) + open_record (ends_at_end s)) (some-same q) (omega (arith, closed))
    by false i q more =
        let h = more q in
        let g = most_left-le (step default_config s c).0 rest in
        omega arith

some_field : (fields : List (List ℕ)) (field : List ℕ) → 0 < length (fields ++ (field ∷ []))
some_field [] field = omega arith
some_field (f ∷ fields) field = omega arith

ended_fields : (a : Action) (fields : List (List ℕ)) (field : List ℕ) → is_end a ≡ true → 0 < length (fields_after a fields field)
ended_fields act.EndRecord fields field e = some_field fields field
ended_fields act.Skip fields field e = cc e
ended_fields act.Copy fields field e = cc e
ended_fields act.EndField fields field e = cc e

-- a record has a field
pub next-some_field : (s : State) (fields : List (List ℕ)) (field xs : List ℕ) (r : Read) → next_record default_config s fields field xs ≡ Some r → 0 < length r.0
unfolding next_record
next-some_field s fields field [] r e = by (ends_at_end s) e
  where
    by : (b : Bool) → (if b then Some (fields ++ (field ∷ []), st.StartRecord, []) else None) ≡ Some r → 0 < length r.0
    by true q = subst (λ (p : Read). 0 < length p.0) (some-same q) (some_field fields field)
    by false q = cc q
next-some_field s fields field (c ∷ rest) r e = by (is_end (step default_config s c).1) refl e (next-some_field (step default_config s c).0 _ _ rest r)
  where
    by : (b : Bool) → is_end (step default_config s c).1 ≡ b
        → (if b then Some (fields_after (step default_config s c).1 fields field, (step default_config s c).0, rest)
        else next_record default_config (step default_config s c).0 (fields_after (step default_config s c).1 fields field) (field_after (step default_config s c).1 c field) rest)
        ≡ Some r
        → (next_record default_config (step default_config s c).0 (fields_after (step default_config s c).1 fields field) (field_after (step default_config s c).1 c field) rest
        ≡ Some r
        → 0 < length r.0)
        → 0 < length r.0
    by true i q more = subst (λ (p : Read). 0 < length p.0) (some-same q) (ended_fields (step default_config s c).1 fields field i)
    by false i q more = more q

-- turns enough give the same records
pub records_from-same : (n m : ℕ) (s : State) (xs : List ℕ) → most_left s xs ≤ n → most_left s xs ≤ m
    → records_from default_config n s xs ≡ records_from default_config m s xs
unfolding records_from
records_from-same zero zero s xs h g = refl
records_from-same zero (suc m) s xs h g = by (next_record default_config s [] [] xs) refl
  where
    by : (o : Option Read) → next_record default_config s [] [] xs ≡ o → [] ≡ records_next (records_from default_config m) o
    by None e = refl
    by (Some r) e = let f = next-fewer s [] [] xs r e in absurd (omega arith)
records_from-same (suc n) zero s xs h g = by (next_record default_config s [] [] xs) refl
  where
    by : (o : Option Read) → next_record default_config s [] [] xs ≡ o → records_next (records_from default_config n) o ≡ []
    by None e = refl
    by (Some r) e = let f = next-fewer s [] [] xs r e in absurd (omega arith)
records_from-same (suc n) (suc m) s xs h g = by (next_record default_config s [] [] xs) refl (records_from-same n m)
  where
    by : (o : Option Read) → next_record default_config s [] [] xs ≡ o
        → ((t : State) (ys : List ℕ) → most_left t ys ≤ n → most_left t ys ≤ m → records_from default_config n t ys ≡ records_from default_config m t ys)
        → records_next (records_from default_config n) o ≡ records_next (records_from default_config m) o
    by None e more = refl
    by (Some r) e more =
        let f = next-fewer s [] [] xs r e in
        ap (λ (rest : List Record). r.0 ∷ rest) (more r.1 r.2 (omega arith) (omega arith))

-- there are no more records than that
pub records_from-few : (n : ℕ) (s : State) (xs : List ℕ) → length (records_from default_config n s xs) ≤ most_left s xs
unfolding records_from
records_from-few zero s xs = omega arith
records_from-few (suc n) s xs = by (next_record default_config s [] [] xs) refl (records_from-few n)
  where
    by : (o : Option Read) → next_record default_config s [] [] xs ≡ o
        → ((t : State) (ys : List ℕ) → length (records_from default_config n t ys) ≤ most_left t ys)
        → length (records_next (records_from default_config n) o) ≤ most_left s xs
    by None e more = omega arith
    by (Some r) e more =
        let f = next-fewer s [] [] xs r e in
        let h = more r.1 r.2 in
        omega arith

-- the mark at the start of a text only shortens it
pub strip_bom-le : (xs : List ℕ) → length (strip_bom xs) ≤ length xs
unfolding strip_bom
strip_bom-le [] = omega arith
strip_bom-le (a ∷ []) = omega arith
strip_bom-le (a ∷ b ∷ []) = omega arith
strip_bom-le (a ∷ b ∷ c ∷ rest) = by _
  where
    by : (m : Bool) → length (if m then rest else a ∷ b ∷ c ∷ rest) ≤ length (a ∷ b ∷ c ∷ rest)
    by true = omega arith
    by false = omega arith
