-- What one read takes from the records that are still to be read.
use Rattle.std.proofs.Common.{◌≡◌, ◌≤◌, ◌<◌, ◌+◌, ◌∙◌, ◌&&◌, ◌==◌, ℕ, suc, Bool, true, false, not, if◌then◌else◌, List, [], ◌∷◌, drop, take, length, Option, Some, option_map, refl, ap, arith}
use Rattle.std.specs.Io.KnownBytes.{prepend_known}
use Rattle.csv.specs.Machine.{Read, next_record}
use Rattle.csv.specs.Reading.{Reached, ReadRecord, default_config, has_failed, reader_config, reader_state, records_from, records_next, source_of, strip_bom}
use Rattle.csv.specs.declared.parser.State.{State}
use Rattle.csv.specs.declared.parser.State.TheVariants as st
use Rattle.csv.specs.declared.reader.Reader.{Reader}
use Rattle.csv.proofs.ReadFacts.{rows-end, rows-more}
use Rattle.conc_data_records.specs.Records.{Record, records_of}
use Rattle.conc_data_records.specs.Unread.{records_left}
use Rattle.conc_data_records.proofs.Fuel.{most_left-le, next-fewer, next-some_field, records_from-few, records_from-same, strip_bom-le}

-- a reader at the start of a text
pub left-at_start : (state : State) (source : Option (List ℕ)) (text : List ℕ) → state ≡ st.StartRecord → source ≡ Some (strip_bom text)
    → records_left state source ≡ records_of text
unfolding records_of
left-at_start state source text s e = rw (s, e) refl

-- each record of a text takes a byte at least
pub records_of-few : (text : List ℕ) → length (records_of text) ≤ length text
unfolding records_of
records_of-few text =
    let few = records_from-few (length (strip_bom text) + 1) st.StartRecord (strip_bom text) in
    let short = strip_bom-le text in
    omega arith

-- one turn
records_from-next : (n : ℕ) (s : State) (xs : List ℕ)
    → records_from default_config (n + 1) s xs ≡ records_next (records_from default_config n) (next_record default_config s [] [] xs)
unfolding records_from
records_from-next n s xs = let e : n + 1 ≡ suc n = omega arith in rw e refl

left-next : (s t : State) (xs ys : List ℕ) (fields : Record) (r : Read) → next_record default_config s [] [] xs ≡ Some r → fields ≡ r.0 → r.1 ≡ t → r.2 ≡ ys
    → records_left s (Some xs) ≡ fields ∷ records_left t (Some ys)
left-next s t xs ys fields r e f g h =
    let fewer = next-fewer s [] [] xs r e in
    let room = most_left-le s xs in
    let same = records_from-same (length xs) (length r.2 + 1) r.1 r.2 (omega arith) (most_left-le r.1 r.2) in
    rw (← g, ← h, f) (records_from-next (length xs) s xs ∙ rw e (ap (λ (rest : List Record). r.0 ∷ rest) same))

-- the bytes that are left of known ones are known
known : (start : Bool) (front text : List ℕ)
    → (xs : List ℕ) × ((if start then option_map strip_bom (Some text) else prepend_known front (Some text)) ≡ Some xs)
known true front text = (_, refl)
known false front text = (_, refl)

source-known : {R : Type 0} (text : R → List ℕ) (a : Reader R) → has_failed a ≡ false
    → (xs : List ℕ) × (source_of (λ s. Some (text s)) a ≡ Some xs)
source-known text a e = rw e (known (not a.bom_checked && (a.at == 0) && (a.filled == 0)) (drop a.at (take a.filled a.buffer)) (text a.rdr))

-- a read that finds a record takes it from the front
pub left-found : {R : Type 0} (text : R → List ℕ) (a b : Reader R) (fields : Record) → reader_config a ≡ default_config → has_failed a ≡ false
    → ReadRecord (λ s. Some (text s)) a b true fields
    → records_left (reader_state a) (source_of (λ s. Some (text s)) a) ≡ fields ∷ records_left (reader_state b) (source_of (λ s. Some (text s)) b)
unfolding Reached
left-found text a b fields config going r =
    let (xs, source) = source-known text a going in
    let (ys, after, reached) = rows-more (λ s. Some (text s)) a b fields default_config a.state xs xs [] config source (refl, refl) r in
    let (p, next, same, there) = reached in
    let (state, rest) = there in
    rw (source, after) (left-next a.state b.state xs ys fields p next same state rest)

-- a read that finds a record gives a field
pub found-some_field : {R : Type 0} (text : R → List ℕ) (a b : Reader R) (fields : Record) → reader_config a ≡ default_config → has_failed a ≡ false
    → ReadRecord (λ s. Some (text s)) a b true fields → 0 < length fields
unfolding Reached
found-some_field text a b fields config going r =
    let (xs, source) = source-known text a going in
    let (ys, after, reached) = rows-more (λ s. Some (text s)) a b fields default_config a.state xs xs [] config source (refl, refl) r in
    let (p, next, same, there) = reached in
    rw same (next-some_field a.state [] [] xs p next)

-- a read that finds none is at the end
pub left-none : {R : Type 0} (text : R → List ℕ) (a b : Reader R) (fields : Record) → reader_config a ≡ default_config → has_failed a ≡ false
    → ReadRecord (λ s. Some (text s)) a b false fields → records_left (reader_state a) (source_of (λ s. Some (text s)) a) ≡ []
left-none text a b fields config going r =
    let (xs, source) = source-known text a going in
    rw source (records_from-next (length xs) a.state xs ∙ rw (rows-end (λ s. Some (text s)) a b fields default_config xs config source r) refl)
