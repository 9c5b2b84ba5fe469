-- How long the text of records is at most.
use Rattle.std.proofs.Common.{◌≡◌, ◌+◌, ◌*◌, ◌≤◌, ℕ, suc, Bool, true, false, List, [], ◌∷◌, ◌++◌, All, arith, codes, if◌then◌else◌, length, length-append, map, refl}
use Rattle.std.specs.Prelude.{◌==◌}
use Rattle.std.specs.List.{concat}
use Rattle.std.proofs.lemmas.List.Elements.{All-tail}
use Rattle.csv.specs.Writing.{default_writer, escaped, field_text, fields_text, is_blank, needs_quotes, quoted, row_text}
use Rattle.conc_types.specs.declared.event.Moment.{Moment}
use Rattle.conc_base_law.specs.Calendar.{civil_text}
use Rattle.conc_base_law.specs.Moments.{moment_text}
use Rattle.conc_time.proofs.Dates.{has_civil, text_of as civil_text_of}
use Rattle.conc_data_records.specs.Records.{Record}
use Rattle.conc_repeat.specs.Script.{script_header, submission, text_of}
use Rattle.conc_repeat.specs.Series.{argument_field, domain_field, priority_field, user_field, what_field}

one-more : (test : Bool) (b : ℕ) (rest : List ℕ) → length (if test then 34 ∷ b ∷ rest else b ∷ rest) ≤ length rest + 2
one-more true b rest = omega arith
one-more false b rest = omega arith

length-escaped : (x : List ℕ) → length (escaped default_writer x) ≤ 2 * length x
unfolding escaped
length-escaped [] = omega arith
length-escaped (b ∷ rest) = omega (arith, one-more (b == 34) b (escaped default_writer rest), length-escaped rest)

by-quotes : (needs : Bool) (x : List ℕ) → length (if needs then quoted default_writer x else x) ≤ 2 * length x + 2
by-quotes true x = omega (arith, length-append (escaped default_writer x) (34 ∷ []), length-escaped x)
by-quotes false x = omega arith

length-field : (x : List ℕ) → length (field_text default_writer x) ≤ 2 * length x + 2
length-field x = by-quotes (needs_quotes default_writer x) x

-- the room of fields with their quotes and the commas between them
abbrev room : List (List ℕ) → ℕ
room [] = 0
room (x ∷ xs) = 2 * length x + 3 + room xs

-- what two parts have together
joined : (a b : List ℕ) (m n total : ℕ) → length a ≤ m → length b ≤ n → m + n ≤ total → length (a ++ b) ≤ total
joined a b m n total h g t = omega (arith, length-append a b)

behind-comma : (a b : List ℕ) (m n total : ℕ) → length a ≤ m → length b ≤ n → m + n + 1 ≤ total → length (44 ∷ (a ++ b)) ≤ total
behind-comma a b m n total h g t = omega (arith, length-append a b)

with-end : (a b : List ℕ) (m n total : ℕ) → length a ≤ m → length b ≤ n → m + n + 1 ≤ total → length ((a ++ b) ++ 10 ∷ []) ≤ total
with-end a b m n total h g t = omega (arith, length-append (a ++ b) (10 ∷ []), length-append a b)

length-fields : (xs : List (List ℕ)) → length (fields_text default_writer xs) ≤ room xs
unfolding fields_text
length-fields [] = omega arith
length-fields (x ∷ xs) =
    behind-comma (field_text default_writer x) (fields_text default_writer xs) (2 * length x + 2) (room xs) (room (x ∷ xs)) (length-field x) (length-fields xs) (omega arith)

length-row : (x y : List ℕ) (ys : List (List ℕ)) (total : ℕ) → room (x ∷ y ∷ ys) ≤ total → length (row_text default_writer (x ∷ y ∷ ys)) ≤ total
unfolding is_blank
length-row x y ys total h =
    with-end (field_text default_writer x) (fields_text default_writer (y ∷ ys)) (2 * length x + 2) (room (y ∷ ys)) total (length-field x) (length-fields (y ∷ ys)) (omega arith)

civil-length : (t : Moment) → length (civil_text (has_civil t).civil) ≡ 19
unfolding civil_text
civil-length t = refl

moment-length : (t : Moment) → length (moment_text t) ≡ 19
moment-length t = let c = has_civil t in rw (civil_text_of t c.civil c.valid c.at) (civil-length t)

-- the fields of a submission are short
pub record IsShort (r : Record) : Type 0 where
  pub what : length (what_field r) ≤ 80
  pub user : length (user_field r) ≤ 80
  pub priority : length (priority_field r) ≤ 2
  pub domain : length (domain_field r) ≤ 80
  pub argument : length (argument_field r) ≤ 200

pub line-short : (at : Moment) (r : Record) → IsShort r → length (row_text default_writer (submission at r)) ≤ 959
line-short at r h =
    let what = h.what in
    let user = h.user in
    let priority = h.priority in
    let domain = h.domain in
    let argument = h.argument in
    let moment = moment-length at in
    length-row (moment_text at) (codes "submit") (what_field r ∷ user_field r ∷ priority_field r ∷ [] ∷ domain_field r ∷ argument_field r ∷ []) 959 (omega arith)

header-length : length (row_text default_writer script_header) ≡ 47
unfolding fields_text escaped is_blank
header-length = refl

header-short : length (row_text default_writer script_header) ≤ 47
header-short = rw header-length (omega arith)

-- so many short lines
lines-short : {D : Type 0} (line : D → Record) (dues : List D) → All (λ (d : D). length (row_text default_writer (line d)) ≤ 959) dues
    → length (concat (map (row_text default_writer) (map line dues))) ≤ 959 * length dues
lines-short line [] h = omega arith
lines-short {D} line (due ∷ dues) h =
    let more = lines-short line dues (All-tail (λ (d : D). length (row_text default_writer (line d)) ≤ 959) due dues h) in
    joined (row_text default_writer (line due)) (concat (map (row_text default_writer) (map line dues))) 959 (959 * length dues) (959 * suc (length dues)) (h 0 due (omega arith)) more (omega arith)

pub text-short : {D : Type 0} (line : D → Record) (dues : List D) → All (λ (d : D). length (row_text default_writer (line d)) ≤ 959) dues → length dues ≤ 4096
    → length (text_of (script_header ∷ map line dues)) ≤ 67108864
unfolding text_of
text-short line dues h few =
    joined (row_text default_writer script_header) (concat (map (row_text default_writer) (map line dues))) 47 (959 * length dues) 67108864 header-short (lines-short line dues h) (omega arith)
