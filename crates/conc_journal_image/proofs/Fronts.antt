-- The first bytes of an image tell what it stands for.
use Rattle.std.proofs.Common.{◌≡◌, ℕ, zero, suc, ◌+◌, ◌*◌, ◌-◌, ◌<◌, ◌≤◌, List, [], ◌∷◌, length, take, drop, None, refl, sym, ap, ◌∙◌, arith}
use Rattle.std.specs.Prelude.{codes, cond, if◌then◌else◌, nat_le, not, ◌&&◌, ◌||◌, ◌==◌}
use Rattle.std.specs.Str.{bytes_eq}
use Rattle.std.proofs.lemmas.Bool.Decides.{nat_tests}
use Rattle.std.proofs.lemmas.List.{drop-drop, drop-take, get_or-take, length-take, take-take}
use Rattle.conc_journal_image.specs.declared.label.Label.{Label}
use Rattle.conc_journal_image.specs.declared.label.Version.TheVariants.{One, Two}
use Rattle.conc_journal_image.specs.Fields.{event_in}
use Rattle.conc_journal_image.specs.Image.{base_in, breaks_here, digest_in, ends_here, found_from, found_in, found_with, has_header, is_closed, is_not_begun, label_in, version_in, whole_record}

-- ---- of a list

-- what is dropped of the front
pub drop-front : {X : Type 0} (m k : ℕ) (xs : List X) → m ≤ k → drop m (take k xs) ≡ take (k - m) (drop m xs)
drop-front m k xs h = let e : k ≡ m + (k - m) = omega arith in ap (λ j. drop m (take j xs)) e ∙ drop-take m (k - m) xs

-- a part of the front
pub part-front : {X : Type 0} (m n k : ℕ) (xs : List X) → m + n ≤ k → take n (drop m (take k xs)) ≡ take n (drop m xs)
part-front m n k xs h = ap (λ ys. take n ys) (drop-front m k xs (omega arith)) ∙ take-take n (k - m) (drop m xs) (omega arith)

-- what is behind a place, by what is behind an earlier one
pub behind-same : {X : Type 0} (m n : ℕ) (c d : List X) → m ≤ n → drop m c ≡ drop m d → drop n c ≡ drop n d
behind-same m n c d h same =
    let e : m + (n - m) ≡ n = omega arith in
    ap (λ k. drop k c) (sym e) ∙ sym (drop-drop (n - m) m c) ∙ ap (λ xs. drop (n - m) xs) same ∙ drop-drop (n - m) m d ∙ ap (λ k. drop k d) e

-- what is in front of a place, by what is in front of a later one
pub front-same : {X : Type 0} (m n : ℕ) (c d : List X) → m ≤ n → take n c ≡ take n d → take m c ≡ take m d
front-same m n c d h same = sym (take-take m n c h) ∙ ap (λ xs. take m xs) same ∙ take-take m n d h

-- a part of the front, by the front
pub middle-same : {X : Type 0} (at n k : ℕ) (c d : List X) → at + n ≤ k → take k c ≡ take k d → take n (drop at c) ≡ take n (drop at d)
middle-same at n k c d h same = sym (part-front at n k c h) ∙ ap (λ xs. take n (drop at xs)) same ∙ part-front at n k d h

has_length-front : {X : Type 0} (n k : ℕ) (xs : List X) → n ≤ k → nat_le n (length (take k xs)) ≡ nat_le n (length xs)
has_length-front n k xs h = let e = length-take k xs in grind (arith, nat_tests)

is_short-front : {X : Type 0} (n k : ℕ) (xs : List X) → n < k → nat_le (length (take k xs)) n ≡ nat_le (length xs) n
is_short-front n k xs h = let e = length-take k xs in grind (arith, nat_tests)

-- ---- of an image

pub is_closed-front : (k : ℕ) (bytes : List ℕ) → 1 ≤ k → is_closed (take k bytes) ≡ is_closed bytes
is_closed-front zero bytes h = absurd (omega arith)
is_closed-front (suc k) [] h = refl
is_closed-front (suc k) (x ∷ xs) h = refl

pub is_not_begun-front : (k : ℕ) (image : List ℕ) → 2 ≤ k → is_not_begun (take k image) ≡ is_not_begun image
unfolding is_not_begun
is_not_begun-front k image h =
    ap (λ b. b || is_closed (take k image)) (is_short-front 1 k image (omega arith))
    ∙ ap (λ b. nat_le (length image) 1 || b) (is_closed-front k image (omega arith))

pub has_header-front : (k : ℕ) (image : List ℕ) → 65 ≤ k → has_header (take k image) ≡ has_header image
unfolding has_header
has_header-front k image h =
    let title = codes "conc journal 1\n" in
    ap (λ b. b && (not (is_closed (take k image)) && bytes_eq (take 15 (drop 1 (take k image))) title)) (has_length-front 65 k image h)
    ∙ ap (λ b. nat_le 65 (length image) && (not b && bytes_eq (take 15 (drop 1 (take k image))) title)) (is_closed-front k image (omega arith))
    ∙ ap (λ xs. nat_le 65 (length image) && (not (is_closed image) && bytes_eq xs title)) (part-front 1 15 k image (omega arith))

pub digest_in-front : (k : ℕ) (image : List ℕ) → 48 ≤ k → digest_in (take k image) ≡ digest_in image
digest_in-front k image h = part-front 16 32 k image h

pub base_in-front : (k : ℕ) (image : List ℕ) → 63 ≤ k → base_in (take k image) ≡ base_in image
base_in-front k image h = part-front 48 15 k image h

pub version_in-front : (k : ℕ) (image : List ℕ) → 64 ≤ k → version_in (take k image) ≡ version_in image
version_in-front k image h = ap (λ gate. if gate == 0 then One else Two) (get_or-take k image 63 0 (omega arith))

-- a label by its parts
pub same_label : (a b : Label) → a.version ≡ b.version → a.digest ≡ b.digest → a.base ≡ b.base → a ≡ b
same_label a b version digest base =
    ap (λ v. record { version = v; digest = a.digest; base = a.base }) version
    ∙ ap (λ d. record { version = b.version; digest = d; base = a.base }) digest
    ∙ ap (λ x. record { version = b.version; digest = b.digest; base = x }) base

pub label_in-front : (k : ℕ) (image : List ℕ) → 64 ≤ k → label_in (take k image) ≡ label_in image
label_in-front k image h =
    same_label (label_in (take k image)) (label_in image) (version_in-front k image h) (digest_in-front k image (omega arith)) (base_in-front k image (omega arith))

pub whole_record-front : (k : ℕ) (bytes : List ℕ) → 33 ≤ k → whole_record (take k bytes) ≡ whole_record bytes
whole_record-front k bytes h =
    ap (λ b. cond b (event_in (take 31 (drop 1 (take k bytes)))) None) (has_length-front 33 k bytes h)
    ∙ ap (λ xs. cond (nat_le 33 (length bytes)) (event_in xs) None) (part-front 1 31 k bytes (omega arith))

pub found_from-front : (more number k : ℕ) (bytes : List ℕ) → 32 * more + 1 ≤ k → found_from more number (take k bytes) ≡ found_from more number bytes
unfolding found_from
found_from-front zero number k bytes h = ap (λ b. cond b ends_here (breaks_here number)) (is_closed-front k bytes (omega arith))
found_from-front (suc more) number k bytes h =
    let rest = λ (xs : List ℕ). found_from more (number + 1) (drop 32 xs) in
    let behind : rest (take k bytes) ≡ rest bytes =
    ap (λ xs. found_from more (number + 1) xs) (drop-front 32 k bytes (omega arith)) ∙ found_from-front more (number + 1) (k - 32) (drop 32 bytes) (omega arith) in
    ap (λ b. cond b ends_here (found_with number (whole_record (take k bytes)) (rest (take k bytes)))) (is_closed-front k bytes (omega arith))
    ∙ ap (λ w. cond (is_closed bytes) ends_here (found_with number w (rest (take k bytes)))) (whole_record-front k bytes (omega arith))
    ∙ ap (λ f. cond (is_closed bytes) ends_here (found_with number (whole_record bytes) f)) behind

pub found_in-front : (k : ℕ) (image : List ℕ) → 33554497 ≤ k → found_in (take k image) ≡ found_in image
unfolding found_in
found_in-front k image h =
    ap (λ xs. found_from 1048576 1 xs) (drop-front 64 k image (omega arith)) ∙ found_from-front 1048576 1 (k - 64) (drop 64 image) (omega arith)
