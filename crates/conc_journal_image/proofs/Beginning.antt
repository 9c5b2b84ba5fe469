-- Headers of images.
use Rattle.std.proofs.Common.{◌≡◌, ◌≢◌, ◌⊎◌, inl, inr, subst, ℕ, ◌≤◌, ◌==◌, Bool, true, false, List, [], ◌∷◌, ◌++◌, length, get_or, take, drop, refl, sym, ap, ◌∙◌, arith, IsTrue, IsFalse}
use Rattle.std.specs.Prelude.{if◌then◌else◌, nat_le, not, slice_index, ◌||◌}
use Rattle.std.proofs.lemmas.Bool.{and_parts, cases_eq}
use Rattle.std.proofs.lemmas.Bool.Decides.{nat_tests}
use Rattle.std.proofs.lemmas.List.{append_assoc, drop-drop, drop_at, get_or-drop, length-append, take-append-drop, take_at}
use Rattle.conc_journal_image.specs.Headers.{BeginsJournal, header_behind, label_of}
use Rattle.conc_journal_image.specs.Image.{base_in, ends_here, found_in, has_header, is_closed, IsJournal, is_not_begun, stamps_from, stamps_in, version_in}
use Rattle.conc_journal_image.specs.declared.label.Label.{Label}
use Rattle.conc_journal_image.specs.declared.label.Version.TheVariants.{One, Two}
use Rattle.conc_journal_image.proofs.Finding.{found_from-closed}
use Rattle.conc_journal_image.proofs.Fronts.{is_closed-front}
use Rattle.conc_journal_image.proofs.Stamps.{stamps_in-is}

-- these bytes, behind the title
behind_title : List ℕ → List ℕ → List ℕ → List ℕ
behind_title digest base rest = (digest ++ (base ++ 1 ∷ 0 ∷ [])) ++ rest

-- these, behind the digest
behind_digest : List ℕ → List ℕ → List ℕ
behind_digest base rest = base ++ 1 ∷ 0 ∷ rest

drop-behind_title : (digest base rest : List ℕ) → length digest ≡ 32 → drop 32 (behind_title digest base rest) ≡ behind_digest base rest
unfolding behind_title behind_digest
drop-behind_title digest base rest long =
    ap (λ xs. drop 32 xs) (append_assoc digest (base ++ 1 ∷ 0 ∷ []) rest)
    ∙ drop_at digest ((base ++ 1 ∷ 0 ∷ []) ++ rest) 32 long
    ∙ append_assoc base (1 ∷ 0 ∷ []) rest

drop-behind_digest : (base rest : List ℕ) → length base ≡ 15 → drop 15 (behind_digest base rest) ≡ 1 ∷ 0 ∷ rest
unfolding behind_digest
drop-behind_digest base rest long = drop_at base (1 ∷ 0 ∷ rest) 15 long

-- the gate of the version, and all behind it
from_version : (digest base rest : List ℕ) → length digest ≡ 32 → length base ≡ 15 → drop 47 (behind_title digest base rest) ≡ 1 ∷ 0 ∷ rest
from_version digest base rest long some =
    sym (drop-drop 15 32 (behind_title digest base rest)) ∙ ap (λ xs. drop 15 xs) (drop-behind_title digest base rest long) ∙ drop-behind_digest base rest some

length-behind_title : (digest base rest : List ℕ) → length digest ≡ 32 → length base ≡ 15 → 49 ≤ length (behind_title digest base rest)
unfolding behind_title
length-behind_title digest base rest long some =
    omega (arith, length-append (digest ++ (base ++ 1 ∷ 0 ∷ [])) rest, length-append digest (base ++ 1 ∷ 0 ∷ []), length-append base (1 ∷ 0 ∷ []))

has_header-begun : (gate : ℕ) (digest base rest : List ℕ) → gate ≢ 0 → length digest ≡ 32 → length base ≡ 15 → IsTrue (has_header (gate ∷ (header_behind digest base ++ rest)))
unfolding has_header behind_title
has_header-begun gate digest base rest open_gate long some =
    let most : 49 ≤ length (behind_title digest base rest) = length-behind_title digest base rest long some in
    let whole : nat_le 65 (length (gate ∷ (header_behind digest base ++ rest))) ≡ true = grind (arith, nat_tests) in
    let opens : (gate == 0) ≡ false = grind (arith, nat_tests) in
    rw whole (rw opens refl)

version_in-begun : (gate : ℕ) (digest base rest : List ℕ) → length digest ≡ 32 → length base ≡ 15 → version_in (gate ∷ (header_behind digest base ++ rest)) ≡ Two
unfolding behind_title
version_in-begun gate digest base rest long some =
    let one : get_or (behind_title digest base rest) 47 0 ≡ 1 =
    sym (get_or-drop 47 (behind_title digest base rest) 0 0) ∙ ap (λ xs. get_or xs 0 0) (from_version digest base rest long some) in
    ap (λ byte. if byte == 0 then One else Two) one

base_in-begun : (gate : ℕ) (digest base rest : List ℕ) → length digest ≡ 32 → length base ≡ 15 → base_in (gate ∷ (header_behind digest base ++ rest)) ≡ base
unfolding behind_title behind_digest
base_in-begun gate digest base rest long some =
    ap (λ xs. take 15 xs) (drop-behind_title digest base rest long) ∙ take_at base (1 ∷ 0 ∷ rest) 15 some

found_in-begun : (gate : ℕ) (digest base rest : List ℕ) → length digest ≡ 32 → length base ≡ 15 → found_in (gate ∷ (header_behind digest base ++ rest)) ≡ ends_here
unfolding found_in behind_title
found_in-begun gate digest base rest long some =
    let from_gate : drop 48 (behind_title digest base rest) ≡ 0 ∷ rest =
    sym (drop-drop 1 47 (behind_title digest base rest)) ∙ ap (λ xs. drop 1 xs) (from_version digest base rest long some) in
    found_from-closed 1048576 1 (drop 48 (behind_title digest base rest)) (ap (λ xs. is_closed xs) from_gate)

stamps_in-begun : (image : List ℕ) → found_in image ≡ ends_here → stamps_in image ≡ []
unfolding stamps_from
stamps_in-begun image h = stamps_in-is image [] (ap (λ f. f.events) h)

-- behind an open gate they begin a journal without events
pub begins : (digest base : List ℕ) → length digest ≡ 32 → length base ≡ 15 → BeginsJournal (label_of digest base) (header_behind digest base)
begins digest base long some gate rest open_gate =
    let found = found_in-begun gate digest base rest long some in
    record {
      header = has_header-begun gate digest base rest open_gate long some;
      labelled = record { version = version_in-begun gate digest base rest long some; tells = base_in-begun gate digest base rest long some };
      found = found;
      stamped = stamps_in-begun (gate ∷ (header_behind digest base ++ rest)) found;
    }

-- ---- while a journal is begun

-- with its gate closed none was begun
pub closed-not_begun : (c : List ℕ) → IsTrue (is_closed c) → IsTrue (is_not_begun c)
unfolding is_not_begun
closed-not_begun c h = by (nat_le (length c) 1) where
  by : (b : Bool) → (b || is_closed c) ≡ true
  by true = refl
  by false = h

-- nor with one byte
pub short-not_begun : (c : List ℕ) → length c ≤ 1 → IsTrue (is_not_begun c)
unfolding is_not_begun
short-not_begun c h = let short : nat_le (length c) 1 ≡ true = grind (arith, nat_tests) in ap (λ b. b || is_closed c) short

-- of two bytes or more the first tells
not_begun-closed : (c : List ℕ) → 2 ≤ length c → IsTrue (is_not_begun c) → IsTrue (is_closed c)
unfolding is_not_begun
not_begun-closed c long h = let short : nat_le (length c) 1 ≡ false = grind (arith, nat_tests) in sym (ap (λ b. b || is_closed c) short) ∙ h

-- with the same first byte it stays not begun, whatever stands behind
pub not_begun-stays : (d c : List ℕ) → IsTrue (is_not_begun d) → 2 ≤ length d → take 1 c ≡ take 1 d → IsTrue (is_not_begun c)
not_begun-stays d c h long same =
    closed-not_begun
    c
    (sym (is_closed-front 1 c (omega arith)) ∙ ap (λ xs. is_closed xs) same ∙ is_closed-front 1 d (omega arith) ∙ not_begun-closed d long h)

-- behind an open gate the header begins a journal
pub opened-begins : (label : Label) (header c : List ℕ) → BeginsJournal label header → take 64 (drop 1 c) ≡ header → slice_index c 0 ≢ 0 → IsJournal label [] [] c
opened-begins label header [] begins here opens = absurd (opens refl)
opened-begins label header (gate ∷ rest) begins here opens =
    let split : header ++ drop 64 rest ≡ rest = ap (λ xs. xs ++ drop 64 rest) (sym here) ∙ take-append-drop 64 rest in
    subst (λ xs. IsJournal label [] [] (gate ∷ xs)) split (begins gate (drop 64 rest) opens)

-- Whatever the gate holds, none was begun, or one without events.
pub begun-either : (label : Label) (header c : List ℕ) → BeginsJournal label header → take 64 (drop 1 c) ≡ header → IsTrue (is_not_begun c) ⊎ IsJournal label [] [] c
begun-either label header c begins here =
    elim (cases_eq (slice_index c 0) 0) [
      | inl closed ↦ inl (closed-not_begun c (ap (λ k. k == 0) closed))
      | inr opens ↦ inr (opened-begins label header c begins here opens)
    ]

-- where the header is there, a journal was begun
pub header-begun : (image : List ℕ) → IsTrue (has_header image) → IsFalse (is_not_begun image)
unfolding is_not_begun has_header
header-begun image h =
    let p = and_parts (nat_le 65 (length image)) _ h in
    let q = and_parts (not (is_closed image)) _ p.1 in
    let short : nat_le (length image) 1 ≡ false = grind (arith, nat_tests) in
    let opens : is_closed image ≡ false = grind (arith, nat_tests) in
    ap (λ b. b || is_closed image) short ∙ opens
