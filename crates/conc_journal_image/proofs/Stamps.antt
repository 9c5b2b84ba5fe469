-- The stamps of commands in their records.
use Rattle.std.proofs.Common.{◌≡◌, ℕ, suc, ◌+◌, ◌*◌, ◌-◌, ◌<◌, ◌≤◌, Bool, true, false, List, [], ◌∷◌, ◌++◌, Some, None, length, take, drop, refl, sym, ap, ◌∙◌, arith, IsTrue, IsFalse}
use Rattle.std.specs.Prelude.{cond, count_by}
use Rattle.std.specs.Int.{from_be_bytes, w64}
use Rattle.std.proofs.lemmas.List.{append-nil, append_assoc, drop-drop, length-append, take_at, take-take}
use Rattle.std.proofs.lemmas.List.Sums.{sum_by-append}
use Rattle.conc_types.specs.declared.event.Event.{Event}
use Rattle.conc_types.specs.declared.event.Event.TheVariants as event
use Rattle.conc_journal_image.specs.declared.label.Version.{Version}
use Rattle.conc_journal_image.specs.declared.label.Version.TheVariants.{One, Two}
use Rattle.conc_journal_image.specs.Fields.{command_stamp, has_stamp, stamp_in}
use Rattle.conc_journal_image.specs.Image.{found_from, found_in, HasStamps, is_closed, stamp_at, stamps_from, stamps_in, whole_record}
use Rattle.conc_journal_image.proofs.Finding.{found_from-broken, found_from-closed, found_from-full, found_from-taken, too_many}
use Rattle.conc_journal_image.proofs.Fronts.{drop-front, found_in-front, part-front}
use Rattle.conc_journal_image.proofs.Runs.{length-found_in}

-- ---- of one record

pub stamp_at-front : (k : ℕ) (bytes : List ℕ) → 20 ≤ k → stamp_at (take k bytes) ≡ stamp_at bytes
stamp_at-front k bytes h = ap (λ xs. from_be_bytes w64 xs) (part-front 12 8 k bytes h)

-- it stands where the record has its wide number
pub stamp_at-part : (at : ℕ) (bytes : List ℕ) → stamp_at (drop at bytes) ≡ from_be_bytes w64 (take 8 (drop (at + 12) bytes))
stamp_at-part at bytes = ap (λ xs. from_be_bytes w64 (take 8 xs)) (drop-drop 12 at bytes)

-- in the 31 bytes behind a gate
pub stamp_in-part : (bytes : List ℕ) → stamp_in (take 31 (drop 1 bytes)) ≡ stamp_at bytes
stamp_in-part bytes =
    ap (λ xs. from_be_bytes w64 xs) (part-front 11 8 31 (drop 1 bytes) (omega arith)) ∙ ap (λ xs. from_be_bytes w64 (take 8 xs)) (drop-drop 11 1 bytes)

-- that of a record whose 31 bytes stand behind the gate
pub stamp_at-record : (at : ℕ) (bytes c : List ℕ) → length bytes ≡ 31 → take 32 (drop (at + 1) c) ≡ bytes ++ 0 ∷ [] → stamp_at (drop at c) ≡ stamp_in bytes
stamp_at-record at bytes c long here =
    let far : drop 11 (drop (at + 1) c) ≡ drop (at + 12) c = drop-drop 11 (at + 1) c ∙ ap (λ k. drop k c) (omega arith) in
    let spelled : take 31 (drop (at + 1) c) ≡ bytes =
    sym (take-take 31 32 (drop (at + 1) c) (omega arith)) ∙ ap (λ xs. take 31 xs) here ∙ take_at bytes (0 ∷ []) 31 long in
    stamp_at-part at c
    ∙ ap (λ xs. from_be_bytes w64 (take 8 xs)) (sym far)
    ∙ ap (λ xs. from_be_bytes w64 xs) (sym (part-front 11 8 31 (drop (at + 1) c) (omega arith)))
    ∙ ap (λ xs. stamp_in xs) spelled

-- ---- of records one after the other

-- no more than their bytes tell them
pub stamps_from-front : (events : List Event) (k : ℕ) (bytes : List ℕ) → 32 * length events ≤ k → stamps_from events (take k bytes) ≡ stamps_from events bytes
unfolding stamps_from
stamps_from-front [] k bytes h = refl
stamps_from-front (e ∷ events) k bytes h =
    ap (λ s. command_stamp e s ++ stamps_from events (drop 32 (take k bytes))) (stamp_at-front k bytes (omega arith))
    ∙ ap (λ xs. command_stamp e (stamp_at bytes) ++ stamps_from events xs) (drop-front 32 k bytes (omega arith))
    ∙ ap (λ xs. command_stamp e (stamp_at bytes) ++ xs) (stamps_from-front events (k - 32) (drop 32 bytes) (omega arith))

pub stamps_from-same : (events : List Event) (c d : List ℕ) → take (32 * length events) c ≡ take (32 * length events) d → stamps_from events c ≡ stamps_from events d
stamps_from-same events c d same =
    sym (stamps_from-front events (32 * length events) c (omega arith))
    ∙ ap (λ xs. stamps_from events xs) same
    ∙ stamps_from-front events (32 * length events) d (omega arith)

pub stamps_from-append : (xs ys : List Event) (bytes : List ℕ) → stamps_from (xs ++ ys) bytes ≡ stamps_from xs bytes ++ stamps_from ys (drop (32 * length xs) bytes)
unfolding stamps_from
stamps_from-append [] ys bytes = refl
stamps_from-append (x ∷ xs) ys bytes =
    ap (λ rest. command_stamp x (stamp_at bytes) ++ rest) (stamps_from-append xs ys (drop 32 bytes))
    ∙ sym (append_assoc (command_stamp x (stamp_at bytes)) (stamps_from xs (drop 32 bytes)) (stamps_from ys (drop (32 * length xs) (drop 32 bytes))))
    ∙ ap (λ rest. command_stamp x (stamp_at bytes) ++ stamps_from xs (drop 32 bytes) ++ stamps_from ys rest)
    (drop-drop (32 * length xs) 32 bytes ∙ ap (λ k. drop k bytes) (omega arith))

-- one more
pub stamps_from-last : (events : List Event) (e : Event) (bytes : List ℕ)
    → stamps_from (events ++ e ∷ []) bytes ≡ stamps_from events bytes ++ command_stamp e (stamp_at (drop (32 * length events) bytes))
unfolding stamps_from
stamps_from-last events e bytes =
    stamps_from-append events (e ∷ []) bytes
    ∙ ap (λ xs. stamps_from events bytes ++ xs) (append-nil (command_stamp e (stamp_at (drop (32 * length events) bytes))))

-- ---- of an image

pub stamps_in-is : (image : List ℕ) (events : List Event) → (found_in image).events ≡ events → stamps_in image ≡ stamps_from events (drop 64 image)
unfolding stamps_in
stamps_in-is image events e = ap (λ es. stamps_from es (drop 64 image)) e

-- the same events whose records have the same bytes
pub stamps_in-same : (c d : List ℕ) (events : List Event) → (found_in c).events ≡ events → (found_in d).events ≡ events
    → take (32 * length events) (drop 64 c) ≡ take (32 * length events) (drop 64 d) → stamps_in c ≡ stamps_in d
stamps_in-same c d events of_c of_d same =
    stamps_in-is c events of_c ∙ stamps_from-same events (drop 64 c) (drop 64 d) same ∙ sym (stamps_in-is d events of_d)

-- the first bytes of an image tell them
pub stamps_in-front : (k : ℕ) (image : List ℕ) → 33554497 ≤ k → stamps_in (take k image) ≡ stamps_in image
stamps_in-front k image h =
    let events = (found_in image).events in
    let few : length events ≤ 1048576 = length-found_in image events refl in
    stamps_in-is (take k image) events (ap (λ f. f.events) (found_in-front k image h))
    ∙ ap (λ xs. stamps_from events xs) (drop-front 64 k image (omega arith))
    ∙ stamps_from-front events (k - 64) (drop 64 image) (omega arith)
    ∙ sym (stamps_in-is image events refl)

-- ---- a loop over records

pub all-stamps : (image : List ℕ) → stamps_from (found_from 1048576 1 (drop 64 image)).events (drop 64 image) ≡ stamps_in image
unfolding stamps_in found_in
all-stamps image = refl

pub stamps-closed : (more number : ℕ) (bytes : List ℕ) → IsTrue (is_closed bytes) → stamps_from (found_from more number bytes).events bytes ≡ []
unfolding stamps_from
stamps-closed more number bytes h = ap (λ f. stamps_from f.events bytes) (found_from-closed more number bytes h)

pub stamps-broken : (number : ℕ) (bytes : List ℕ) → number < too_many → IsFalse (is_closed bytes) → whole_record bytes ≡ None
    → stamps_from (found_from (too_many - number) number bytes).events bytes ≡ []
unfolding stamps_from
stamps-broken number bytes below opens whole =
    let left : too_many - number ≡ suc (too_many - (number + 1)) = omega arith in
    ap (λ more. stamps_from (found_from more number bytes).events bytes) left
    ∙ ap (λ f. stamps_from f.events bytes) (found_from-broken (too_many - (number + 1)) number bytes opens whole)

pub stamps-taken : (number : ℕ) (bytes : List ℕ) (e : Event) → number < too_many → IsFalse (is_closed bytes) → whole_record bytes ≡ Some e
    → stamps_from (found_from (too_many - number) number bytes).events bytes
    ≡ command_stamp e (stamp_at bytes) ++ stamps_from (found_from (too_many - (number + 1)) (number + 1) (drop 32 bytes)).events (drop 32 bytes)
unfolding stamps_from
stamps-taken number bytes e below opens whole =
    let left : too_many - number ≡ suc (too_many - (number + 1)) = omega arith in
    ap (λ more. stamps_from (found_from more number bytes).events bytes) left
    ∙ ap (λ f. stamps_from f.events bytes) (found_from-taken (too_many - (number + 1)) number bytes e opens whole)

pub stamps-ended : (number : ℕ) (bytes : List ℕ) → number ≡ too_many → stamps_from (found_from (too_many - number) number bytes).events bytes ≡ []
unfolding stamps_from
stamps-ended number bytes end =
    ap (λ n. stamps_from (found_from (too_many - n) n bytes).events bytes) end ∙ by (is_closed bytes) refl where
      by : (b : Bool) → is_closed bytes ≡ b → stamps_from (found_from 0 too_many bytes).events bytes ≡ []
      by true h = stamps-closed 0 too_many bytes h
      by false h = ap (λ f. stamps_from f.events bytes) (found_from-full too_many bytes h)

-- an event has a stamp exactly where it is a command
pub length-command_stamp : (e : Event) (stamp : ℕ) → length (command_stamp e stamp) ≡ count_by has_stamp (e ∷ [])
length-command_stamp (event.Tick t) stamp = refl
length-command_stamp (event.Command n) stamp = refl
length-command_stamp (event.OpenSet s) stamp = refl
length-command_stamp (event.Stage s n) stamp = refl
length-command_stamp (event.CloseSet s o) stamp = refl
length-command_stamp (event.LetOut r) stamp = refl
length-command_stamp (event.Started r p) stamp = refl
length-command_stamp (event.Ended r o x) stamp = refl
length-command_stamp event.Resume stamp = refl
length-command_stamp (event.Interrupt r) stamp = refl

-- so many have one with one event more
pub counted-more : (events : List Event) (stamps : List ℕ) (e : Event) (stamp : ℕ) → length stamps ≡ count_by has_stamp events
    → length (stamps ++ command_stamp e stamp) ≡ count_by has_stamp (events ++ e ∷ [])
counted-more events stamps e stamp h =
    length-append stamps (command_stamp e stamp)
    ∙ ap (λ n. n + length (command_stamp e stamp)) h
    ∙ ap (λ n. count_by has_stamp events + n) (length-command_stamp e stamp)
    ∙ sym (sum_by-append (λ x. cond (has_stamp x) 1 0) events (e ∷ []))

-- they count in version 2 alone
pub HasStamps-from : (version : Version) (stamps more c d : List ℕ) → (stamps_in d ≡ stamps → stamps_in c ≡ more) → HasStamps version stamps d → HasStamps version more c
HasStamps-from One stamps more c d goes h = tt
HasStamps-from Two stamps more c d goes h = goes h
