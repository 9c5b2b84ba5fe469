-- Records that are found piece by piece.
use Rattle.std.proofs.Common.{◌≡◌, ◌∙◌, ℕ, ◌+◌, ◌*◌, ◌-◌, ◌<◌, ◌≤◌, Bool, true, false, List, [], ◌∷◌, ◌++◌, Some, None, length, take, drop, refl, sym, ap, arith, IsTrue, IsFalse}
use Rattle.std.specs.Prelude.{cond, count_by, nat_le}
use Rattle.std.proofs.lemmas.Bool.Decides.{nat_tests}
use Rattle.std.proofs.lemmas.List.{append-nil, append_assoc, drop-drop, length-append, length-drop}
use Rattle.conc_types.specs.declared.event.Event.{Event}
use Rattle.conc_journal_image.specs.Fields.{command_stamp, event_in, has_stamp}
use Rattle.conc_journal_image.specs.Finding.{AreAll, AreCounted, AreFirst, Begins, left_behind}
use Rattle.conc_journal_image.specs.Image.{found_from, is_closed, stamp_at, stamps_from, whole_record, with_events}
use Rattle.conc_journal_image.specs.Image.{Found as FoundThere}
use Rattle.conc_journal_image.specs.declared.found.Found.{Found}
use Rattle.conc_journal_image.proofs.Finding.{all-found, found_from-full, loop-broken, loop-closed, loop-taken, too_many}
use Rattle.conc_journal_image.proofs.Fronts.{drop-front, is_closed-front, whole_record-front}
use Rattle.conc_journal_image.proofs.Stamps.{all-stamps, counted-more, stamp_at-front, stamps-broken, stamps-closed, stamps-taken}

-- what is found behind so many events
abbrev behind : ℕ → List ℕ → FoundThere
behind n left = found_from (1048576 - n) (n + 1) left

abbrev place : ℕ → ℕ
place n = 64 + 32 * n

-- ---- no record so far

pub first-none : (image : List ℕ) (found : Found) → found.events.items ≡ [] → found.stamps.items ≡ [] → AreFirst image found
first-none image found none none' =
    let all : List Event → FoundThere = λ es. with_events es (behind (length es) (drop (place (length es)) image)) in
    let stamps : List ℕ → List Event → List ℕ = λ ss es. ss ++ stamps_from (behind (length es) (drop (place (length es)) image)).events (drop (place (length es)) image) in
    record {
      events = ap all none ∙ all-found image;
      stamps = ap (λ ss. stamps ss found.events.items) none' ∙ ap (λ es. stamps [] es) none ∙ all-stamps image;
    }

-- ---- what the bytes tell of what is left

closed-same : (bytes left : List ℕ) → Begins bytes left → 1 ≤ length bytes → is_closed left ≡ is_closed bytes
closed-same bytes left is some = sym (is_closed-front (length bytes) left some) ∙ ap (λ xs. is_closed xs) (sym is)

whole-same : (bytes left : List ℕ) → Begins bytes left → 33 ≤ length bytes → whole_record left ≡ whole_record bytes
whole-same bytes left is long = sym (whole_record-front (length bytes) left long) ∙ ap (λ xs. whole_record xs) (sym is)

stamp-same : (bytes left : List ℕ) → Begins bytes left → 33 ≤ length bytes → stamp_at left ≡ stamp_at bytes
stamp-same bytes left is long = sym (stamp_at-front (length bytes) left (omega arith)) ∙ ap (λ xs. stamp_at xs) (sym is)

none-left : (stamps rest all : List ℕ) → rest ≡ [] → stamps ++ rest ≡ all → all ≡ stamps
none-left stamps rest all none h = sym h ∙ ap (λ xs. stamps ++ xs) none ∙ append-nil stamps

-- ---- the end

closed-ends : (image : List ℕ) (found : Found) → AreFirst image found → IsTrue (is_closed (left_behind image found)) → AreAll image found None
closed-ends image found first closed =
    let n = length found.events.items in
    let left = left_behind image found in
    record {
      events = sym first.events ∙ loop-closed found.events.items (1048576 - n) (n + 1) left closed;
      stamps = none-left found.stamps.items _ _ (stamps-closed (1048576 - n) (n + 1) left closed) first.stamps;
    }

no-stamps : (left : List ℕ) → stamps_from [] left ≡ []
unfolding stamps_from
no-stamps left = refl

full-ends : (image : List ℕ) (found : Found) → AreFirst image found → length found.events.items ≡ 1048576 → IsFalse (is_closed (left_behind image found)) → AreAll image found (Some (length found.events.items + 1))
full-ends image found first full opens =
    let n = length found.events.items in
    let left = left_behind image found in
    let none : 1048576 - n ≡ 0 = omega (arith, full) in
    let ends : behind n left ≡ found_from 0 (n + 1) left = ap (λ m. found_from m (n + 1) left) none in
    record {
      events =
          sym first.events
          ∙ ap (λ f. with_events found.events.items f) (ends ∙ found_from-full (n + 1) left opens)
          ∙ ap (λ es. record { events = es; broken = Some (n + 1) }) (append-nil found.events.items);
      stamps = none-left found.stamps.items _ _ (ap (λ f. stamps_from f.events left) (ends ∙ found_from-full (n + 1) left opens) ∙ no-stamps left) first.stamps;
    }

broken-ends : (image : List ℕ) (found : Found) → AreFirst image found → length found.events.items < 1048576 → IsFalse (is_closed (left_behind image found)) → whole_record (left_behind image found) ≡ None
    → AreAll image found (Some (length found.events.items + 1))
broken-ends image found first few opens none =
    let n = length found.events.items in
    let left = left_behind image found in
    let more : 1048576 - n ≡ too_many - (n + 1) = omega arith in
    record {
      events =
          sym first.events
          ∙ ap (λ m. with_events found.events.items (found_from m (n + 1) left)) more
          ∙ loop-broken found.events.items (n + 1) left (omega arith) opens none;
      stamps =
          none-left found.stamps.items _ _
          (ap (λ m. stamps_from (found_from m (n + 1) left).events left) more ∙ stamps-broken (n + 1) left (omega arith) opens none)
          first.stamps;
    }

-- ---- one record

pub leads-closed : (image bytes : List ℕ) (found : Found) → AreFirst image found → Begins bytes (left_behind image found) → 33 ≤ length bytes → IsTrue (is_closed bytes) → AreAll image found None
leads-closed image bytes found first is long closed =
    closed-ends image found first (closed-same bytes (left_behind image found) is (omega arith) ∙ closed)

pub leads-full : (image bytes : List ℕ) (found : Found) → AreFirst image found → Begins bytes (left_behind image found) → 33 ≤ length bytes → IsFalse (is_closed bytes) → length found.events.items ≡ 1048576
    → AreAll image found (Some (length found.events.items + 1))
leads-full image bytes found first is long opens full =
    full-ends image found first full (closed-same bytes (left_behind image found) is (omega arith) ∙ opens)

pub leads-broken : (image bytes : List ℕ) (found : Found) → AreFirst image found → Begins bytes (left_behind image found) → 33 ≤ length bytes → IsFalse (is_closed bytes) → length found.events.items < 1048576
    → whole_record bytes ≡ None → AreAll image found (Some (length found.events.items + 1))
leads-broken image bytes found first is long opens few none =
    let left = left_behind image found in
    broken-ends image found first few (closed-same bytes left is (omega arith) ∙ opens) (whole-same bytes left is long ∙ none)

pub leads-taken : (image bytes : List ℕ) (old new : Found) (e : Event) → AreFirst image old → Begins bytes (left_behind image old) → 33 ≤ length bytes → IsFalse (is_closed bytes) → length old.events.items < 1048576
    → whole_record bytes ≡ Some e → new.events.items ≡ old.events.items ++ e ∷ [] → new.stamps.items ≡ old.stamps.items ++ command_stamp e (stamp_at bytes) → AreFirst image new
leads-taken image bytes old new e first is long opens few whole events_are stamps_are =
    let n = length old.events.items in
    let left = left_behind image old in
    let opens-left : IsFalse (is_closed left) = closed-same bytes left is (omega arith) ∙ opens in
    let whole-left : whole_record left ≡ Some e = whole-same bytes left is long ∙ whole in
    let count : length new.events.items ≡ n + 1 = ap length events_are ∙ length-append old.events.items (e ∷ []) in
    let more : 1048576 - n ≡ too_many - (n + 1) = omega arith in
    let less : too_many - (n + 1 + 1) ≡ 1048576 - (n + 1) = omega arith in
    let next : drop 32 left ≡ drop (place (n + 1)) image = drop-drop 32 (place n) image ∙ ap (λ k. drop k image) (omega arith) in
    let rest : FoundThere = behind (n + 1) (drop (place (n + 1)) image) in
    let there : found_from (too_many - (n + 1 + 1)) (n + 1 + 1) (drop 32 left) ≡ rest =
    ap (λ m. found_from m (n + 1 + 1) (drop 32 left)) less ∙ ap (λ xs. found_from (1048576 - (n + 1)) (n + 1 + 1) xs) next in
    let at : (k : ℕ) → List Event → FoundThere = λ k es. with_events es (behind k (drop (place k) image)) in
    let stamps-at : (k : ℕ) → List ℕ → List ℕ = λ k ss. ss ++ stamps_from (behind k (drop (place k) image)).events (drop (place k) image) in
    record {
      events =
          ap (λ k. at k new.events.items) count
          ∙ ap (λ es. at (n + 1) es) events_are
          ∙ ap (λ f. with_events (old.events.items ++ e ∷ []) f) (sym there)
          ∙ sym (loop-taken old.events.items (n + 1) left e (omega arith) opens-left whole-left)
          ∙ ap (λ m. with_events old.events.items (found_from m (n + 1) left)) (sym more)
          ∙ first.events;
      stamps =
          ap (λ k. stamps-at k new.stamps.items) count
          ∙ ap (λ ss. stamps-at (n + 1) ss) (stamps_are ∙ ap (λ s. old.stamps.items ++ command_stamp e s) (sym (stamp-same bytes left is long)))
          ∙ append_assoc old.stamps.items (command_stamp e (stamp_at left)) (stamps_from rest.events (drop (place (n + 1)) image))
          ∙ ap (λ f. old.stamps.items ++ (command_stamp e (stamp_at left) ++ stamps_from f.events (drop (place (n + 1)) image))) (sym there)
          ∙ ap (λ xs. old.stamps.items ++ (command_stamp e (stamp_at left) ++ stamps_from (found_from (too_many - (n + 1 + 1)) (n + 1 + 1) (drop 32 left)).events xs)) (sym next)
          ∙ ap (λ xs. old.stamps.items ++ xs) (sym (stamps-taken (n + 1) left e (omega arith) opens-left whole-left))
          ∙ ap (λ m. old.stamps.items ++ stamps_from (found_from m (n + 1) left).events left) (sym more)
          ∙ first.stamps;
    }

pub counted-taken : (old new : Found) (e : Event) (stamp : ℕ) → AreCounted old → length old.events.items < 1048576
    → new.events.items ≡ old.events.items ++ e ∷ [] → new.stamps.items ≡ old.stamps.items ++ command_stamp e stamp → AreCounted new
counted-taken old new e stamp counted few events_are stamps_are = record {
  few = omega (arith, ap length events_are, length-append old.events.items (e ∷ []));
  stamped =
      ap length stamps_are
      ∙ counted-more old.events.items old.stamps.items e stamp counted.stamped
      ∙ sym (ap (λ es. count_by has_stamp es) events_are);
}

-- ---- the bytes behind

-- what follows the records that were taken of the bytes begins what is left behind these
pub begins-behind : (image bytes rest : List ℕ) (old new : Found) (k : ℕ) → Begins bytes (left_behind image old) → k + 32 * length old.events.items ≡ 32 * length new.events.items → k ≤ length bytes
    → rest ≡ drop k bytes → Begins rest (left_behind image new)
begins-behind image bytes rest old new k is count within rest_is =
    let left = left_behind image old in
    let there : drop k left ≡ left_behind image new = drop-drop k (place (length old.events.items)) image ∙ ap (λ m. drop m image) (omega arith) in
    let size : length rest ≡ length bytes - k = ap length rest_is ∙ length-drop k bytes in
    rest_is
    ∙ ap (λ xs. drop k xs) is
    ∙ drop-front k (length bytes) left within
    ∙ ap (λ xs. take (length bytes - k) xs) there
    ∙ ap (λ m. take m (left_behind image new)) (sym size)

-- ---- the last bytes

not-whole : (bytes : List ℕ) → length bytes < 33 → whole_record bytes ≡ None
not-whole bytes short =
    let no : nat_le 33 (length bytes) ≡ false = grind (arith, nat_tests) in
    ap (λ b. cond b (event_in (take 31 (drop 1 bytes))) None) no

pub ends-closed : (image bytes : List ℕ) (found : Found) → AreFirst image found → bytes ≡ left_behind image found → IsTrue (is_closed bytes) → AreAll image found None
ends-closed image bytes found first is closed = closed-ends image found first (ap (λ xs. is_closed xs) (sym is) ∙ closed)

pub ends-broken : (image bytes : List ℕ) (found : Found) → AreCounted found → AreFirst image found → bytes ≡ left_behind image found → length bytes < 33 → IsFalse (is_closed bytes)
    → AreAll image found (Some (length found.events.items + 1))
ends-broken image bytes found counted first is short opens =
    let left = left_behind image found in
    let opens-left : IsFalse (is_closed left) = ap (λ xs. is_closed xs) (sym is) ∙ opens in
    let none : whole_record left ≡ None = ap (λ xs. whole_record xs) (sym is) ∙ not-whole bytes short in
    by (nat_le (length found.events.items) 1048575) refl opens-left none
  where
    by : (b : Bool) → nat_le (length found.events.items) 1048575 ≡ b → IsFalse (is_closed (left_behind image found)) → whole_record (left_behind image found) ≡ None
        → AreAll image found (Some (length found.events.items + 1))
    by true less opens-left none = broken-ends image found first (grind (arith, nat_tests)) opens-left none
    by false more opens-left none = full-ends image found first (grind (arith, nat_tests, counted.few)) opens-left
