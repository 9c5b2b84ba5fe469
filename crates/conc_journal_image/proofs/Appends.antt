-- What stays of a journal while a record is added. With n events the gate of the next record is byte 64 + 32n.
use Rattle.std.proofs.Common.{◌≡◌, ◌≢◌, ◌⊎◌, inl, inr, ℕ, suc, ◌+◌, ◌*◌, ◌-◌, ◌<◌, ◌≤◌, ◌==◌, true, List, [], ◌∷◌, ◌++◌, Some, None, length, get_or, take, drop, refl, sym, ap, ◌∙◌, arith, IsTrue, IsFalse}
use Rattle.std.specs.Prelude.{codes, cond, nat_le, not, slice_index, ◌&&◌}
use Rattle.std.specs.Str.{bytes_eq}
use Rattle.std.proofs.lemmas.Bool.Decides.{nat_tests}
use Rattle.std.proofs.lemmas.Bool.{cases_eq, eqb-true}
use Rattle.std.proofs.lemmas.List.{append-nil, drop-drop, get_or-drop, get_or-take, get_or_at, length-append, length-drop, length-take, take_at, take-take}
use Rattle.conc_types.specs.declared.event.Event.{Event}
use Rattle.conc_journal_image.specs.declared.label.Label.{Label}
use Rattle.conc_journal_image.specs.declared.label.Version.{Version}
use Rattle.conc_journal_image.specs.declared.label.Version.TheVariants.{One, Two}
use Rattle.conc_journal_image.specs.Fields.{command_stamp, event_in, IsSpelling}
use Rattle.conc_journal_image.specs.Image.{base_in, digest_in, found_from, found_in, has_header, HasNext, is_closed, IsJournal, IsLabelled, label_in, stamp_at, stamps_from, stamps_in, Tells, version_in, whole_record, with_event, with_events}
use Rattle.conc_journal_image.proofs.Finding.{found_from-closed, found_from-taken}
use Rattle.conc_journal_image.proofs.Fronts.{is_closed-front, label_in-front, part-front}
use Rattle.conc_journal_image.proofs.Stamps.{HasStamps-from, stamp_at-record, stamps_from-last, stamps_from-same, stamps_in-is, stamps_in-same}
use Rattle.conc_journal_image.proofs.Writes.{drop-written, part-written, take-written}
use Rattle.conc_journal_image.proofs.Unique.{length-spelled}
use Rattle.conc_journal_image.proofs.Runs.{closed-behind, length-found_in, length-records, run, whole}

-- ---- the length of a journal

pub has_header-long : (image : List ℕ) → IsTrue (has_header image) → 65 ≤ length image
unfolding has_header
has_header-long image h = grind (arith, nat_tests)

pub length-events : (label : Label) (stamps : List ℕ) (events : List Event) (image : List ℕ) → IsJournal label stamps events image → length events ≤ 1048576
length-events label stamps events image j = length-found_in image events (sym (ap (λ f. f.events) j.found))

pub length-journal : (label : Label) (stamps : List ℕ) (events : List Event) (image : List ℕ) → IsJournal label stamps events image → 64 + 32 * length events + 1 ≤ length image
unfolding found_in
length-journal label stamps events image j =
    let long = has_header-long image j.header in
    let behind = length-drop 64 image in
    omega (arith, length-records 1048576 1 (drop 64 image) events j.found (omega arith))

-- ---- the same header and the same events

-- the title of an image with the same first 16 bytes
pub title-same : (c d : List ℕ) → take 16 c ≡ take 16 d → 65 ≤ length c → 65 ≤ length d → has_header c ≡ has_header d
unfolding has_header
title-same c d same long_c long_d =
    let title = codes "conc journal 1\n" in
    let has_c : nat_le 65 (length c) ≡ true = grind (arith, nat_tests) in
    let has_d : nat_le 65 (length d) ≡ true = grind (arith, nat_tests) in
    let gate : is_closed c ≡ is_closed d = sym (is_closed-front 16 c (omega arith)) ∙ ap (λ xs. is_closed xs) same ∙ is_closed-front 16 d (omega arith) in
    let named : take 15 (drop 1 c) ≡ take 15 (drop 1 d) =
    sym (part-front 1 15 16 c (omega arith)) ∙ ap (λ xs. take 15 (drop 1 xs)) same ∙ part-front 1 15 16 d (omega arith) in
    ap (λ b. b && (not (is_closed c) && bytes_eq (take 15 (drop 1 c)) title)) (has_c ∙ sym has_d)
    ∙ ap (λ b. nat_le 65 (length d) && (not b && bytes_eq (take 15 (drop 1 c)) title)) gate
    ∙ ap (λ xs. nat_le 65 (length d) && (not (is_closed d) && bytes_eq xs title)) named

-- the header of an image with the same first 64 bytes
pub header-same : (c d : List ℕ) → take 64 c ≡ take 64 d → 65 ≤ length c → 65 ≤ length d → has_header c ≡ has_header d
header-same c d same long_c long_d =
    title-same c d (sym (take-take 16 64 c (omega arith)) ∙ ap (λ xs. take 16 xs) same ∙ take-take 16 64 d (omega arith)) long_c long_d

pub label-same : (c d : List ℕ) → take 64 c ≡ take 64 d → label_in c ≡ label_in d
label-same c d same = sym (label_in-front 64 c (omega arith)) ∙ ap (λ xs. label_in xs) same ∙ label_in-front 64 d (omega arith)

-- what counts in a version
pub tells-from : (version : Version) (label : Label) (c d : List ℕ) → digest_in c ≡ digest_in d → base_in c ≡ base_in d → Tells version label d → Tells version label c
tells-from One label c d digest base h = digest ∙ h
tells-from Two label c d digest base h = base ∙ h

pub labelled-from : (label : Label) (c d : List ℕ) → version_in c ≡ version_in d → digest_in c ≡ digest_in d → base_in c ≡ base_in d → IsLabelled label d → IsLabelled label c
labelled-from label c d version digest base h = record { version = version ∙ h.version; tells = tells-from label.version label c d digest base h.tells }

labelled-same : (label : Label) (c d : List ℕ) → take 64 c ≡ take 64 d → IsLabelled label d → IsLabelled label c
labelled-same label c d same h =
    let e = label-same c d same in
    labelled-from label c d (ap (λ l. l.version) e) (ap (λ l. l.digest) e) (ap (λ l. l.base) e) h

-- the records up to the gate behind the last
records-same : (n : ℕ) (c d : List ℕ) → take (64 + 32 * n) c ≡ take (64 + 32 * n) d → take (32 * n) (drop 64 c) ≡ take (32 * n) (drop 64 d)
records-same n c d same =
    sym (part-front 64 (32 * n) (64 + 32 * n) c (omega arith))
    ∙ ap (λ xs. take (32 * n) (drop 64 xs)) same
    ∙ part-front 64 (32 * n) (64 + 32 * n) d (omega arith)

-- an image with the same bytes up to the gate behind the last record, and that gate
found-same : (label : Label) (stamps : List ℕ) (events : List Event) (d c : List ℕ) → IsJournal label stamps events d
    → take (64 + 32 * length events) c ≡ take (64 + 32 * length events) d → 64 + 32 * length events < length c
    → found_in c ≡ with_events events (found_from (1048576 - length events) (1 + length events) (drop (64 + 32 * length events) c))
unfolding found_in
found-same label stamps events d c j same long =
    let few : length events ≤ 1048576 = length-events label stamps events d j in
    run
    1048576 1 (1048576 - length events) (32 * length events) (1 + length events) (drop 64 d) (drop 64 c) events
    j.found (omega arith) refl refl (records-same (length events) c d same) (omega (arith, length-drop 64 c))
    ∙ ap (λ xs. with_events events (found_from (1048576 - length events) (1 + length events) xs)) (drop-drop (32 * length events) 64 c)

-- with these events and stamps it is a journal too
journal-same : (label : Label) (stamps further : List ℕ) (events more : List Event) (d c : List ℕ) → IsJournal label stamps events d
    → take (64 + 32 * length events) c ≡ take (64 + 32 * length events) d → 64 + 32 * length events < length c
    → found_in c ≡ whole more → (stamps_in d ≡ stamps → stamps_in c ≡ further) → IsJournal label further more c
journal-same label stamps further events more d c j same long found stamped =
    let front : take 64 c ≡ take 64 d =
    sym (take-take 64 (64 + 32 * length events) c (omega arith)) ∙ ap (λ xs. take 64 xs) same ∙ take-take 64 (64 + 32 * length events) d (omega arith) in
    record {
      header = header-same c d front (omega arith) (has_header-long d j.header) ∙ j.header;
      labelled = labelled-same label c d front j.labelled;
      found = found;
      stamped = HasStamps-from label.version stamps further c d stamped j.stamped;
    }

-- the stamps of the same events
same-stamps : (label : Label) (stamps : List ℕ) (events : List Event) (d c : List ℕ) → IsJournal label stamps events d
    → take (64 + 32 * length events) c ≡ take (64 + 32 * length events) d → found_in c ≡ whole events → stamps_in d ≡ stamps → stamps_in c ≡ stamps
same-stamps label stamps events d c j same found h =
    stamps_in-same c d events (ap (λ f. f.events) found) (ap (λ f. f.events) j.found) (records-same (length events) c d same) ∙ h

-- ---- the gate of the next record

pub gate_at : (at : ℕ) (c : List ℕ) → slice_index (drop at c) 0 ≡ slice_index c at
gate_at at c = get_or-drop at c 0 0 ∙ ap (λ k. get_or c k 0) (omega arith)

-- a journal's next gate is closed
pub closed-next : (label : Label) (stamps : List ℕ) (events : List Event) (image : List ℕ) → IsJournal label stamps events image → slice_index image (64 + 32 * length events) ≡ 0
unfolding found_in
closed-next label stamps events image j =
    let closed : IsTrue (is_closed (drop (32 * length events) (drop 64 image))) = closed-behind 1048576 1 (32 * length events) (drop 64 image) events j.found refl in
    sym (gate_at (64 + 32 * length events) image)
    ∙ ap (λ xs. slice_index xs 0) (sym (drop-drop (32 * length events) 64 image))
    ∙ eqb-true _ 0 closed

closed-same : (label : Label) (stamps : List ℕ) (events : List Event) (d c : List ℕ) → IsJournal label stamps events d
    → take (64 + 32 * length events) c ≡ take (64 + 32 * length events) d → 64 + 32 * length events < length c
    → slice_index c (64 + 32 * length events) ≡ 0 → IsJournal label stamps events c
closed-same label stamps events d c j same enough closed =
    let at : ℕ = 64 + 32 * length events in
    let gate : IsTrue (is_closed (drop at c)) = ap (λ k. k == 0) (gate_at at c ∙ closed) in
    let found : found_in c ≡ whole events =
    found-same label stamps events d c j same enough
    ∙ ap (λ f. with_events events f) (found_from-closed (1048576 - length events) (1 + length events) (drop at c) gate)
    ∙ ap (λ es. whole es) (append-nil events) in
    journal-same label stamps stamps events events d c j same enough found (same-stamps label stamps events d c j same found)

-- With the same bytes up to the next gate, and that gate closed, it is the same journal, whatever stands behind.
pub closed-stays : (label : Label) (stamps : List ℕ) (events : List Event) (d c : List ℕ) → IsJournal label stamps events d
    → take (64 + 32 * length events) c ≡ take (64 + 32 * length events) d → length d ≤ length c
    → slice_index c (64 + 32 * length events) ≡ 0 → IsJournal label stamps events c
closed-stays label stamps events d c j same long closed = closed-same label stamps events d c j same (omega (arith, length-journal label stamps events d j)) closed

-- With the same bytes up to the next gate and at the gate it is the same journal: the record may hold anything.
pub written-stays : (label : Label) (stamps : List ℕ) (events : List Event) (d c : List ℕ) → IsJournal label stamps events d
    → take (64 + 32 * length events + 1) c ≡ take (64 + 32 * length events + 1) d → IsJournal label stamps events c
written-stays label stamps events d c j same =
    let at : ℕ = 64 + 32 * length events in
    let long : at + 1 ≤ length d = length-journal label stamps events d j in
    let enough : at < length c = omega (arith, length-take (at + 1) c, length-take (at + 1) d, ap length same) in
    let before : take at c ≡ take at d = sym (take-take at (at + 1) c (omega arith)) ∙ ap (λ xs. take at xs) same ∙ take-take at (at + 1) d (omega arith) in
    let gate : slice_index c at ≡ 0 =
    sym (get_or-take (at + 1) c at 0 (omega arith)) ∙ ap (λ xs. get_or xs at 0) same ∙ get_or-take (at + 1) d at 0 (omega arith) ∙ closed-next label stamps events d j in
    closed-same label stamps events d c j before enough gate

-- ---- the record behind the gate

-- from an open gate on
opened-record : (c : List ℕ) (at : ℕ) (bytes : List ℕ) (e : Event) (left number : ℕ) → event_in bytes ≡ Some e → take 32 (drop (at + 1) c) ≡ bytes ++ 0 ∷ []
    → slice_index c at ≢ 0 → found_from (suc left) number (drop at c) ≡ whole (e ∷ [])
opened-record c at bytes e left number spelled here open_gate =
    let x : List ℕ = drop at c in
    let y : List ℕ = drop (at + 1) c in
    let behind : drop 1 x ≡ y = drop-drop 1 at c in
    let size : length bytes ≡ 31 = length-spelled bytes e spelled in
    let long_y : 32 ≤ length y = omega (arith, length-take 32 y, ap length here, length-append bytes (0 ∷ [])) in
    let long_x : 33 ≤ length x = omega (arith, length-drop at c, length-drop (at + 1) c) in
    let has : nat_le 33 (length x) ≡ true = grind (arith, nat_tests) in
    let first : slice_index x 0 ≡ slice_index c at = gate_at at c in
    let opens : IsFalse (is_closed x) = grind (arith, nat_tests) in
    let spelling : take 31 (drop 1 x) ≡ bytes =
    ap (λ xs. take 31 xs) behind ∙ sym (take-take 31 32 y (omega arith)) ∙ ap (λ xs. take 31 xs) here ∙ take_at bytes (0 ∷ []) 31 size in
    let taken : whole_record x ≡ Some e = ap (λ b. cond b (event_in (take 31 (drop 1 x))) None) has ∙ ap (λ xs. event_in xs) spelling ∙ spelled in
    let next : slice_index (drop 32 x) 0 ≡ 0 =
    ap (λ xs. slice_index xs 0) (sym (drop-drop 31 1 x) ∙ ap (λ xs. drop 31 xs) behind)
    ∙ gate_at 31 y ∙ sym (get_or-take 32 y 31 0 (omega arith)) ∙ ap (λ xs. get_or xs 31 0) here ∙ get_or_at bytes 0 [] 0 31 size in
    found_from-taken left number x e opens taken
    ∙ ap (λ f. with_event e f) (found_from-closed left (number + 1) (drop 32 x) (ap (λ k. k == 0) next))

-- With the gate open, the event stands behind those of the journal, and its stamp behind their stamps.
pub opened-adds : (label : Label) (stamps : List ℕ) (events : List Event) (e : Event) (stamp : ℕ) (d c : List ℕ) → IsJournal label stamps events d
    → length events < 1048576 → HasNext events e stamp d
    → take (64 + 32 * length events) c ≡ take (64 + 32 * length events) d
    → drop (64 + 32 * length events + 1) c ≡ drop (64 + 32 * length events + 1) d
    → slice_index c (64 + 32 * length events) ≢ 0 → IsJournal label (stamps ++ command_stamp e stamp) (events ++ e ∷ []) c
opened-adds label stamps events e stamp d c j room p before after open_gate =
    let at : ℕ = 64 + 32 * length events in
    let size : length p.bytes ≡ 31 = length-spelled p.bytes e p.spelled.event_is in
    let here : take 32 (drop (at + 1) c) ≡ p.bytes ++ 0 ∷ [] = ap (λ xs. take 32 xs) after ∙ p.here in
    let enough : at < length c = omega (arith, length-take 32 (drop (at + 1) c), ap length here, length-append p.bytes (0 ∷ []), length-drop (at + 1) c) in
    let left : 1048576 - length events ≡ suc (1048576 - (length events + 1)) = omega arith in
    let found : found_in c ≡ whole (events ++ e ∷ []) =
    found-same label stamps events d c j before enough
    ∙ ap (λ n. with_events events (found_from n (1 + length events) (drop at c))) left
    ∙ ap (λ f. with_events events f) (opened-record c at p.bytes e (1048576 - (length events + 1)) (1 + length events) p.spelled.event_is here open_gate) in
    let last : command_stamp e (stamp_at (drop (32 * length events) (drop 64 c))) ≡ command_stamp e stamp =
    ap (λ xs. command_stamp e (stamp_at xs)) (drop-drop (32 * length events) 64 c)
    ∙ ap (λ s. command_stamp e s) (stamp_at-record at p.bytes c size here)
    ∙ p.spelled.stamp_is in
    let stamped : stamps_in d ≡ stamps → stamps_in c ≡ stamps ++ command_stamp e stamp =
    λ h. stamps_in-is c (events ++ e ∷ []) (ap (λ f. f.events) found)
    ∙ stamps_from-last events e (drop 64 c)
    ∙ ap (λ xs. stamps_from events (drop 64 c) ++ xs) last
    ∙ ap (λ xs. xs ++ command_stamp e stamp)
    (stamps_from-same events (drop 64 c) (drop 64 d) (records-same (length events) c d before) ∙ sym (stamps_in-is d events (ap (λ f. f.events) j.found)) ∙ h) in
    journal-same label stamps (stamps ++ command_stamp e stamp) events (events ++ e ∷ []) d c j before enough found stamped

-- Whatever the gate holds, the journal is as before or has the event too.
pub gate-either : (label : Label) (stamps : List ℕ) (events : List Event) (e : Event) (stamp : ℕ) (d c : List ℕ) → IsJournal label stamps events d
    → length events < 1048576 → HasNext events e stamp d
    → take (64 + 32 * length events) c ≡ take (64 + 32 * length events) d
    → drop (64 + 32 * length events + 1) c ≡ drop (64 + 32 * length events + 1) d
    → length d ≤ length c
    → IsJournal label stamps events c ⊎ IsJournal label (stamps ++ command_stamp e stamp) (events ++ e ∷ []) c
gate-either label stamps events e stamp d c j room p before after long =
    elim (cases_eq (slice_index c (64 + 32 * length events)) 0) [
      | inl closed ↦ inl (closed-stays label stamps events d c j before long closed)
      | inr opened ↦ inr (opened-adds label stamps events e stamp d c j room p before after opened)
    ]

-- ---- after the writes

-- behind the gate
pub record-written : (label : Label) (stamps : List ℕ) (events : List Event) (e : Event) (stamp : ℕ) (bytes old rest : List ℕ) → IsJournal label stamps events old → IsSpelling e stamp bytes
    → let new = take (64 + 32 * length events + 1) old ++ (bytes ++ 0 ∷ []) ++ rest in IsJournal label stamps events new × HasNext events e stamp new
record-written label stamps events e stamp bytes old rest j spelled =
    let at : ℕ = 64 + 32 * length events + 1 in
    let long : at ≤ length old = length-journal label stamps events old j in
    let size : length bytes ≡ 31 = length-spelled bytes e spelled.event_is in
    let two : length (bytes ++ 0 ∷ []) ≡ 32 = omega (arith, length-append bytes (0 ∷ [])) in
    let here : take 32 (drop at (take at old ++ (bytes ++ 0 ∷ []) ++ rest)) ≡ bytes ++ 0 ∷ [] =
    ap (λ n. take n (drop at (take at old ++ (bytes ++ 0 ∷ []) ++ rest))) (sym two) ∙ part-written at (bytes ++ 0 ∷ []) old rest long in
    (written-stays label stamps events old (take at old ++ (bytes ++ 0 ∷ []) ++ rest) j (take-written at (bytes ++ 0 ∷ []) old rest long), record { bytes = bytes; spelled = spelled; here = here })

-- of the gate
pub gate-written : (label : Label) (stamps : List ℕ) (events : List Event) (e : Event) (stamp gate : ℕ) (old : List ℕ) → IsJournal label stamps events old
    → length events < 1048576 → HasNext events e stamp old → gate ≢ 0
    → IsJournal label (stamps ++ command_stamp e stamp) (events ++ e ∷ []) (take (64 + 32 * length events) old ++ (gate ∷ []) ++ drop (64 + 32 * length events + 1) old)
gate-written label stamps events e stamp gate old j room next opens =
    let at : ℕ = 64 + 32 * length events in
    let long : at ≤ length old = omega (arith, length-journal label stamps events old j) in
    let rest : List ℕ = drop (at + 1) old in
    let first : slice_index (take at old ++ (gate ∷ []) ++ rest) at ≡ gate =
    sym (gate_at at (take at old ++ (gate ∷ []) ++ rest)) ∙ sym (get_or-take 1 (drop at (take at old ++ (gate ∷ []) ++ rest)) 0 0 (omega arith))
    ∙ ap (λ xs. get_or xs 0 0) (part-written at (gate ∷ []) old rest long) in
    opened-adds
    label stamps events e stamp old (take at old ++ (gate ∷ []) ++ rest) j room next
    (take-written at (gate ∷ []) old rest long)
    (drop-written at (gate ∷ []) old rest long)
    (λ closed. opens (sym first ∙ closed))
