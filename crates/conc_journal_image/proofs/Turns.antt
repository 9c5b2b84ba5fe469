-- From version 1 to version 2: stamps and a base digest are written into a journal, and then its version.
use Rattle.std.proofs.Common.{◌≡◌, ◌≢◌, ◌⊎◌, inl, inr, ℕ, zero, suc, ◌+◌, ◌*◌, ◌-◌, ◌^◌, ◌<◌, ◌≤◌, ◌==◌, true, false, List, [], ◌∷◌, ◌++◌, Some, None, length, take, drop, refl, sym, ap, ◌∙◌, subst, arith, IsTrue}
use Rattle.std.specs.Int.{from_be_bytes, to_be_bytes, w64}
use Rattle.std.specs.Prelude.{cond, if◌then◌else◌, nat_le, slice_get, slice_index}
use Rattle.std.proofs.lemmas.Bool.{cases_eq}
use Rattle.std.proofs.lemmas.Bool.Decides.{nat_tests}
use Rattle.std.proofs.lemmas.List.{drop-drop, length-drop, length-take, take-take}
use Rattle.std.proofs.lemmas.Nat.{from_be_bytes-to_be_bytes_8}
use Rattle.conc_types.specs.declared.event.Event.{Event}
use Rattle.conc_types.specs.declared.event.Event.TheVariants as event
use Rattle.conc_journal_image.specs.declared.label.Label.{Label}
use Rattle.conc_journal_image.specs.declared.label.Version.TheVariants.{One, Two}
use Rattle.conc_journal_image.specs.Fields.{event_in}
use Rattle.conc_journal_image.specs.Image.{base_in, digest_in, found_from, found_in, has_header, HasStamps, is_closed, IsJournal, stamp_at, stamps_from, stamps_in, Tells, version_in, whole_record, with_event}
use Rattle.conc_journal_image.proofs.Appends.{gate_at, has_header-long, header-same, labelled-from, label-same, title-same}
use Rattle.conc_journal_image.proofs.Finding.{found_from-taken}
use Rattle.conc_journal_image.proofs.Fronts.{behind-same, drop-front, front-same, is_closed-front, middle-same}
use Rattle.conc_journal_image.proofs.Runs.{found-suc, found-zero, length-whole, whole, whole_record-same}
use Rattle.conc_journal_image.proofs.Stamps.{stamp_at-part, stamps_from-last, stamps_from-same}
use Rattle.conc_journal_image.proofs.Unique.{command_bytes}
use Rattle.conc_journal_image.proofs.Writes.{part-written, take-written}

-- ---- a stamp in a record

-- the record of a command has this event whatever its stamp is
restamped : (c d : List ℕ) (n : ℕ) → length c ≡ length d → take 12 c ≡ take 12 d → drop 20 c ≡ drop 20 d
    → whole_record d ≡ Some (event.Command n) → whole_record c ≡ Some (event.Command n)
restamped c d n long front back h =
    let many : 33 ≤ length d = length-whole d (event.Command n) h in
    let has_c : nat_le 33 (length c) ≡ true = grind (arith, nat_tests) in
    let has_d : nat_le 33 (length d) ≡ true = grind (arith, nat_tests) in
    let spelled : event_in (take 31 (drop 1 d)) ≡ Some (event.Command n) =
    sym (ap (λ b. cond b (event_in (take 31 (drop 1 d))) None) has_d) ∙ h in
    let first : take 11 (drop 1 c) ≡ take 11 (drop 1 d) = middle-same 1 11 12 c d (omega arith) front in
    let same_front : take 11 (take 31 (drop 1 c)) ≡ take 11 (take 31 (drop 1 d)) =
    take-take 11 31 (drop 1 c) (omega arith) ∙ first ∙ sym (take-take 11 31 (drop 1 d) (omega arith)) in
    let behind : drop 19 (drop 1 c) ≡ drop 19 (drop 1 d) = drop-drop 19 1 c ∙ back ∙ sym (drop-drop 19 1 d) in
    let same_back : drop 19 (take 31 (drop 1 c)) ≡ drop 19 (take 31 (drop 1 d)) =
    drop-front 19 31 (drop 1 c) (omega arith) ∙ ap (λ xs. take 12 xs) behind ∙ sym (drop-front 19 31 (drop 1 d) (omega arith)) in
    let size : length (take 31 (drop 1 c)) ≡ 31 = omega (arith, length-take 31 (drop 1 c), length-drop 1 c) in
    ap (λ b. cond b (event_in (take 31 (drop 1 c))) None) has_c
    ∙ command_bytes (take 31 (drop 1 c)) (take 31 (drop 1 d)) n size same_front same_back spelled

nothing : (k : ℕ) (e : Event) → slice_get [] k ≡ Some e → ⊥
nothing zero e h = cc
nothing (suc k) e h = cc

-- the same gate
gate-same : (k : ℕ) (c d : List ℕ) → 1 ≤ k → take k c ≡ take k d → is_closed c ≡ is_closed d
gate-same k c d h same = sym (is_closed-front k c h) ∙ ap (λ xs. is_closed xs) same ∙ is_closed-front k d h

-- So the same events are found where the stamp of the command at a place is another one.
found_from-restamped : (more number k at n : ℕ) (c d : List ℕ) (events : List Event) → found_from more number d ≡ whole events
    → slice_get events k ≡ Some (event.Command n) → at ≡ 32 * k → length c ≡ length d
    → take (at + 12) c ≡ take (at + 12) d → drop (at + 20) c ≡ drop (at + 20) d → found_from more number c ≡ whole events
found_from-restamped zero number k at n c d events h there place long front back =
    absurd (nothing k (event.Command n) (subst (λ es. slice_get es k ≡ Some (event.Command n)) (found-zero number d events h).1 there))
found_from-restamped (suc more) number zero at n c d events h there place long front back =
    elim (found-suc more number d events h) [
      | inl p ↦ absurd (nothing 0 (event.Command n) (subst (λ es. slice_get es 0 ≡ Some (event.Command n)) p.1 there))
      | inr g ↦
          let here : slice_get (g.first ∷ g.others) 0 ≡ Some (event.Command n) = subst (λ es. slice_get es 0 ≡ Some (event.Command n)) g.is there in
          let command : g.first ≡ event.Command n = cc in
          let none : at ≡ 0 = omega arith in
          let front_here : take 12 c ≡ take 12 d = subst (λ k. take (k + 12) c ≡ take (k + 12) d) none front in
          let back_here : drop 20 c ≡ drop 20 d = subst (λ k. drop (k + 20) c ≡ drop (k + 20) d) none back in
          let gate : is_closed c ≡ is_closed d = gate-same 12 c d (omega arith) front_here in
          let is : whole_record c ≡ Some (event.Command n) = restamped c d n long front_here back_here (g.here ∙ ap (λ e. Some e) command) in
          found_from-taken more number c (event.Command n) (gate ∙ g.gate) is
          ∙ ap (λ xs. with_event (event.Command n) (found_from more (number + 1) xs)) (behind-same 20 32 c d (omega arith) back_here)
          ∙ ap (λ f. with_event (event.Command n) f) g.rest
          ∙ ap (λ e. whole (e ∷ g.others)) (sym command)
          ∙ ap (λ es. whole es) (sym g.is)
    ]
found_from-restamped (suc more) number (suc k) at n c d events h there place long front back =
    elim (found-suc more number d events h) [
      | inl p ↦ absurd (nothing (suc k) (event.Command n) (subst (λ es. slice_get es (suc k) ≡ Some (event.Command n)) p.1 there))
      | inr g ↦
          let here : slice_get g.others k ≡ Some (event.Command n) = subst (λ es. slice_get es (suc k) ≡ Some (event.Command n)) g.is there in
          let far : at ≡ 32 + 32 * k = omega arith in
          let front_here : take 32 c ≡ take 32 d = front-same 32 (at + 12) c d (omega arith) front in
          let gate : is_closed c ≡ is_closed d = gate-same 32 c d (omega arith) front_here in
          let many : 33 ≤ length d = length-whole d g.first g.here in
          let is : whole_record c ≡ Some g.first = whole_record-same c d front_here (omega arith) many ∙ g.here in
          let rest : found_from more (number + 1) (drop 32 c) ≡ whole g.others =
          found_from-restamped
          more (number + 1) k (32 * k) n (drop 32 c) (drop 32 d) g.others g.rest here refl
          (length-drop 32 c ∙ ap (λ m. m - 32) long ∙ sym (length-drop 32 d))
          (middle-same 32 (32 * k + 12) (at + 12) c d (omega arith) front)
          (drop-drop (32 * k + 20) 32 c ∙ behind-same (at + 20) (32 + (32 * k + 20)) c d (omega arith) back ∙ sym (drop-drop (32 * k + 20) 32 d)) in
          found_from-taken more number c g.first (gate ∙ g.gate) is
          ∙ ap (λ f. with_event g.first f) rest
          ∙ ap (λ es. whole es) (sym g.is)
    ]

-- ---- of a journal

-- in version 1 no stamp counts
uncounted : (label : Label) (stamps image : List ℕ) → label.version ≡ One → HasStamps label.version stamps image
uncounted label stamps image one = subst (λ v. HasStamps v stamps image) (sym one) tt

-- and the digest tells all
tells-one : (label : Label) (c d : List ℕ) → label.version ≡ One → digest_in c ≡ digest_in d → Tells label.version label d → Tells label.version label c
tells-one label c d one digest h =
    let tells : Tells One label d = subst (λ v. Tells v label d) one h in
    let told : Tells One label c = digest ∙ tells in
    subst (λ v. Tells v label c) (sym one) told

pub stamping-keeps : (label : Label) (stamps old new : List ℕ) (events : List Event) (k n : ℕ) → label.version ≡ One → IsJournal label stamps events old
    → slice_get events k ≡ Some (event.Command n) → length new ≡ length old
    → take (64 + 32 * k + 12) new ≡ take (64 + 32 * k + 12) old → drop (64 + 32 * k + 20) new ≡ drop (64 + 32 * k + 20) old
    → IsJournal label stamps events new
unfolding found_in
stamping-keeps label stamps old new events k n one j there long front back =
    let many : 65 ≤ length old = has_header-long old j.header in
    let head : take 64 new ≡ take 64 old = front-same 64 (64 + 32 * k + 12) new old (omega arith) front in
    let e = label-same new old head in
    record {
      header = header-same new old head (omega arith) many ∙ j.header;
      labelled = labelled-from label new old (ap (λ l. l.version) e) (ap (λ l. l.digest) e) (ap (λ l. l.base) e) j.labelled;
      found =
          found_from-restamped
          1048576 1 k (32 * k) n (drop 64 new) (drop 64 old) events j.found there refl
          (length-drop 64 new ∙ ap (λ m. m - 64) long ∙ sym (length-drop 64 old))
          (middle-same 64 (32 * k + 12) (64 + 32 * k + 12) new old (omega arith) front)
          (drop-drop (32 * k + 20) 64 new ∙ behind-same (64 + 32 * k + 20) (64 + (32 * k + 20)) new old (omega arith) back ∙ sym (drop-drop (32 * k + 20) 64 old));
      stamped = uncounted label stamps new one;
    }

-- a stamp is read where it was written
pub stamping-stamps : (old : List ℕ) (before : List Event) (n stamp : ℕ) → stamp < 2 ^ 64 → 64 + 32 * length before + 20 ≤ length old
    → stamps_from
    (before ++ event.Command n ∷ [])
    (drop 64 (take (64 + 32 * length before + 12) old ++ to_be_bytes w64 stamp ++ drop (64 + 32 * length before + 20) old))
    ≡ stamps_from before (drop 64 old) ++ stamp ∷ []
stamping-stamps old before n stamp below long =
    let at : ℕ = 64 + 32 * length before in
    let bytes : List ℕ = to_be_bytes w64 stamp in
    let new : List ℕ = take (at + 12) old ++ bytes ++ drop (at + 20) old in
    let front : take (at + 12) new ≡ take (at + 12) old = take-written (at + 12) bytes old (drop (at + 20) old) (omega arith) in
    let there : take 8 (drop (at + 12) new) ≡ bytes = part-written (at + 12) bytes old (drop (at + 20) old) (omega arith) in
    let read : stamp_at (drop (32 * length before) (drop 64 new)) ≡ stamp =
    ap (λ xs. stamp_at xs) (drop-drop (32 * length before) 64 new)
    ∙ stamp_at-part at new
    ∙ ap (λ xs. from_be_bytes w64 xs) there
    ∙ from_be_bytes-to_be_bytes_8 stamp below in
    stamps_from-last before (event.Command n) (drop 64 new)
    ∙ ap (λ s. stamps_from before (drop 64 new) ++ s ∷ []) read
    ∙ ap (λ xs. xs ++ stamp ∷ []) (stamps_from-same before (drop 64 new) (drop 64 old) (middle-same 64 (32 * length before) (at + 12) new old (omega arith) front))

-- the byte of the version
version-same : (c d : List ℕ) → slice_index c 63 ≡ slice_index d 63 → version_in c ≡ version_in d
version-same c d same = ap (λ gate. if gate == 0 then One else Two) same

pub basing-keeps : (label : Label) (stamps old new : List ℕ) (events : List Event) → label.version ≡ One → IsJournal label stamps events old
    → length new ≡ length old → take 48 new ≡ take 48 old → drop 63 new ≡ drop 63 old → IsJournal label stamps events new
unfolding found_in
basing-keeps label stamps old new events one j long front back =
    let many : 65 ≤ length old = has_header-long old j.header in
    let gate : slice_index new 63 ≡ slice_index old 63 = sym (gate_at 63 new) ∙ ap (λ xs. slice_index xs 0) back ∙ gate_at 63 old in
    record {
      header = title-same new old (front-same 16 48 new old (omega arith) front) (omega arith) many ∙ j.header;
      labelled = record {
        version = version-same new old gate ∙ j.labelled.version;
        tells = tells-one label new old one (middle-same 16 32 48 new old (omega arith) front) j.labelled.tells;
      };
      found = ap (λ xs. found_from 1048576 1 xs) (behind-same 63 64 new old (omega arith) back) ∙ j.found;
      stamped = uncounted label stamps new one;
    }

-- ---- the version

-- what stays whatever its byte is
record Turns (old new : List ℕ) : Type 0 where
  pub long : length new ≡ length old
  pub front : take 63 new ≡ take 63 old
  pub back : drop 64 new ≡ drop 64 old

turned-header : (old new : List ℕ) → Turns old new → IsTrue (has_header old) → IsTrue (has_header new)
turned-header old new t h =
    let many : 65 ≤ length old = has_header-long old h in
    let long : length new ≡ length old = t.long in
    title-same new old (front-same 16 63 new old (omega arith) t.front) (omega arith) many ∙ h

turned-found : (old new : List ℕ) → Turns old new → found_in new ≡ found_in old
unfolding found_in
turned-found old new t = ap (λ xs. found_from 1048576 1 xs) t.back

turned-stamps : (old new : List ℕ) → Turns old new → stamps_in new ≡ stamps_in old
unfolding stamps_in
turned-stamps old new t =
    ap (λ f. stamps_from f.events (drop 64 new)) (turned-found old new t) ∙ ap (λ xs. stamps_from (found_in old).events xs) t.back

closed-turned : (label : Label) (stamps old new : List ℕ) (events : List Event) → label.version ≡ One → IsJournal label stamps events old
    → Turns old new → slice_index new 63 ≡ 0 → IsJournal label stamps events new
closed-turned label stamps old new events one j t closed = record {
  header = turned-header old new t j.header;
  labelled = record {
    version = ap (λ gate. if gate == 0 then One else Two) closed ∙ sym one;
    tells = tells-one label new old one (middle-same 16 32 63 new old (omega arith) t.front) j.labelled.tells;
  };
  found = turned-found old new t ∙ j.found;
  stamped = uncounted label stamps new one;
}

opened-turned : (label based : Label) (stamps old new : List ℕ) (events : List Event) → based.version ≡ Two → IsJournal label stamps events old
    → base_in old ≡ based.base → stamps_in old ≡ stamps → Turns old new → slice_index new 63 ≢ 0 → IsJournal based stamps events new
opened-turned label based stamps old new events two j base has t opens =
    let gate : (slice_index new 63 == 0) ≡ false = grind (arith, nat_tests) in
    let tells : Tells Two based new = middle-same 48 15 63 new old (omega arith) t.front ∙ base in
    let stamped : HasStamps Two stamps new = turned-stamps old new t ∙ has in
    record {
      header = turned-header old new t j.header;
      labelled = record {
        version = ap (λ b. if b then One else Two) gate ∙ sym two;
        tells = subst (λ v. Tells v based new) (sym two) tells;
      };
      found = turned-found old new t ∙ j.found;
      stamped = subst (λ v. HasStamps v stamps new) (sym two) stamped;
    }

pub version-turns : (label based : Label) (stamps old new : List ℕ) (events : List Event) → label.version ≡ One → based.version ≡ Two
    → IsJournal label stamps events old → base_in old ≡ based.base → stamps_in old ≡ stamps → length new ≡ length old
    → take 63 new ≡ take 63 old → drop 64 new ≡ drop 64 old → IsJournal label stamps events new ⊎ IsJournal based stamps events new
version-turns label based stamps old new events one two j base has long front back =
    let t : Turns old new = record { long = long; front = front; back = back } in
    elim (cases_eq (slice_index new 63) 0) [
      | inl closed ↦ inl (closed-turned label stamps old new events one j t closed)
      | inr opens ↦ inr (opened-turned label based stamps old new events two j base has t opens)
    ]

pub version-turned : (label based : Label) (stamps old new : List ℕ) (events : List Event) → based.version ≡ Two
    → IsJournal label stamps events old → base_in old ≡ based.base → stamps_in old ≡ stamps → length new ≡ length old
    → take 63 new ≡ take 63 old → drop 64 new ≡ drop 64 old → slice_index new 63 ≢ 0 → IsJournal based stamps events new
version-turned label based stamps old new events two j base has long front back opens =
    opened-turned label based stamps old new events two j base has (record { long = long; front = front; back = back }) opens
