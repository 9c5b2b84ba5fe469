-- Stamps that are written into the records of a journal of version 1.
use Rattle.std.proofs.Common.{◌≡◌, ℕ, suc, ◌+◌, ◌*◌, ◌^◌, ◌<◌, ◌≤◌, false, List, [], ◌∷◌, ◌++◌, length, get_or, take, drop, Option, Some, None, IfSome, is_some, OnErr, Result, Ok, Err, refl, sym, ap, ◌∙◌, subst, arith, le_refl}
use Rattle.std.specs.Int.{to_be_bytes, w64}
use Rattle.std.specs.Option.{option_map}
use Rattle.std.specs.Prelude.{cond, count_by, slice_get}
use Rattle.std.proofs.lemmas.List.{append-nil, length-append, length-drop, length-take, length-take-le, take_more}
use Rattle.std.proofs.lemmas.List.Sums.{sum_by_more, sum_by_more_le}
use Rattle.std.proofs.lemmas.Option.{get_or_from_slice_get, slice_get-get_or}
use Rattle.conc_types.specs.declared.event.Event.{Event}
use Rattle.conc_types.specs.declared.event.Event.TheVariants as event
use Rattle.conc_disk.specs.Disk.{DiskState, Follows, IsLater, Reaches, Torn, written}
use Rattle.conc_disk.specs.Left.{EachImage}
use Rattle.conc_disk.proofs.Leaving.{leaves-none, leaves-step}
use Rattle.conc_journal_image.specs.Fields.{command_stamp, has_stamp}
use Rattle.conc_journal_image.specs.Image.{stamp_at, stamps_from}
use Rattle.conc_journal_image.specs.declared.label.Label.{Label}
use Rattle.conc_journal_image.specs.declared.label.Version.TheVariants.{One}
use Rattle.conc_journal_image.proofs.Appends.{length-journal}
use Rattle.conc_journal_image.proofs.Stamps.{stamps_from-last}
use Rattle.conc_journal_image.proofs.Turns.{stamping-keeps, stamping-stamps}
use Rattle.conc_journal.specs.Migrating.{HasMigrated, HaveStamps, IsOfOne, IsStamping, StaysOfOne, migrated_image, with_stamp_of, with_stamps}
use Rattle.conc_journal.proofs.Steps.{each-torn}

-- what holds of a state holds of it after an error too
pub on-err : {T E : Type 0} (r : Result T E) (P : Type 0) → P → OnErr r P
on-err (Ok x) P p = tt
on-err (Err e) P p = p

-- ---- one image

-- a torn range within it leaves it as long as it was
pub torn-long : (at n : ℕ) (old new : List ℕ) → at + n ≤ length old → Torn at n old new → length new ≡ length old
torn-long at n old new within torn = omega (arith, torn.no_shorter, torn.no_longer)

torn-stays : (label : Label) (events : List Event) (k n : ℕ) (old new : List ℕ) → label.version ≡ One → slice_get events k ≡ Some (event.Command n) → k < length events
    → IsOfOne label events old → Torn (64 + 32 * k + 12) 8 old new → IsOfOne label events new
torn-stays label events k n old new one there below j torn =
    let long : 64 + 32 * length events + 1 ≤ length old = length-journal label [] events old j in
    let behind : drop (64 + 32 * k + 20) new ≡ drop (64 + 32 * k + 20) old =
    ap (λ i. drop i new) (omega arith) ∙ torn.after ∙ ap (λ i. drop i old) (omega arith) in
    stamping-keeps label [] old new events k n one j there (torn-long (64 + 32 * k + 12) 8 old new (omega arith) torn) torn.before behind

-- ---- the events that are done

-- the element at a place, whatever stands for one beyond the end
at-place : {X : Type 0} (xs : List X) (k : ℕ) (d x : X) → k < length xs → get_or xs k d ≡ x → (slice_get xs k ≡ Some x) × (get_or xs k x ≡ x)
at-place xs k d x below is =
    let there : slice_get xs k ≡ Some x = slice_get-get_or xs k d below ∙ ap (λ y. Some y) is in (there, get_or_from_slice_get xs k x x there)

-- what is no command has no stamp
no-command : (e : Event) → ((n : ℕ) → e ≡ event.Command n → ⊥) → (has_stamp e ≡ false) × ((stamp : ℕ) → command_stamp e stamp ≡ [])
no-command (event.Tick t) other = (refl, λ stamp. refl)
no-command (event.Command n) other = absurd (other n refl)
no-command (event.OpenSet s) other = (refl, λ stamp. refl)
no-command (event.Stage s n) other = (refl, λ stamp. refl)
no-command (event.CloseSet s o) other = (refl, λ stamp. refl)
no-command (event.LetOut r) other = (refl, λ stamp. refl)
no-command (event.Started r p) other = (refl, λ stamp. refl)
no-command (event.Ended r o x) other = (refl, λ stamp. refl)
no-command event.Resume other = (refl, λ stamp. refl)
no-command (event.Interrupt r) other = (refl, λ stamp. refl)

-- so none is written for it
unstamped : (e : Event) (k stamp : ℕ) (image : List ℕ) → has_stamp e ≡ false → with_stamp_of (Some e) k stamp image ≡ image
unstamped (event.Command n) k stamp image none = cc
unstamped (event.Tick t) k stamp image none = refl
unstamped (event.OpenSet s) k stamp image none = refl
unstamped (event.Stage s n) k stamp image none = refl
unstamped (event.CloseSet s o) k stamp image none = refl
unstamped (event.LetOut r) k stamp image none = refl
unstamped (event.Started r p) k stamp image none = refl
unstamped (event.Ended r o x) k stamp image none = refl
unstamped event.Resume k stamp image none = refl
unstamped (event.Interrupt r) k stamp image none = refl

-- one event more
event-at : (events : List Event) (k : ℕ) (e : Event) → k < length events → get_or events k e ≡ e → take (k + 1) events ≡ take k events ++ e ∷ []
event-at events k e below is = take_more events k e below ∙ ap (λ x. take k events ++ x ∷ []) is

count-more : (events : List Event) (k : ℕ) (e : Event) → k < length events → get_or events k e ≡ e
    → count_by has_stamp (take (k + 1) events) ≡ count_by has_stamp (take k events) + cond (has_stamp e) 1 0
count-more events k e below is =
    sum_by_more (λ x. cond (has_stamp x) 1 0) events k e below ∙ ap (λ x. count_by has_stamp (take k events) + cond (has_stamp x) 1 0) is

count-within : (events : List Event) (k : ℕ) (e : Event) → k < length events → get_or events k e ≡ e
    → count_by has_stamp (take k events) + cond (has_stamp e) 1 0 ≤ count_by has_stamp events
count-within events k e below is =
    subst (λ x. count_by has_stamp (take k events) + cond (has_stamp x) 1 0 ≤ count_by has_stamp events) is
    (sum_by_more_le (λ x. cond (has_stamp x) 1 0) events k e below)

-- ---- between two states

-- before the first event
pub stamping-none : (events : List Event) (stamps : List ℕ) (disk : DiskState) → Reaches disk (64 + 32 * length events + 1) → IsStamping events stamps 0 0 disk disk
unfolding stamps_from
stamping-none events stamps disk reaches = record {
  stays = record {
    exposes = refl;
    faults = le_refl disk.faults;
    images = λ label one each. each;
    survives = λ label one each. leaves-none (IsOfOne label events) disk;
  };
  number_is = refl;
  reaches = reaches;
  written = empty disk.seen;
  bytes = same disk.seen;
}
  where
    same : (seen : Option (List ℕ)) → seen ≡ option_map (with_stamps 0 events stamps) seen
    same None = refl
    same (Some image) = refl

    empty : (seen : Option (List ℕ)) → IfSome seen (HaveStamps [] [])
    empty None = tt
    empty (Some image) = refl

-- an event that is no command
stamping-other : (events : List Event) (stamps : List ℕ) (k number : ℕ) (e : Event) (old disk : DiskState) → k < length events → get_or events k e ≡ e → has_stamp e ≡ false
    → ((stamp : ℕ) → command_stamp e stamp ≡ []) → IsStamping events stamps k number old disk → IsStamping events stamps (k + 1) number old disk
stamping-other events stamps k number e old disk below is other none so_far = record {
  stays = so_far.stays;
  number_is = so_far.number_is ∙ sym (count-more events k e below is ∙ ap (λ b. count_by has_stamp (take k events) + cond b 1 0) other ∙ omega arith);
  reaches = so_far.reaches;
  written = go disk.seen so_far.written;
  bytes = so_far.bytes ∙ step old.seen;
}
  where
    there : slice_get events k ≡ Some e
    there = (at-place events k e e below is).0

    step : (seen : Option (List ℕ)) → option_map (with_stamps k events stamps) seen ≡ option_map (with_stamps (k + 1) events stamps) seen
    step None = refl
    step (Some image) =
        let stamp = get_or stamps (count_by has_stamp (take k events)) 0 in
        ap Some (sym (ap (λ o. with_stamp_of o k stamp (with_stamps k events stamps image)) there ∙ unstamped e k stamp (with_stamps k events stamps image) other)
        ∙ ap (λ m. with_stamps m events stamps image) (let one : suc k ≡ k + 1 = omega arith in one))

    go : (seen : Option (List ℕ)) → IfSome seen (HaveStamps (take k events) (take number stamps)) → IfSome seen (HaveStamps (take (k + 1) events) (take number stamps))
    go None h = tt
    go (Some image) h =
        ap (λ es. stamps_from es (drop 64 image)) (event-at events k e below is)
        ∙ stamps_from-last (take k events) e (drop 64 image)
        ∙ ap (λ xs. stamps_from (take k events) (drop 64 image) ++ xs) (none (stamp_at (drop (32 * length (take k events)) (drop 64 image))))
        ∙ append-nil (stamps_from (take k events) (drop 64 image))
        ∙ h

pub stamping-passed : (events : List Event) (stamps : List ℕ) (k number : ℕ) (d : Event) (old disk : DiskState) → k < length events
    → ((n : ℕ) → get_or events k d ≡ event.Command n → ⊥) → IsStamping events stamps k number old disk → IsStamping events stamps (k + 1) number old disk
stamping-passed events stamps k number d old disk below other so_far =
    let e = get_or events k d in
    let none = no-command e other in
    stamping-other events stamps k number e old disk below (at-place events k d e below refl).1 none.0 none.1 so_far

-- a command, while its stamp is written
module _ (events : List Event) (stamps : List ℕ) (k number n : ℕ) (old mid new : DiskState) (d : Event) (below : k < length events) (found : get_or events k d ≡ event.Command n)
    (so_far : IsStamping events stamps k number old mid) (later : IsLater mid new) (exposes : is_some new.seen ≡ is_some mid.seen)
    (follows : Follows (Torn (64 + 32 * k + 12) 8) mid new) where
  there : slice_get events k ≡ Some (event.Command n)
  there = (at-place events k d (event.Command n) below found).0

  is : get_or events k (event.Command n) ≡ event.Command n
  is = (at-place events k d (event.Command n) below found).1

  images : (label : Label) → label.version ≡ One → EachImage (IsOfOne label events) old → EachImage (IsOfOne label events) new
  images label one each =
      each-torn (IsOfOne label events) (IsOfOne label events) (64 + 32 * k + 12) 8 mid new exposes (so_far.stays.images label one each) follows (λ before image j torn.
      torn-stays label events k n before image one there below j torn)

  pub stamping-stays : StaysOfOne events old new
  stamping-stays = record {
    exposes = exposes ∙ so_far.stays.exposes;
    faults = omega (arith, so_far.stays.faults, later.faults);
    images = images;
    survives = λ label one each.
        leaves-step (IsOfOne label events) old mid new (so_far.stays.survives label one each) later exposes (images label one each);
  }

  -- and when it is written
  pub stamping-written : (stamp : ℕ) → stamp < 2 ^ 64 → length stamps ≡ count_by has_stamp events → get_or stamps number 0 ≡ stamp
      → new.seen ≡ option_map (written (64 + 32 * k + 12) (to_be_bytes w64 stamp)) mid.seen → IsStamping events stamps (k + 1) (number + 1) old new
  stamping-written stamp small counted found_stamp wrote = record {
    stays = stamping-stays;
    number_is = ap (λ m. m + 1) so_far.number_is ∙ sym (count-more events k (event.Command n) below is);
    reaches = subst (λ (s : Option (List ℕ)). IfSome s (λ bytes. 64 + 32 * length events + 1 ≤ length bytes)) (sym wrote) (long mid.seen so_far.reaches);
    written = subst (λ (s : Option (List ℕ)). IfSome s (HaveStamps (take (k + 1) events) (take (number + 1) stamps))) (sym wrote) (go mid.seen so_far.reaches so_far.written);
    bytes = wrote ∙ (ap (λ (s : Option (List ℕ)). option_map (written (64 + 32 * k + 12) (to_be_bytes w64 stamp)) s) so_far.bytes ∙ step old.seen);
  }
    where
      is_here : get_or stamps (count_by has_stamp (take k events)) 0 ≡ stamp
      is_here = ap (λ m. get_or stamps m 0) (sym so_far.number_is) ∙ found_stamp

      step : (seen : Option (List ℕ)) → option_map (written (64 + 32 * k + 12) (to_be_bytes w64 stamp)) (option_map (with_stamps k events stamps) seen) ≡ option_map (with_stamps (k + 1) events stamps) seen
      step None = refl
      step (Some image) =
          let before = with_stamps k events stamps image in
          ap Some (sym (ap (λ (z : Option Event × ℕ). with_stamp_of z.0 k z.1 before) (λ i. (there i, is_here i)))
          ∙ ap (λ m. with_stamps m events stamps image) (let one : suc k ≡ k + 1 = omega arith in one))

      within : number < length stamps
      within = omega (arith, counted, so_far.number_is, count-within events k (event.Command n) below is)

      is_stamp : get_or stamps number stamp ≡ stamp
      is_stamp = (at-place stamps number 0 stamp within found_stamp).1

      long : (seen : Option (List ℕ)) → IfSome seen (λ bytes. 64 + 32 * length events + 1 ≤ length bytes)
          → IfSome (option_map (written (64 + 32 * k + 12) (to_be_bytes w64 stamp)) seen) (λ bytes. 64 + 32 * length events + 1 ≤ length bytes)
      long None h = tt
      long (Some image) h =
          let eight : length (to_be_bytes w64 stamp) ≡ 8 = refl in
          simp (length-append, length-take, length-drop) (omega arith)

      go : (seen : Option (List ℕ)) → IfSome seen (λ bytes. 64 + 32 * length events + 1 ≤ length bytes) → IfSome seen (HaveStamps (take k events) (take number stamps))
          → IfSome (option_map (written (64 + 32 * k + 12) (to_be_bytes w64 stamp)) seen) (HaveStamps (take (k + 1) events) (take (number + 1) stamps))
      go None reach h = tt
      go (Some image) reach h =
          let done : length (take k events) ≡ k = length-take-le k events (omega arith) in
          let bytes : List ℕ = to_be_bytes w64 stamp in
          let parts = λ (m j : ℕ). take m image ++ bytes ++ drop j image in
          let same : written (64 + 32 * k + 12) bytes image ≡ parts (64 + 32 * length (take k events) + 12) (64 + 32 * length (take k events) + 20) =
          ap (λ m. parts m (64 + 32 * k + 12 + 8)) (omega arith) ∙ ap (λ j. parts (64 + 32 * length (take k events) + 12) j) (omega arith) in
          ap (λ es. stamps_from es (drop 64 (written (64 + 32 * k + 12) bytes image))) (event-at events k (event.Command n) below is)
          ∙ ap (λ c. stamps_from (take k events ++ event.Command n ∷ []) (drop 64 c)) same
          ∙ stamping-stamps image (take k events) n stamp small (omega arith)
          ∙ ap (λ xs. xs ++ stamp ∷ []) h
          ∙ sym (take_more stamps number stamp within ∙ ap (λ s. take number stamps ++ s ∷ []) is_stamp)

-- ---- the bytes of all steps

pub bytes-written : (events : List Event) (base stamps : List ℕ) (old stamped headed new : DiskState) → stamped.seen ≡ option_map (with_stamps (length events) events stamps) old.seen
    → headed.seen ≡ option_map (written 48 base) stamped.seen → new.seen ≡ option_map (written 63 (1 ∷ [])) headed.seen → HasMigrated events base stamps old new
bytes-written events base stamps old stamped headed new one two three =
    three ∙ (ap (λ (s : Option (List ℕ)). option_map (written 63 (1 ∷ [])) s) (two ∙ ap (λ (s : Option (List ℕ)). option_map (written 48 base) s) one) ∙ go old.seen)
  where
    go : (seen : Option (List ℕ)) → option_map (written 63 (1 ∷ [])) (option_map (written 48 base) (option_map (with_stamps (length events) events stamps) seen)) ≡ option_map (migrated_image events base stamps) seen
    go None = refl
    go (Some image) = refl
