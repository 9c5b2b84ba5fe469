-- What is read of a disk and found there.
use Rattle.std.proofs.Common.{◌≡◌, ℕ, ◌≤◌, min, Bool, true, false, ◌||◌, if◌then◌else◌, List, [], IsFalse, IsTrue, IsNone, IfOk, Result, Ok, Err, refl, length, take, drop, Option, None, Some, IfSome, subst, sym, ap, ◌∙◌, arith}
use Rattle.std.proofs.lemmas.List.{take_min}
use Rattle.std.proofs.lemmas.Option.{IfSome_then}
use Rattle.conc_types.specs.declared.event.Event.{Event}
use Rattle.conc_disk.specs.Disk.{DiskState, LeavesWhatWasSeen, Stays}
use Rattle.conc_journal_image.proofs.Beginning.{header-begun}
use Rattle.conc_journal_image.proofs.Appends.{has_header-long}
use Rattle.conc_journal_image.proofs.Fronts.{has_header-front, is_not_begun-front, label_in-front}
use Rattle.conc_journal_image.specs.Image.{found_in, has_header, HasStamps, IsJournal, is_not_begun, label_in, stamps_in, Tells, version_in}
use Rattle.conc_journal_image.specs.declared.label.Label.{Label}
use Rattle.conc_journal_image.specs.declared.label.Version.{Version}
use Rattle.conc_journal_image.specs.declared.label.Version.TheVariants.{One, Two}
use Rattle.conc_journal.specs.Journals.{FitsState, IsOn}
use Rattle.conc_disk.specs.Left.{EachImage}
use Rattle.conc_disk.proofs.Leaving.{if_some-both}
use Rattle.conc_journal.specs.Opens.{HasRecordsOf, IsFoundIn, may_open}
use Rattle.conc_journal.specs.JournalStates.{state_with}
use Rattle.conc_journal.specs.declared.error.JournalFail.{JournalFail}
use Rattle.conc_journal.specs.declared.journal.JournalState.{JournalState}
use Rattle.conc_journal.specs.declared.opened.Opened.{Opened}

-- so many of the first bytes, and no more than there are
pub front-read : (seen : Option (List ℕ)) (n k : ℕ) (front : List ℕ) → IfSome seen (λ bytes. n ≡ length bytes) → IfSome seen (λ bytes. front ≡ take (length front) (drop 0 bytes)) → length front ≡ min n k
    → IfSome seen (λ bytes. front ≡ take k bytes)
front-read None n k front long there size = tt
front-read (Some bytes) n k front long there size =
    let fewer : length front ≡ min k (length bytes) = omega (arith, size, long) in
    there ∙ ap (λ (m : ℕ). take m bytes) fewer ∙ take_min k bytes

-- what is found behind a header
pub begun-found : (image : List ℕ) (label : Label) (opened : Opened) → IsTrue (has_header image) → label_in image ≡ label → opened.label ≡ Some label → opened.journal.events.items ≡ (found_in image).events
    → opened.journal.stamps.items ≡ stamps_in image → opened.broken ≡ (found_in image).broken → IsFoundIn image opened
begun-found image label opened header is label_is events_are stamps_are broken_is =
    let begun = header-begun image header in
    record {
      may_open = ap (λ (b : Bool). b || has_header image) begun ∙ header;
      label = label_is ∙ ap (λ (l : Label). Some l) (sym is) ∙ ap (λ (b : Bool). if b then None else Some (label_in image)) (sym begun);
      events = events_are ∙ ap (λ (b : Bool). if b then [] else (found_in image).events) (sym begun);
      stamps = stamps_are ∙ ap (λ (b : Bool). if b then [] else stamps_in image) (sym begun);
      broken = broken_is ∙ ap (λ (b : Bool). if b then None else (found_in image).broken) (sym begun);
    }

-- ---- what the first bytes of an image tell of it

-- where they have a header
begun-front : (image front : List ℕ) (label : Label) (opened : Opened) → front ≡ take 65 image → IsTrue (has_header front) → label_in front ≡ label → opened.label ≡ Some label → HasRecordsOf image opened → IsFoundIn image opened
begun-front image front label opened is header labelled label_is records =
    let there : IsTrue (has_header image) = sym (has_header-front 65 image (omega arith)) ∙ ap (λ (l : List ℕ). has_header l) (sym is) ∙ header in
    let told : label_in image ≡ label = sym (label_in-front 65 image (omega arith)) ∙ ap (λ (l : List ℕ). label_in l) (sym is) ∙ labelled in
    begun-found image label opened there told label_is records.events records.stamps records.broken

pub begun-there : (seen : Option (List ℕ)) (front : List ℕ) (label : Label) (opened : Opened) → IfSome seen (λ image. front ≡ take 65 image) → IsTrue (has_header front) → label_in front ≡ label → opened.label ≡ Some label
    → IfSome seen (λ image. HasRecordsOf image opened) → IfSome seen (λ image. IsFoundIn image opened)
begun-there None front label opened is header labelled label_is records = tt
begun-there (Some image) front label opened is header labelled label_is records = begun-front image front label opened is header labelled label_is records

-- where none was begun
pub not-begun-there : (seen : Option (List ℕ)) (front : List ℕ) (opened : Opened) → IfSome seen (λ image. front ≡ take 65 image) → IsTrue (is_not_begun front) → opened.label ≡ None → opened.journal.events.items ≡ [] → opened.journal.stamps.items ≡ []
    → opened.broken ≡ None → IfSome seen (λ image. IsFoundIn image opened)
not-begun-there None front opened is none label events stamps broken = tt
not-begun-there (Some image) front opened is none label events stamps broken =
    let none-there : is_not_begun image ≡ true = sym (is_not_begun-front 65 image (omega arith)) ∙ ap (λ (l : List ℕ). is_not_begun l) (sym is) ∙ none in
    record {
      may_open = ap (λ (b : Bool). b || has_header image) none-there;
      label = label ∙ ap (λ (b : Bool). if b then None else Some (label_in image)) (sym none-there);
      events = events ∙ ap (λ (b : Bool). if b then [] else (found_in image).events) (sym none-there);
      stamps = stamps ∙ ap (λ (b : Bool). if b then [] else stamps_in image) (sym none-there);
      broken = broken ∙ ap (λ (b : Bool). if b then None else (found_in image).broken) (sym none-there);
    }

-- where it is no journal
pub foreign-there : (seen : Option (List ℕ)) (front : List ℕ) → IfSome seen (λ image. front ≡ take 65 image) → IsFalse (is_not_begun front) → IsFalse (has_header front) → IfSome seen (λ image. IsFalse (may_open image))
foreign-there None front is begun foreign = tt
foreign-there (Some image) front is begun foreign =
    let begun-there : is_not_begun image ≡ false = sym (is_not_begun-front 65 image (omega arith)) ∙ ap (λ (l : List ℕ). is_not_begun l) (sym is) ∙ begun in
    let foreign-there : has_header image ≡ false = sym (has_header-front 65 image (omega arith)) ∙ ap (λ (l : List ℕ). has_header l) (sym is) ∙ foreign in
    ap (λ (b : Bool). b || has_header image) begun-there ∙ foreign-there

-- a header has its bytes
pub header-far : (front : List ℕ) (n : ℕ) → IsTrue (has_header front) → length front ≡ min n 65 → 64 ≤ n
header-far front n header size = omega (arith, has_header-long front header, size)

-- ---- what is found in an image

-- an image is labelled as it says itself
own-label : (version : Version) (image : List ℕ) → Tells version (label_in image) image
own-label One image = refl
own-label Two image = refl

own-stamps : (version : Version) (image : List ℕ) → HasStamps version (stamps_in image) image
own-stamps One image = tt
own-stamps Two image = refl

-- where no record is broken, the image fits the state
pub found-fits : (image : List ℕ) (opened : Opened) → IsFoundIn image opened → opened.broken ≡ None
    → FitsState (state_with opened.label opened.broken) opened.journal.stamps.items opened.journal.events.items image
found-fits image opened found sound =
    go (is_not_begun image) refl opened.label opened.broken opened.journal.stamps.items opened.journal.events.items found.may_open found.label found.broken found.stamps found.events sound
  where
    go : (b : Bool) → is_not_begun image ≡ b → (label : Option Label) (broken : Option ℕ) (stamps : List ℕ) (events : List Event) → (b || has_header image) ≡ true
        → label ≡ (if b then None else Some (label_in image)) → broken ≡ (if b then None else (found_in image).broken) → stamps ≡ (if b then [] else stamps_in image)
        → events ≡ (if b then [] else (found_in image).events) → broken ≡ None
        → FitsState (state_with label broken) stamps events image
    go true is label broken stamps events opens label_is broken_is stamps_are events_are sound =
        subst (λ (l : Option Label). FitsState (state_with l broken) stamps events image) (sym label_is) is
    go false is label broken stamps events opens label_is broken_is stamps_are events_are sound =
        let journal : IsJournal (label_in image) (stamps_in image) (found_in image).events image =
        record {
          header = opens;
          labelled = record { version = refl; tells = own-label (version_in image) image };
          found = ap (λ (b : Option ℕ). record { events = (found_in image).events; broken = b }) (sym broken_is ∙ sound);
          stamped = own-stamps (version_in image) image;
        } in
        subst (λ (l : Option Label). FitsState (state_with l broken) stamps events image) (sym label_is)
        (subst (λ (b : Option ℕ). FitsState (state_with (Some (label_in image)) b) stamps events image) (sym sound)
        (subst (λ (t : List ℕ). IsJournal (label_in image) t events image) (sym stamps_are)
        (subst (λ (l : List Event). IsJournal (label_in image) (stamps_in image) l image) (sym events_are) journal)))

-- and so do all images after a sync
pub opened-on : (old new : DiskState) (opened : Opened) → LeavesWhatWasSeen old new → Stays old new → IfSome old.seen (λ image. IsFoundIn image opened) → opened.broken ≡ None
    → EachImage (FitsState (state_with opened.label opened.broken) opened.journal.stamps.items opened.journal.events.items) new
opened-on old new opened settled stays found sound =
    subst (λ (s : Option (List ℕ)). IfSome s (λ seen. (c : List ℕ) → new.may_leave c → FitsState (state_with opened.label opened.broken) opened.journal.stamps.items opened.journal.events.items c)) (sym stays.seen) (go old.seen settled found)
  where
    go : (seen : Option (List ℕ)) → IfSome seen (λ seen. (c : List ℕ) → new.may_leave c → c ≡ seen) → IfSome seen (λ image. IsFoundIn image opened) → IfSome seen (λ seen. (c : List ℕ) → new.may_leave c → FitsState (state_with opened.label opened.broken) opened.journal.stamps.items opened.journal.events.items c)
    go None settled found = tt
    go (Some seen) settled found = λ c left.
        subst (λ (l : List ℕ). FitsState (state_with opened.label opened.broken) opened.journal.stamps.items opened.journal.events.items l) (sym (settled c left)) (found-fits seen opened found sound)

-- ---- answers

-- a journal that was opened with this state is on
pub answer-on : (old new : DiskState) (r : Result Opened JournalFail) → LeavesWhatWasSeen old new → Stays old new
    → IfOk r (λ opened. IfSome old.seen (λ image. IsFoundIn image opened)) → IfOk r (λ opened. opened.journal.state ≡ state_with opened.label opened.broken)
    → IfOk r (λ opened. IsNone opened.broken → IsOn opened.journal new)
answer-on old new (Ok opened) settled stays found state = λ sound.
    let on = opened-on old new opened settled stays found (none opened.broken sound) in
    subst (λ (s : JournalState). EachImage (FitsState s opened.journal.stamps.items opened.journal.events.items) new) (sym state) on
  where
    none : (o : Option ℕ) → IsNone o → o ≡ None
    none None is = refl
    none (Some n) is = absurd (cc)
answer-on old new (Err e) settled stays found state = tt

-- what was brought to the disk stays there while it is read
pub read-settled : (old mid new : DiskState) → LeavesWhatWasSeen old mid → Stays mid new → LeavesWhatWasSeen old new
read-settled old mid new settled stays = IfSome_then old.seen settled (λ bytes here c left. here c (stays.images c left))

-- what holds of the bytes before holds of the same bytes
pub seen-before : (P : List ℕ → Type 0) (old mid : DiskState) → Stays old mid → IfSome mid.seen P → IfSome old.seen P
seen-before P old mid stays holds = subst (λ (s : Option (List ℕ)). IfSome s P) stays.seen holds

pub answer-before : (P : Opened → List ℕ → Type 0) (old mid : DiskState) (r : Result Opened JournalFail) → Stays old mid → IfOk r (λ opened. IfSome mid.seen (P opened)) → IfOk r (λ opened. IfSome old.seen (P opened))
answer-before P old mid (Ok opened) stays holds = seen-before (P opened) old mid stays holds
answer-before P old mid (Err e) stays holds = tt

-- what follows from the bytes before, and what follows from that after a reading
pub found-on : (P Q R : List ℕ → Type 0) (old mid : DiskState) → Stays old mid → IfSome old.seen (λ image. P image → Q image) → IfSome mid.seen (λ image. Q image → R image) → IfSome old.seen (λ image. P image → R image)
found-on P Q R old mid stays one two = if_some-both old.seen one (seen-before (λ image. Q image → R image) old mid stays two) (λ image first second p. second (first p))
