-- How calls of a disk go on from one another.
use Rattle.std.proofs.Common.{◌≡◌, ◌⊎◌, inl, inr, ⊎_elim, ℕ, ◌+◌, ◌≤◌, List, length, Option, None, Some, length-append, length-take, is_some, IfSome, Result, Ok, Err, OnOk, refl, ◌∙◌, ap, subst, sym, arith}
use Rattle.conc_disk.specs.Disk.{DiskState, Follows, HasLength, LeavesWhatWasSeen, Reaches, Stays, Torn, written}
use Rattle.conc_disk.specs.Left.{EachImage, HasWritten, LeavesOnly, TornFrom}
use Rattle.std.specs.Option.{option_map}
use Rattle.conc_journal.specs.Left.{LeavesWritten}

-- ---- where it exposes its bytes

-- what is exposed now was exposed before, so what was known there goes on
pub exposed-if : (old new : Option (List ℕ)) (P Q : Type 0) → is_some new ≡ is_some old → IfSome old (λ bytes. P) → (P → Q) → IfSome new (λ bytes. Q)
exposed-if None None P Q same p f = tt
exposed-if None (Some b) P Q same p f = absurd (cc)
exposed-if (Some a) None P Q same p f = tt
exposed-if (Some a) (Some b) P Q same p f = f p

pub exposed-both : (old : Option (List ℕ)) (P Q R : Type 0) → IfSome old (λ bytes. P) → IfSome old (λ bytes. Q) → (P → Q → R) → IfSome old (λ bytes. R)
exposed-both None P Q R p q f = tt
exposed-both (Some a) P Q R p q f = f p q

-- what follows where a call did what it was to do
pub on-ok : {E : Type 0} (r : Result (Unit {0}) E) (P Q : Type 0) → OnOk r P → (P → Q) → OnOk r Q
on-ok (Ok x) P Q p f = f p
on-ok (Err e) P Q p f = tt

-- ---- images

-- images of one kind are of each kind that follows from it
pub each-more : (P Q : List ℕ → Type 0) (disk : DiskState) → EachImage P disk → ((c : List ℕ) → P c → Q c) → EachImage Q disk
each-more P Q disk each more =
    exposed-if disk.seen disk.seen ((c : List ℕ) → disk.may_leave c → P c) ((c : List ℕ) → disk.may_leave c → Q c) refl each (λ p c left. more c (p c left))

-- the same from one state to the next, where the disk exposes what the images before were like
pub each-from : (P Q R : List ℕ → Type 0) (old new : DiskState) → is_some new.seen ≡ is_some old.seen → EachImage R old → EachImage P new → (((d : List ℕ) → old.may_leave d → R d) → (c : List ℕ) → P c → Q c) → EachImage Q new
each-from P Q R old new exposes was is more =
    exposed-both new.seen ((d : List ℕ) → old.may_leave d → R d) ((c : List ℕ) → new.may_leave c → P c) ((c : List ℕ) → new.may_leave c → Q c)
    (exposed-if old.seen new.seen ((d : List ℕ) → old.may_leave d → R d) ((d : List ℕ) → old.may_leave d → R d) exposes was (λ r. r)) is (λ r p c left. more r c (p c left))

-- a disk reaches as far as each of its images
pub reaches : (P : List ℕ → Type 0) (n : ℕ) (disk : DiskState) → IfSome disk.seen disk.may_leave → EachImage P disk → ((c : List ℕ) → P c → n ≤ length c) → Reaches disk n
reaches P n disk is_left each long = far disk.seen is_left each
  where
    far : (seen : Option (List ℕ)) → IfSome seen disk.may_leave → IfSome seen (λ bytes. (c : List ℕ) → disk.may_leave c → P c) → IfSome seen (λ bytes. n ≤ length bytes)
    far None is_left each = tt
    far (Some bytes) is_left each = long bytes (each bytes is_left)

-- ---- what a run of calls leaves

-- what is of one kind is of each kind that follows from it
pub left-more : (P Q : List ℕ → Type 0) (old new : DiskState) → LeavesOnly P old new → ((c : List ℕ) → P c → Q c) → LeavesOnly Q old new
left-more P Q old new left more = record {
  faults = left.faults;
  moment = left.moment;
  exposes = left.exposes;
  earlier_stay = left.earlier_stay;
  nothing_else =
      exposed-if old.seen old.seen ((t : ℕ) (c : List ℕ) → t ≤ old.moment → new.left_since t c → old.left_since t c ⊎ P c) ((t : ℕ) (c : List ℕ) → t ≤ old.moment → new.left_since t c → old.left_since t c ⊎ Q c) refl left.nothing_else (λ p t c le since. ⊎_elim (λ was. inl was) (λ is. inr (more c is)) (p t c le since));
}

-- the same, where the disk exposes what the images before were like
pub left-from : (P Q R : List ℕ → Type 0) (old new : DiskState) → EachImage R old → LeavesOnly P old new → (((d : List ℕ) → old.may_leave d → R d) → (c : List ℕ) → P c → Q c) → LeavesOnly Q old new
left-from P Q R old new each left more = record {
  faults = left.faults;
  moment = left.moment;
  exposes = left.exposes;
  earlier_stay = left.earlier_stay;
  nothing_else =
      exposed-both old.seen ((d : List ℕ) → old.may_leave d → R d) ((t : ℕ) (c : List ℕ) → t ≤ old.moment → new.left_since t c → old.left_since t c ⊎ P c) ((t : ℕ) (c : List ℕ) → t ≤ old.moment → new.left_since t c → old.left_since t c ⊎ Q c) each left.nothing_else (λ r p t c le since. ⊎_elim (λ was. inl was) (λ is. inr (more r c is)) (p t c le since));
}

-- ---- one write, where it is known what the images before were like

-- what each image is then
pub each-torn : (R Q : List ℕ → Type 0) (at n : ℕ) (old new : DiskState) → is_some new.seen ≡ is_some old.seen → EachImage R old → Follows (Torn at n) old new → ((d c : List ℕ) → R d → Torn at n d c → Q c) → EachImage Q new
each-torn R Q at n old new exposes was follows more =
    exposed-if old.seen new.seen ((d : List ℕ) → old.may_leave d → R d) ((c : List ℕ) → new.may_leave c → Q c) exposes was (λ r c left. let from = follows c left in more from.0 c (r from.0 from.1) from.2)

-- at each moment
pub left-torn : (R Q : List ℕ → Type 0) (at n : ℕ) (old new : DiskState) → EachImage R old → LeavesOnly (TornFrom old at n) old new → ((d c : List ℕ) → R d → Torn at n d c → Q c) → LeavesOnly Q old new
left-torn R Q at n old new was left more = left-from (TornFrom old at n) Q R old new was left (λ r c from. more from.0 c (r from.0 from.1) from.2)

-- and when it is done
pub each-written : (R Q : List ℕ → Type 0) (at : ℕ) (bytes : List ℕ) (old new : DiskState) → is_some new.seen ≡ is_some old.seen → EachImage R old → LeavesWritten at bytes old new → ((d c : List ℕ) → R d → c ≡ written at bytes d → Q c) → EachImage Q new
each-written R Q at bytes old new exposes was done more =
    each-from (λ image. (before : List ℕ) × old.may_leave before × (at ≤ length before) × (image ≡ written at bytes before)) Q R old new exposes was done (λ r c from. more from.0 c (r from.0 from.1) from.3)

-- after a sync each image has the length that is told
pub settled : (R : List ℕ → Type 0) (n : ℕ) (old new : DiskState) → EachImage R old → Stays old new → LeavesWhatWasSeen old new → HasLength new n → EachImage (λ c. R c × (n ≡ length c)) new
settled R n old new was stays durable long =
    subst (λ (s : Option (List ℕ)). IfSome s (λ bytes. (c : List ℕ) → new.may_leave c → R c × (n ≡ length c))) (sym stays.seen)
    (go old.seen was durable (subst (λ (s : Option (List ℕ)). IfSome s (λ bytes. n ≡ length bytes)) stays.seen long))
  where
    go : (seen : Option (List ℕ)) → IfSome seen (λ bytes. (d : List ℕ) → old.may_leave d → R d) → IfSome seen (λ bytes. (c : List ℕ) → new.may_leave c → c ≡ bytes) → IfSome seen (λ bytes. n ≡ length bytes)
        → IfSome seen (λ bytes. (c : List ℕ) → new.may_leave c → R c × (n ≡ length c))
    go None was durable long = tt
    go (Some bytes) was durable long = λ c left. (was c (stays.images c left), long ∙ ap length (sym (durable c left)))

-- ---- a record that is added

-- one of the images before, with these bytes from here on
abbrev pub WrittenFrom : DiskState → ℕ → List ℕ → List ℕ → Type 0
WrittenFrom old at bytes image = (before : List ℕ) × old.may_leave before × (at ≤ length before) × (image ≡ written at bytes before)

length-written : (at : ℕ) (bytes before : List ℕ) → at ≤ length before → at ≤ length (written at bytes before)
length-written at bytes before le = simp (length-append, length-take) (omega arith)

-- after the record is written, the disk reaches its gate
pub reaches-gate : (at : ℕ) (bytes : List ℕ) (old mid : DiskState) → IfSome mid.seen mid.may_leave → LeavesWritten (at + 1) bytes old mid → Reaches mid at
reaches-gate at bytes old mid is_left each =
    reaches (WrittenFrom old (at + 1) bytes) at mid is_left each (λ c from. rw from.3 (omega (arith, length-written (at + 1) bytes from.0 from.2)))

-- where the disk exposes its bytes before and after, what was written is seen
pub written-seen : (at : ℕ) (bytes : List ℕ) (old new : DiskState) → is_some new.seen ≡ is_some old.seen → HasWritten at bytes old new → new.seen ≡ option_map (written at bytes) old.seen
written-seen at bytes old new = go old.seen new.seen
  where
    go : (before after : Option (List ℕ)) → is_some after ≡ is_some before → IfSome before (λ b. (after ≡ Some (written at bytes b)) × ((image : List ℕ) → new.may_leave image → image ≡ written at bytes b))
        → after ≡ option_map (written at bytes) before
    go None None exposes wrote = refl
    go None (Some x) exposes wrote = cc
    go (Some b) after exposes wrote = wrote.0
