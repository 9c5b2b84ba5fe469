-- What a crash may leave while a life begins.
use Rattle.std.proofs.Common.{IsTrue, ◌≡◌, ◌⊎◌, inl, inr, ℕ, Bool, ◌||◌, if◌then◌else◌, List, [], Option, None, Some, IfSome, refl, sym, ◌∙◌, ap, subst, append-nil}
use Rattle.std.proofs.lemmas.Option.{IfSome_then}
use Rattle.conc_types.specs.declared.digests.Digests.{Digests}
use Rattle.conc_types.specs.declared.event.Event.{Event}
use Rattle.conc_types.specs.declared.plan.Plan.{Plan}
use Rattle.conc_disk.specs.Disk.{DiskState, Stays}
use Rattle.conc_disk.specs.Left.{EachImage, LeavesOnly}
use Rattle.conc_disk.proofs.Leaving.{if_some-any, leaves-twice, leaves-wider}
use Rattle.conc_journal_image.specs.Image.{found_in, has_header, is_not_begun, label_in, stamps_in}
use Rattle.conc_journal.specs.Opens.{events_of}
use Rattle.conc_run_state.specs.Handed.{Handed}
use Rattle.conc_run_state.specs.Inputs.{MayBeOfInput}
use Rattle.conc_journal_spool.specs.Spools.{Agrees, KeepsBelow}
use Rattle.conc_run_state.specs.Survival.{Survives}
use Rattle.conc_run_open.specs.Opening.{HasOpening, LeavesOpening}

-- ---- images

-- where no journal was begun
pub unbegun-survives : (plan : Plan) (digests : Digests) (image : List ℕ) → IsTrue (is_not_begun image) → Survives plan digests [] [] image
unbegun-survives plan digests image none = record {
  opens = ap (λ (b : Bool). b || has_header image) none;
  own = subst (λ (b : Bool). MayBeOfInput plan digests (if b then None else Some (label_in image)) (if b then [] else (found_in image).events) (if b then [] else stamps_in image)) (sym none) tt;
  whole = ap (λ (b : Bool). if b then None else (found_in image).broken) none;
  begins = (events_of image, refl);
  within = ([], sym (append-nil (events_of image) ∙ ap (λ (b : Bool). if b then [] else (found_in image).events) none));
}

-- ---- disks

-- the images of one kind are of each kind that follows
pub each-wider : (kind wider : List ℕ → Type 0) (disk : DiskState) → ((c : List ℕ) → kind c → wider c) → EachImage kind disk → EachImage wider disk
each-wider kind wider disk more each = IfSome_then disk.seen each (λ bytes here c left. more c (here c left))

pub left-wider : (kind wider : List ℕ → Type 0) (old new : DiskState) → ((c : List ℕ) → kind c → wider c) → LeavesOnly kind old new → LeavesOnly wider old new
left-wider kind wider old new more left = leaves-wider kind wider old new left (if_some-any old.seen (λ bytes c is. more c is))

-- ---- the whole

-- a life is begun behind what only looked
pub opening-left : (h : Handed) (found : List Event) (mid : DiskState) → LeavesOnly h.disks.journal_before.may_leave h.disks.journal_before mid → LeavesOnly (HasOpening h found) mid h.disks.journal_after → LeavesOpening h found
opening-left h found mid first second =
    let K : List ℕ → Type 0 = λ image. h.disks.journal_before.may_leave image ⊎ HasOpening h found image in
    leaves-twice K h.disks.journal_before mid h.disks.journal_after (left-wider h.disks.journal_before.may_leave K h.disks.journal_before mid (λ c is. inl is) first) (left-wider (HasOpening h found) K mid h.disks.journal_after (λ c is. inr is) second)

-- the spool has the bytes of the texts, where it stays as it was
pub texts-stay : (n : ℕ) (old new : DiskState) → Stays old new → IfSome new.seen (λ bytes. (image : List ℕ) → new.may_leave image → Agrees n bytes image) → EachImage (KeepsBelow n old) new
texts-stay n old new stays on =
    IfSome_then new.seen on (λ bytes each image left. go old.seen new.seen bytes image stays.seen on left)
  where
    go : (was seen : Option (List ℕ)) (bytes image : List ℕ) → seen ≡ was → IfSome seen (λ b. (i : List ℕ) → new.may_leave i → Agrees n b i) → new.may_leave image → IfSome was (λ b. Agrees n b image)
    go None seen bytes image same on left = tt
    go (Some b) (Some c) bytes image same on left = let is : c ≡ b = cc in subst (λ (x : List ℕ). Agrees n x image) is (on image left)
    go (Some b) None bytes image same on left = cc same
