-- The bytes that a record or a header writes in all, and where.
use Rattle.std.proofs.Common.{◌≡◌, ℕ, ◌+◌, ◌-◌, ◌<◌, ◌≤◌, List, [], ◌∷◌, ◌++◌, length, take, drop, Option, Some, None, IfSome, refl, sym, ap, subst, ◌∙◌, arith, le_refl}
use Rattle.std.proofs.lemmas.List.{drop-drop, places, same_lists, take-append-drop, take-take}
use Rattle.conc_disk.specs.Disk.{DiskState, Follows, LeavesWhatWasSeen, Reaches, Stays, Torn, written}
use Rattle.conc_disk.specs.Left.{EachImage, HasWritten, LeavesOnly, TornFrom}
use Rattle.conc_disk.proofs.Leaving.{leaves-twice}
use Rattle.conc_journal.specs.Records.{IsUnbegun}
use Rattle.conc_journal.proofs.Begins.{closed-gate, long-shut}
use Rattle.conc_journal.proofs.Steps.{left-more}

-- ---- what is written in all

-- a byte that is written before what was written behind it
written-before : (at byte : ℕ) (behind old : List ℕ) → at + 1 ≤ length old → written at (byte ∷ []) (written (at + 1) behind old) ≡ written at (byte ∷ behind) old
written-before at byte behind old long = grind (arith, same_lists, places)

-- what is written over
written-over : (first next old : List ℕ) → length first ≤ length next → written 0 next (written 0 first old) ≡ written 0 next old
written-over first next old within = grind (arith, same_lists, places)

-- a write whose bytes stand there already
written-same : (at : ℕ) (bytes old : List ℕ) → take (at + length bytes) old ≡ take at old ++ bytes → written at bytes old ≡ old
written-same at bytes old there = ap (λ l. l ++ drop (at + length bytes) old) (sym there) ∙ take-append-drop (at + length bytes) old

module _ (at : ℕ) (byte : ℕ) (behind : List ℕ) (old mid new : DiskState) where
  pub has-both : Reaches old (at + 1) → HasWritten (at + 1) behind old mid → HasWritten at (byte ∷ []) mid new → HasWritten at (byte ∷ behind) old new
  has-both reach first second = go old.seen reach first
    where
      go : (seen : Option (List ℕ)) → IfSome seen (λ bytes. at + 1 ≤ length bytes)
          → IfSome seen (λ before. (mid.seen ≡ Some (written (at + 1) behind before)) × ((image : List ℕ) → mid.may_leave image → image ≡ written (at + 1) behind before))
          → IfSome seen (λ before. (new.seen ≡ Some (written at (byte ∷ behind) before)) × ((image : List ℕ) → new.may_leave image → image ≡ written at (byte ∷ behind) before))
      go None reach first = tt
      go (Some before) reach first =
          let then : IfSome (Some (written (at + 1) behind before)) (λ was. (new.seen ≡ Some (written at (byte ∷ []) was)) × ((image : List ℕ) → new.may_leave image → image ≡ written at (byte ∷ []) was)) =
          subst (λ (s : Option (List ℕ)). IfSome s (λ was. (new.seen ≡ Some (written at (byte ∷ []) was)) × ((image : List ℕ) → new.may_leave image → image ≡ written at (byte ∷ []) was))) first.0 second in
          let both = written-before at byte behind before reach in
          (then.0 ∙ ap (λ (l : List ℕ). Some l) both, λ image left. then.1 image left ∙ both)

module _ (first next : List ℕ) (old mid new : DiskState) where
  pub has-over : length first ≤ length next → HasWritten 0 first old mid → HasWritten 0 next mid new → HasWritten 0 next old new
  has-over within one two = go old.seen one
    where
      go : (seen : Option (List ℕ))
          → IfSome seen (λ before. (mid.seen ≡ Some (written 0 first before)) × ((image : List ℕ) → mid.may_leave image → image ≡ written 0 first before))
          → IfSome seen (λ before. (new.seen ≡ Some (written 0 next before)) × ((image : List ℕ) → new.may_leave image → image ≡ written 0 next before))
      go None one = tt
      go (Some before) one =
          let then : IfSome (Some (written 0 first before)) (λ was. (new.seen ≡ Some (written 0 next was)) × ((image : List ℕ) → new.may_leave image → image ≡ written 0 next was)) =
          subst (λ (s : Option (List ℕ)). IfSome s (λ was. (new.seen ≡ Some (written 0 next was)) × ((image : List ℕ) → new.may_leave image → image ≡ written 0 next was))) one.0 two in
          let over = written-over first next before within in
          (then.0 ∙ ap (λ (l : List ℕ). Some l) over, λ image left. then.1 image left ∙ over)

-- a gate that is shut already
module _ (n : ℕ) (old new : DiskState) where
  pub has-shut : 1 < n → IfSome old.seen old.may_leave → EachImage IsUnbegun old → LeavesWhatWasSeen old new → Stays old new → IfSome new.seen (λ bytes. n ≡ length bytes)
      → HasWritten 0 (0 ∷ []) old new
  has-shut more is_left each durable stays long =
      go old.seen is_left each durable stays.seen (subst (λ (s : Option (List ℕ)). IfSome s (λ bytes. n ≡ length bytes)) stays.seen long)
    where
      go : (seen : Option (List ℕ)) → IfSome seen old.may_leave → IfSome seen (λ bytes. (image : List ℕ) → old.may_leave image → IsUnbegun image)
          → IfSome seen (λ bytes. (c : List ℕ) → new.may_leave c → c ≡ bytes) → new.seen ≡ seen → IfSome seen (λ bytes. n ≡ length bytes)
          → IfSome seen (λ before. (new.seen ≡ Some (written 0 (0 ∷ []) before)) × ((image : List ℕ) → new.may_leave image → image ≡ written 0 (0 ∷ []) before))
      go None is_left each durable same long = tt
      go (Some before) is_left each durable same long =
          let shut = long-shut before (omega (arith, more, long)) (each before is_left) in
          let there : written 0 (0 ∷ []) before ≡ before = written-same 0 (0 ∷ []) before (closed-gate before shut) in
          (same ∙ ap (λ (l : List ℕ). Some l) (sym there), λ image left. durable image left ∙ sym there)

-- a write after a sync
pub has-from : (at : ℕ) (bytes : List ℕ) (old mid new : DiskState) → mid.seen ≡ old.seen → HasWritten at bytes mid new → HasWritten at bytes old new
has-from at bytes old mid new same has =
    subst (λ (s : Option (List ℕ)). IfSome s (λ before. (new.seen ≡ Some (written at bytes before)) × ((image : List ℕ) → new.may_leave image → image ≡ written at bytes before))) same has

-- ---- where it is written

torn-none : (at n : ℕ) (c : List ℕ) → Torn at n c c
torn-none at n c = record { before = refl; after = refl; no_shorter = le_refl (length c); no_longer = omega arith }

torn-twice : (at n : ℕ) (c d e : List ℕ) → Torn at n c d → Torn at n d e → Torn at n c e
torn-twice at n c d e one two = record {
  before = two.before ∙ one.before;
  after = two.after ∙ one.after;
  no_shorter = omega (arith, one.no_shorter, two.no_shorter);
  no_longer = omega (arith, one.no_longer, two.no_longer);
}

-- a range within another
torn-wider : (a k at n : ℕ) (c d : List ℕ) → at ≤ a → a + k ≤ at + n → Torn a k c d → Torn at n c d
torn-wider a k at n c d from to torn = record {
  before = sym (take-take at a d from) ∙ ap (λ (l : List ℕ). take at l) torn.before ∙ take-take at a c from;
  after = behind;
  no_shorter = torn.no_shorter;
  no_longer = omega (arith, torn.no_longer);
}
  where
    m : ℕ
    m = at + n - (a + k)

    far : a + k + m ≡ at + n
    far = omega arith

    behind : drop (at + n) d ≡ drop (at + n) c
    behind = ap (λ (i : ℕ). drop i d) (sym far) ∙ sym (drop-drop m (a + k) d) ∙ ap (λ (l : List ℕ). drop m l) torn.after ∙ drop-drop m (a + k) c ∙ ap (λ (i : ℕ). drop i c) far

module _ (at n : ℕ) (old : DiskState) where
  -- nothing is written
  pub there-none : (new : DiskState) → LeavesOnly old.may_leave old new → LeavesOnly (TornFrom old at n) old new
  there-none new left = left-more old.may_leave (TornFrom old at n) old new left (λ c was. (c, was, torn-none at n c))

  -- a write within the range
  pub there-once : (a k : ℕ) (new : DiskState) → at ≤ a → a + k ≤ at + n → LeavesOnly (TornFrom old a k) old new → LeavesOnly (TornFrom old at n) old new
  there-once a k new from to left = left-more (TornFrom old a k) (TornFrom old at n) old new left (λ c was. (was.0, was.1, torn-wider a k at n was.0 c from to was.2))

  -- and one more
  pub there-more : (a k : ℕ) (mid new : DiskState) → at ≤ a → a + k ≤ at + n → LeavesOnly (TornFrom old at n) old mid → Follows (Torn at n) old mid → LeavesOnly (TornFrom mid a k) mid new
      → LeavesOnly (TornFrom old at n) old new
  there-more a k mid new from to first follows next =
      leaves-twice (TornFrom old at n) old mid new first
      (left-more (TornFrom mid a k) (TornFrom old at n) mid new next (λ c was.
      let start = follows was.0 was.1 in
      (start.0, start.1, torn-twice at n start.0 was.0 c start.2 (torn-wider a k at n was.0 c from to was.2))))

  -- the images after it
  pub follows-none : (new : DiskState) → Stays old new → Follows (Torn at n) old new
  follows-none new stays c left = (c, stays.images c left, torn-none at n c)

  pub follows-once : (a k : ℕ) (new : DiskState) → at ≤ a → a + k ≤ at + n → Follows (Torn a k) old new → Follows (Torn at n) old new
  follows-once a k new from to follows c left = let start = follows c left in (start.0, start.1, torn-wider a k at n start.0 c from to start.2)

  pub follows-more : (a k : ℕ) (mid new : DiskState) → at ≤ a → a + k ≤ at + n → Follows (Torn at n) old mid → Follows (Torn a k) mid new → Follows (Torn at n) old new
  follows-more a k mid new from to first next c left =
      let mid_of = next c left in
      let start = first mid_of.0 mid_of.1 in
      (start.0, start.1, torn-twice at n start.0 mid_of.0 c start.2 (torn-wider a k at n mid_of.0 c from to mid_of.2))
