-- What a disk exposes, and what its calls do to it.
use Rattle.std.specs.Prelude.{◌≡◌, ◌⊎◌, ℕ, ◌+◌, ◌≤◌, min, max, List, ◌++◌, length, take, drop, Option, None, ⊤, IfSome, IsSomeAnd, MatchOption}

-- A disk at a moment. Where `seen` is none it exposes nothing of bytes.
pub record DiskState : Type 1 where
  -- what a read gives
  pub seen : Option (List ℕ)
  -- the images that a crash now may leave
  pub may_leave : List ℕ → Type 0
  -- now, as a number that does not fall
  pub moment : ℕ
  -- the images that a crash at some moment since this one may have left
  pub left_since : ℕ → List ℕ → Type 0
  -- how often a call failed
  pub faults : ℕ

-- a disk that exposes nothing of bytes: a crash may leave anything
abbrev pub exposes_nothing : ℕ → DiskState
exposes_nothing faults = record {
  seen = None;
  may_leave = λ image. ⊤;
  moment = 0;
  left_since = λ t image. ⊤;
  faults = faults;
}

-- old with these bytes in the place of those from here on
abbrev pub written : ℕ → List ℕ → List ℕ → List ℕ
written at bytes old = take at old ++ bytes ++ drop (at + length bytes) old

-- any bytes in this range of n, also past the old end, and the same bytes elsewhere
pub record Torn (at n : ℕ) (old new : List ℕ) : Type 0 where
  pub before : take at new ≡ take at old
  pub after : drop (at + n) new ≡ drop (at + n) old
  pub no_shorter : length old ≤ length new
  pub no_longer : length new ≤ max (length old) (at + n)

-- some of what is past n is off
pub record Shortened (n : ℕ) (old new : List ℕ) : Type 0 where
  pub front : take (length new) old ≡ new
  pub no_shorter : min n (length old) ≤ length new

-- ---- from call to call

-- The counts do not fall. A crash since a moment may have left what it may have left before, or what
-- it may leave now.
pub record IsLater (old new : DiskState) : Type 0 where
  pub faults : old.faults ≤ new.faults
  pub moment : old.moment ≤ new.moment
  pub earlier_stay : (t : ℕ) (c : List ℕ) → t ≤ old.moment → old.left_since t c → new.left_since t c
  pub nothing_else : (t : ℕ) (c : List ℕ) → t ≤ old.moment → new.left_since t c → old.left_since t c ⊎ new.may_leave c

-- what is read stays, and a crash may leave nothing new
pub record Stays (old new : DiskState) : Type 0 where
  pub seen : new.seen ≡ old.seen
  pub images : (c : List ℕ) → new.may_leave c → old.may_leave c

-- each image now is an image before that took this step
abbrev pub Follows : (List ℕ → List ℕ → Type 0) → DiskState → DiskState → Type 0
Follows step old new = (c : List ℕ) → new.may_leave c → (d : List ℕ) × old.may_leave d × step d c

-- where the disk exposes its bytes, what is read took this step; else it goes on exposing nothing
abbrev pub SeenFollows : (List ℕ → List ℕ → Type 0) → DiskState → DiskState → Type 0
SeenFollows step old new = MatchOption old.seen (new.seen ≡ None) (λ before. IsSomeAnd new.seen (λ after. step before after))

-- where the disk exposes its bytes, each image is this one
abbrev pub LeavesWhatWasSeen : DiskState → DiskState → Type 0
LeavesWhatWasSeen old new = IfSome old.seen (λ bytes. (c : List ℕ) → new.may_leave c → c ≡ bytes)

-- ---- of one state

-- where the disk exposes its bytes, it has at least n bytes
abbrev pub Reaches : DiskState → ℕ → Type 0
Reaches disk n = IfSome disk.seen (λ bytes. n ≤ length bytes)

-- where the disk exposes its bytes, it has n bytes
abbrev pub HasLength : DiskState → ℕ → Type 0
HasLength disk n = IfSome disk.seen (λ bytes. n ≡ length bytes)

-- where the disk exposes its bytes, these are the bytes from here on
abbrev pub HasAt : DiskState → ℕ → List ℕ → Type 0
HasAt disk at piece = IfSome disk.seen (λ bytes. piece ≡ take (length piece) (drop at bytes))
