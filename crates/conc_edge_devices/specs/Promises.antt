-- What each call of a disk promises, over what it exposes before and after: the clauses of the trait `Disk`, under one name for each call.
use Rattle.std.specs.Prelude.{◌≡◌, ℕ, List, length, take, IfOk, OnErr, OnOk, Result}
use Rattle.std.specs.Option.{option_map}
use Rattle.conc_outside.specs.Counts.{Rose}
use Rattle.conc_outside.specs.declared.error.Failed.{Failed}
use Rattle.conc_disk.specs.Disk.{DiskState, Follows, HasAt, HasLength, IsLater, LeavesWhatWasSeen, SeenFollows, Shortened, Stays, Torn, written}

-- it gives the number of bytes
pub record GivesLength (old new : DiskState) (result : Result ℕ Failed) : Type 0 where
  pub later : IsLater old new
  pub length : IfOk result (λ n. HasLength old n)
  pub stays : Stays old new
  pub failed : OnErr result (Rose old.faults new.faults)

-- it gives these bytes from here on
pub record Reads (at : ℕ) (piece : List ℕ) (old new : DiskState) (result : Result Unit Failed) : Type 0 where
  pub later : IsLater old new
  pub bytes : OnOk result (HasAt old at piece)
  pub stays : Stays old new
  pub failed : OnErr result (Rose old.faults new.faults)

-- it writes these bytes from here on
pub record Writes (at : ℕ) (bytes : List ℕ) (old new : DiskState) (result : Result Unit Failed) : Type 0 where
  pub later : IsLater old new
  pub written : OnOk result (new.seen ≡ option_map (written at bytes) old.seen)
  pub torn : OnErr result (SeenFollows (Torn at (length bytes)) old new)
  pub images : Follows (Torn at (length bytes)) old new
  pub failed : OnErr result (Rose old.faults new.faults)

-- it takes off what is past this length
pub record Cuts (len : ℕ) (old new : DiskState) (result : Result Unit Failed) : Type 0 where
  pub later : IsLater old new
  pub cut : OnOk result (new.seen ≡ option_map (λ bytes. take len bytes) old.seen)
  pub torn : OnErr result (SeenFollows (Shortened len) old new)
  pub images : Follows (Shortened len) old new
  pub failed : OnErr result (Rose old.faults new.faults)

-- it brings all that was written to the disk
pub record Syncs (old new : DiskState) (result : Result Unit Failed) : Type 0 where
  pub later : IsLater old new
  pub durable : OnOk result (LeavesWhatWasSeen old new)
  pub stays : Stays old new
  pub failed : OnErr result (Rose old.faults new.faults)
