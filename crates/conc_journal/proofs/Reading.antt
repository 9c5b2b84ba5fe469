-- How readings of a disk go on from one another.
use Rattle.std.proofs.Common.{◌∙◌, ⊎_elim, arith, inl, inr, refl}
use Rattle.conc_disk.specs.Disk.{DiskState, IsLater, Stays}
use Rattle.conc_disk.specs.Left.{EachImage}
use Rattle.conc_disk.proofs.Leaving.{exposes-stays, if_some-any, leaves-first, leaves-none, leaves-twice, leaves-wider}
use Rattle.conc_outside.specs.Counts.{Rose}
use Rattle.conc_journal.specs.Reading.{WasRead}

images-before : (old new : DiskState) → Stays old new → EachImage old.may_leave new
images-before old new stays = if_some-any new.seen (λ bytes c left. stays.images c left)

-- one call
pub read-once : (old new : DiskState) → IsLater old new → Stays old new → WasRead old new
read-once old new later stays = record {
  stays = stays;
  survives = leaves-first old.may_leave old new later (exposes-stays old new stays) (images-before old new stays);
}

-- before the first call
pub read-none : (disk : DiskState) → WasRead disk disk
read-none disk = record {
  stays = record { seen = refl; images = λ c left. left };
  survives = leaves-none disk.may_leave disk;
}

-- two runs of calls
pub read-twice : (old mid new : DiskState) → WasRead old mid → WasRead mid new → WasRead old new
read-twice old mid new first second = record {
  stays = record { seen = second.stays.seen ∙ first.stays.seen; images = λ c left. first.stays.images c (second.stays.images c left) };
  survives = leaves-twice old.may_leave old mid new first.survives
      (leaves-wider mid.may_leave old.may_leave mid new second.survives (if_some-any mid.seen (λ bytes c. first.stays.images c)));
}

-- a fault of the second is one since the first began
pub rose-since : (old mid new : DiskState) → WasRead old mid → Rose mid.faults new.faults → Rose old.faults new.faults
rose-since old mid new read rose = ⊎_elim (λ less. inl (omega (arith, read.survives.faults, less))) inr rose
