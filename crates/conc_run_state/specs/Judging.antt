-- Which record of a journal is refused, for a spool of so many bytes.
use Rattle.std.specs.Prelude.{◌≡◌, ◌⊎◌, ℕ, ◌+◌, ◌-◌, ◌<◌, ◌≤◌, List, Option, None, Some, slice_get, take}
use Rattle.conc_types.specs.declared.event.Event.{Event}
use Rattle.conc_types.specs.declared.event.Event.TheVariants as event
use Rattle.conc_types.specs.declared.event.Extent.{Extent}
use Rattle.conc_types.specs.declared.event.Outcome.{Outcome}
use Rattle.conc_types.specs.declared.event.RequestId.{RequestId}
use Rattle.conc_types.specs.declared.plan.Plan.{Plan}
use Rattle.conc_types.specs.Words.{numbered}
use Rattle.conc_disk.specs.Disk.{DiskState, HasLength}
use Rattle.conc_base_law.specs.Law.{LawfulSoFar}
use Rattle.conc_restart.specs.FirstBad.{IsFirstUnlawful}

-- each extent of these events ends within so many bytes
abbrev pub EndWithin : ℕ → List Event → Type 0
EndWithin len events =
    (i : ℕ) (id : RequestId) (o : Outcome) (x : Extent)
    → slice_get events i ≡ Some (event.Ended id o (Some x)) → x.offset + x.length ≤ len

-- the extent of the event with this number, from 1, ends beyond so many bytes
pub record EndsBeyond (len : ℕ) (events : List Event) (number : ℕ) : Type 0 where
  pub id : RequestId
  pub outcome : Outcome
  pub extent : Extent
  pub there : numbered events number ≡ Some (event.Ended id outcome (Some extent))
  pub beyond : len < extent.offset + extent.length

-- no record is broken, each event may follow those before it with every life judged as an earlier one, and each extent
-- ends within the spool
pub record AreGood (plan : Plan) (len : ℕ) (events : List Event) (broken : Option ℕ) : Type 0 where
  pub whole : broken ≡ None
  pub so_far : LawfulSoFar plan events
  pub within : EndWithin len events

-- the record with this number, from 1, is broken, or its event may not follow, or its extent ends beyond the spool; and
-- none before it is so
pub record IsBadRecord (plan : Plan) (len : ℕ) (events : List Event) (broken : Option ℕ) (number : ℕ) : Type 0 where
  pub bad : (broken ≡ Some number) ⊎ (IsFirstUnlawful plan events number ⊎ EndsBeyond len events number)
  pub so_far : LawfulSoFar plan (take (number - 1) events)
  pub within : EndWithin len (take (number - 1) events)

-- the spool has a number of bytes, which is that of those that it exposes where it does, and for a spool of so many the
-- record with this number is bad, and none before it
abbrev pub IsBadFor : Plan → DiskState → List Event → Option ℕ → ℕ → Type 0
IsBadFor plan spool events broken number = (len : ℕ) × HasLength spool len × IsBadRecord plan len events broken number
