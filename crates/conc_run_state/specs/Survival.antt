-- What a crash at any moment may leave of a journal.
use Rattle.std.specs.Prelude.{◌≡◌, ℕ, List, None, IsTrue}
use Rattle.conc_types.specs.declared.digests.Digests.{Digests}
use Rattle.conc_types.specs.declared.event.Event.{Event}
use Rattle.conc_types.specs.declared.plan.Plan.{Plan}
use Rattle.conc_journal_image.specs.Image.{IsJournal}
use Rattle.conc_journal_image.specs.declared.label.Label.{Label}
use Rattle.conc_journal_image.specs.declared.label.Version.TheVariants.{Two}
use Rattle.conc_journal.specs.Opens.{broken_of, events_of, may_open}
use Rattle.conc_run_state.specs.Inputs.{IsOfInput, IsOwn}
use Rattle.conc_run_state.specs.Lists.{IsPrefix}

-- the image is that of a journal of this input, or of one that is not begun, which has the empty list; no record of
-- it is broken, and its list begins with the first one and is a beginning of the last one
pub record Survives (plan : Plan) (digests : Digests) (first last : List Event) (image : List ℕ) : Type 0 where
  pub opens : IsTrue (may_open image)
  pub own : IsOwn plan digests image
  pub whole : broken_of image ≡ None
  pub begins : IsPrefix first (events_of image)
  pub within : IsPrefix (events_of image) last

-- the image is that of a journal of version 2 of this input, with this list and nothing behind it
pub record HoldsList (plan : Plan) (digests : Digests) (list : List Event) (image : List ℕ) : Type 0 where
  pub label : Label
  pub stamps : List ℕ
  pub journal : IsJournal label stamps list image
  pub version : label.version ≡ Two
  pub of_input : IsOfInput plan digests label list stamps
