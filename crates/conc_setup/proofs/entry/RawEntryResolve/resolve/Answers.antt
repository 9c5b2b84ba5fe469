use Rattle.conc_data_fields.proofs.Combined.{both-read, good-read, read_as-is}
use Rattle.conc_setup.specs.ThirdPass.{resolved_entry}
use Rattle.conc_setup.proofs.entry.RawEntryResolve.resolve.Goals as goal

pub returns : goal.returns
unfolding resolved_entry
returns c =
    rw (c.to_entry.ensures, c.both.ensures, c.item_of-owner.ensures, c.item_of-other.ensures)
    (good-read _ _ _ (both-read _ _ _ _ (read_as-is _) (read_as-is _)))
