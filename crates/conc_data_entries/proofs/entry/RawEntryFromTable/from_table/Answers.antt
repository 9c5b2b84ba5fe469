use Rattle.conc_data_fields.proofs.Combined.{beside-read, both-read, good-read}
use Rattle.conc_data_entries.specs.Entries.{entry_of}
use Rattle.conc_data_entries.proofs.entry.RawEntryFromTable.from_table.Goals as goal

pub returns : goal.returns
unfolding entry_of
returns c =
    rw (c.beside.ensures, c.to_entry-entry.ensures, c.both-3.ensures, c.both-2.ensures, c.both.ensures, c.entry_keys.ensures)
    (beside-read _ _ _ (good-read _ _ _ (both-read _ _ _ _ c.required-owner.ensures (both-read _ _ _ _ c.required-other.ensures (both-read _ _ _ _ c.default-scope.ensures c.default-reach.ensures)))))
