use Rattle.conc_data_fields.proofs.Combined.{beside-read, both-read, good-read}
use Rattle.conc_data_entries.specs.Sets.{set_of}
use Rattle.conc_data_entries.proofs.set.RawSetFromTable.from_table.Goals as goal

pub returns : goal.returns
unfolding set_of
returns c =
    rw (c.beside.ensures, c.to_set.ensures, c.both.ensures, c.set_keys.ensures)
    (beside-read _ _ _ (good-read _ _ _ (both-read _ _ _ _ c.required-name.ensures c.required-stages.ensures)))
