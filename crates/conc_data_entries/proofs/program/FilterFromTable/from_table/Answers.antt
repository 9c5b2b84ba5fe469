use Rattle.conc_data_fields.proofs.Combined.{beside-read, both-read, good-read}
use Rattle.conc_data_entries.specs.Programs.{filter_of}
use Rattle.conc_data_entries.proofs.program.FilterFromTable.from_table.Goals as goal

pub returns : goal.returns
unfolding filter_of
returns c =
    rw (c.beside.ensures, c.to_filter-filter.ensures, c.both-2.ensures, c.both.ensures, c.filter_keys.ensures)
    (beside-read _ _ _ (good-read _ _ _ (both-read _ _ _ _ c.required-column.ensures (both-read _ _ _ _ c.required-test.ensures c.required-value.ensures))))
