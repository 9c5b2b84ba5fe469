use Rattle.conc_data_fields.proofs.Combined.{beside-read, both-read, judged-read}
use Rattle.conc_data_entries.specs.Managers.{manager_of}
use Rattle.conc_data_entries.proofs.manager.RawManagerFromTable.from_table.Goals as goal

pub returns : goal.returns
unfolding manager_of
returns c =
    rw (c.beside.ensures, c.to_manager-manager.ensures, c.both-3.ensures, c.both-2.ensures, c.both.ensures, c.manager_keys.ensures)
    (beside-read _ _ _ (judged-read _ _ _ (both-read _ _ _ _ c.required-name.ensures (both-read _ _ _ _ (rw (c.from_vec.ensures, c.new.ensures.items) at c.default-include.ensures) (both-read _ _ _ _ (rw (c.from_vec-2.ensures, c.new-2.ensures.items) at c.default-exclude.ensures) (rw c.no_values.ensures at c.default-shifts.ensures))))))
