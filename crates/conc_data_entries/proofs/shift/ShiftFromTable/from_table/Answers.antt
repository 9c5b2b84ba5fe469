use Rattle.conc_data_fields.proofs.Combined.{beside-read, both-read, judged-read}
use Rattle.conc_data_entries.specs.Shifts.{shift_of}
use Rattle.conc_data_entries.proofs.shift.ShiftFromTable.from_table.Goals as goal

pub returns : goal.returns
unfolding shift_of
returns c =
    rw (c.beside.ensures, c.to_shift-shift.ensures, c.both-4.ensures, c.both-3.ensures, c.both-2.ensures, c.both.ensures, c.shift_keys.ensures)
    (beside-read _ _ _ (judged-read _ _ _ (both-read _ _ _ _ c.optional-date.ensures (both-read _ _ _ _ c.default-days.ensures (both-read _ _ _ _ c.optional-from.ensures (both-read _ _ _ _ c.optional-to.ensures c.required-places.ensures))))))
