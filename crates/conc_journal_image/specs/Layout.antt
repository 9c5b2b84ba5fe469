-- Where the records of a journal stand.
use Rattle.std.specs.Prelude.{ℕ, ◌+◌, ◌*◌}
use Rattle.conc_journal_image.specs.declared.layout.TheConstants.{HEADER_BYTES, RECORD_BYTES}

-- where the gate stands behind so many records; the next record begins there
abbrev pub offset_behind : ℕ → ℕ
offset_behind records = HEADER_BYTES + RECORD_BYTES * records
