use Rattle.conc_data_fields.proofs.Combined.{beside-read, both-read, good-read}
use Rattle.conc_data_entries.specs.Programs.{program_of}
use Rattle.conc_data_entries.proofs.program.ProgramFromTable.from_table.Goals as goal

pub returns : goal.returns
unfolding program_of
returns c =
    rw (c.beside.ensures, c.to_program.ensures, c.both-parts.ensures, c.both-4.ensures, c.both-3.ensures, c.both-2.ensures, c.both.ensures, c.program_keys.ensures)
    (beside-read _ _ _ (good-read _ _ _ (both-read _ _ _ _ c.required-name.ensures (both-read _ _ _ _ (rw c.no_text.ensures at c.default-request_type.ensures) (both-read _ _ _ _ c.default-enabled.ensures (both-read _ _ _ _ c.default-run_alone.ensures (both-read _ _ _ _ c.default-restart.ensures c.job_of-job.ensures)))))))
