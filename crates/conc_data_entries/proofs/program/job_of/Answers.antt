use Rattle.conc_data_fields.proofs.Combined.{both-read, good-read}
use Rattle.conc_data_entries.specs.Programs.{job_of}
use Rattle.conc_data_entries.proofs.program.job_of.Goals as goal

pub returns : goal.returns
unfolding job_of
returns c =
    rw (c.to_job.ensures, c.both-parts.ensures, c.both-4.ensures, c.both-3.ensures, c.both-2.ensures, c.both.ensures)
    (good-read _ _ _ (both-read _ _ _ _ c.required-name.ensures (both-read _ _ _ _ (rw c.no_values.ensures at c.default-filters.ensures) (both-read _ _ _ _ c.optional-group.ensures (both-read _ _ _ _ c.optional-sum.ensures (both-read _ _ _ _ c.optional-warn_over.ensures c.optional-error_over.ensures))))))
