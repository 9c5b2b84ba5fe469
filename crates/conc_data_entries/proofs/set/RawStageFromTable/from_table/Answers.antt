use Rattle.conc_data_fields.proofs.Combined.{beside-read, both-read, good-read}
use Rattle.conc_data_entries.specs.Sets.{stage_of}
use Rattle.conc_data_entries.proofs.set.RawStageFromTable.from_table.Goals as goal

pub returns : goal.returns
unfolding stage_of
returns c =
    rw (c.beside.ensures, c.to_stage.ensures, c.both-parts.ensures, c.both-4.ensures, c.both-3.ensures, c.both-2.ensures, c.both.ensures, c.stage_keys.ensures)
    (beside-read _ _ _ (good-read _ _ _ (both-read _ _ _ _ c.required-name.ensures (both-read _ _ _ _ c.default-critical.ensures (both-read _ _ _ _ c.optional-success.ensures (both-read _ _ _ _ c.optional-warning.ensures (both-read _ _ _ _ c.optional-error.ensures c.required-members.ensures)))))))
