use Rattle.conc_data_fields.proofs.Combined.{beside-read, both-read, judged-read}
use Rattle.conc_setup.specs.Documents.{document_of}
use Rattle.conc_setup.proofs.document.document_of.Goals as goal

pub returns : goal.returns
unfolding document_of
returns c =
    rw (c.beside.ensures, c.to_document-document.ensures, c.both-4.ensures, c.both-3.ensures, c.both-2.ensures, c.both.ensures, c.top_keys.ensures)
    (beside-read _ _ _ (judged-read _ _ _ (both-read _ _ _ _ (rw c.no_values.ensures at c.default-tables.ensures) (both-read _ _ _ _ (rw c.no_values-2.ensures at c.default-programs.ensures) (both-read _ _ _ _ (rw c.no_values-3.ensures at c.default-entries.ensures) (both-read _ _ _ _ (rw c.no_values-4.ensures at c.default-managers.ensures) (rw c.no_values-5.ensures at c.default-sets.ensures)))))))
