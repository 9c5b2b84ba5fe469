use Rattle.conc_journal_image.proofs.Spelled.{fields_of-joined}
use Rattle.conc_journal_image.proofs.fields.Fields.bytes.Goals as goal

pub returns-clause-fields : goal.returns-clause-fields
returns-clause-fields c =
    fields_of-joined
    c.args.self c.word_bytes-first.result c.word_bytes-second.result c.wide_bytes-wide.result c.word_bytes-length.result
    c.word_bytes-first.ensures c.word_bytes-second.ensures c.wide_bytes-wide.ensures c.word_bytes-length.ensures
