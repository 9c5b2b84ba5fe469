use Rattle.conc_data_records.proofs.Steps.{left-at_start, records_of-few}
use Rattle.conc_data_records.proofs.records.Records.of_text.Goals as goal

pub returns-clause-all : goal.returns-clause-all
returns-clause-all c = left-at_start _ _ c.args.text.now c.from_reader-reader.ensures.state c.from_reader-reader.ensures.source

pub returns-clause-few : goal.returns-clause-few
returns-clause-few c =
    let all = left-at_start _ _ c.args.text.now c.from_reader-reader.ensures.state c.from_reader-reader.ensures.source in
    rw all (records_of-few c.args.text.now)
