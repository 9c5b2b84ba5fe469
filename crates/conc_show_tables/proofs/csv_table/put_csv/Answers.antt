use Rattle.std.proofs.lemmas.Result.{on_ok_weaker}
use Rattle.conc_show_tables.specs.Csv.{csv_text}
use Rattle.conc_show_tables.proofs.Joined.{joined}
use Rattle.conc_show_tables.proofs.csv_table.put_csv.Goals as goal

pub returns : goal.returns
unfolding csv_text
returns c = on_ok_weaker c.put_rows.result (λ last. joined _ _ _ _ _ c.in_ok-put_bytes.ensures last) c.put_rows.ensures
