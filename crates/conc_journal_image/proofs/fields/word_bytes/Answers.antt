use Rattle.std.proofs.Common.{◌∙◌, ap, arith}
use Rattle.std.specs.Int.{from_be_bytes, w32}
use Rattle.std.proofs.lemmas.Nat.{from_be_bytes-to_be_bytes_4}
use Rattle.conc_journal_image.proofs.fields.word_bytes.Goals as goal

pub returns : goal.returns
returns c = ap (λ bytes. from_be_bytes w32 bytes) c.to_be_bytes.ensures ∙ from_be_bytes-to_be_bytes_4 c.args.number (omega arith)
