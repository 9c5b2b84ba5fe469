use Rattle.std.proofs.Common.{◌∙◌, ◌-◌, ap, arith, drop, length}
use Rattle.std.proofs.lemmas.List.{take-take}
use Rattle.conc_journal_image.specs.Fields.{stamp_in}
use Rattle.conc_journal_image.proofs.Stamps.{stamp_in-part}
use Rattle.conc_journal_image.proofs.found.next_record.Goals as goal

pub returns-clause-stamp : goal.returns-clause-stamp
returns-clause-stamp c =
    let bytes = c.args.bytes.now in
    c.stamp_in.ensures
    ∙ ap stamp_in (c.in_ok-record.ensures.cases.0 ∙ take-take 31 (length bytes - 1) (drop 1 bytes) (omega arith))
    ∙ stamp_in-part bytes
