use Rattle.std.proofs.Common.{ap, ◌∙◌, Bor}
use Rattle.csv.specs.Records.{Row, fields_of}
use Rattle.conc_tables.proofs.Fields.{taken-all}
use Rattle.conc_tables.proofs.Joined.{joined-next}
use Rattle.conc_tables.proofs.gathered.push_fields.Goals as goal

pub loop-field-preserved : goal.loop-field-preserved
loop-field-preserved c =
    let (same, bytes) = c.loop-field.invariant in
    let (row, field, at) = c.in-Some.ensures.steps in (
      ap (λ (b : Bor Row). b.now) row ∙ same,
      joined-next _ _ _ _ _ _ c.in-Some.field.now bytes (rw same at field) at c.in_ok-extend_from_slice.ensures.items,
    )

pub returns : goal.returns
returns c =
    let (same, bytes) = c.loop-field.invariant in
    let all = taken-all (fields_of c.args.row.now) c.loop-field.field-iterator.at (rw same at c.in-None.ensures.steps.1) in
    rw all at bytes
