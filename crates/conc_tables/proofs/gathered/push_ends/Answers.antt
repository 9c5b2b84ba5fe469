use Rattle.std.proofs.Common.{◌≡◌, ◌<◌, ◌∙◌, true, ap, arith, length, Bor, sym}
use Rattle.std.proofs.lemmas.Bool.Decides.{nat_tests}
use Rattle.csv.specs.Records.{Row, fields_of, text_of}
use Rattle.conc_types.specs.Pieces.{concat}
use Rattle.conc_tables.proofs.Fields.{taken-all}
use Rattle.conc_tables.proofs.Joined.{full-text, has-byte, noted-next}
use Rattle.conc_tables.proofs.gathered.push_ends.Goals as goal
use Rattle.conc_tables.proofs.gathered.push_ends.Goals.{then-full, else-full}

pub loop-field-preserved : goal.loop-field-preserved
loop-field-preserved c =
    let (same, noted) = c.loop-field.invariant in
    let (row, field, at) = c.in-Some.ensures.steps in
    let both : c.if-full.full ≡ true → (c.loop-field.full ≡ true) × (0 < length c.in-Some.field.now) =
    elim c.if-full.branch [ then-full w ↦ (λ e. (w.if-full.true, has-byte (length c.in-Some.field.now) _ _ w.full-is w.is_empty.ensures e)) | else-full w ↦ (λ e. cc (sym w.full-is ∙ e)) ] in (
      ap (λ (b : Bor Row). b.now) row ∙ same,
      noted-next _ _ _ _ _ _ _ _ _ _ _ c.in-Some.field.now noted (rw same at field) at (omega arith) c.in_ok-push.ensures.items both,
    )

pub returns-then-full-2-clause-ends : goal.returns-then-full-2-clause-ends
returns-then-full-2-clause-ends c =
    let (same, noted) = c.loop-field.invariant in
    let all = taken-all (fields_of c.args.row.now) c.loop-field.field-iterator.at (rw same at c.in-None.ensures.steps.1) in
    rw all at noted.places

pub returns-then-full-2-clause-text : goal.returns-then-full-2-clause-text
returns-then-full-2-clause-text c e =
    let (same, noted) = c.loop-field.invariant in
    let all = taken-all (fields_of c.args.row.now) c.loop-field.field-iterator.at (rw same at c.in-None.ensures.steps.1) in
    let last = rw all at noted.last in
    let full = rw all at (noted.bytes c.if-full-2.true) in
    let long : length (concat (fields_of c.args.row.now)) ≡ length (text_of c.args.row.now) = grind (arith, nat_tests) in
    full-text c.args.row.now.ends c.args.row.now.bytes full long

pub returns-else-full-2-clause-ends : goal.returns-else-full-2-clause-ends
returns-else-full-2-clause-ends c =
    let (same, noted) = c.loop-field.invariant in
    let all = taken-all (fields_of c.args.row.now) c.loop-field.field-iterator.at (rw same at c.in-None.ensures.steps.1) in
    rw all at noted.places
