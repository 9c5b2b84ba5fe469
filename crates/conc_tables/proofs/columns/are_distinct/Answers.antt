use Rattle.std.proofs.Common.{◌≡◌, ◌∙◌, ap, sym, subst, Bor, true, take}
use Rattle.std.specs.Str.{bytes_eq}
use Rattle.csv.specs.Records.{fields_of, Row}
use Rattle.conc_types.specs.Words.{are_distinct}
use Rattle.conc_tables.proofs.Fields.{field-seen, taken-seen}
use Rattle.conc_tables.proofs.Names.{found-again, found-new, Knows}
use Rattle.conc_tables.proofs.columns.are_distinct.Goals as goal

pub returns-then-not-branch : goal.returns-then-not-branch
returns-then-not-branch c =
    let before = c.loop-field.invariant in
    let (row, field, at) = c.in-Some.ensures.steps in
    let there = field-seen _ _ _ c.in-Some.field.now c.in-Some.field.now before.same field in
    found-again (fields_of c.args.header.now) c.loop-field.seen.keys c.in-Some.field c.loop-field.field-iterator.at c.in-Some.field.now there.0
    there.1 before.knows (sym c.if-not-branch.true ∙ c.in_ok-insert.ensures.added)

pub loop-field-preserved : goal.loop-field-preserved
loop-field-preserved c =
    let before = c.loop-field.invariant in
    let (row, field, at) = c.in-Some.ensures.steps in
    let there = field-seen _ _ _ c.in-Some.field.now c.in-Some.field.now before.same field in
    let more = found-new (fields_of c.args.header.now) c.loop-field.seen.keys c.insert.new.self.keys c.in-Some.field c.loop-field.field-iterator.at c.in-Some.field.now there.0
    there.1 before.distinct before.knows (sym c.if-not-branch.false ∙ c.in_ok-insert.ensures.added) c.in_ok-insert.ensures.keys in
    record {
      same = ap (λ (b : Bor Row). b.now) row ∙ before.same;
      distinct = subst (λ i. are_distinct bytes_eq (take i (fields_of c.args.header.now)) ≡ true) (sym at) more.0;
      knows = subst (λ i. Knows c.insert.new.self.keys (take i (fields_of c.args.header.now))) (sym at) more.1;
    }

pub returns : goal.returns
returns c =
    let before = c.loop-field.invariant in
    sym (ap (are_distinct bytes_eq) (sym (taken-seen _ _ _ before.same c.in-None.ensures.steps.1)) ∙ before.distinct)
