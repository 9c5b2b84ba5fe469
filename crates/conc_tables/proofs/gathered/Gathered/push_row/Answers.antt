use Rattle.std.proofs.Common.{ap, arith, ◌∙◌, ◌++◌, List, ℕ, sym}
use Rattle.csv.specs.Records.{fields_of}
use Rattle.conc_tables.proofs.Joined.{row-added}
use Rattle.conc_tables.proofs.gathered.Gathered.push_row.Goals as goal

pub returns-in_ok-extend_from_slice-clause-whole : goal.returns-in_ok-extend_from_slice-clause-whole
returns-in_ok-extend_from_slice-clause-whole c =
    (row-added c.args.self.now.ends.items c.args.self.now.bytes.items (fields_of c.args.row.now) c.len.result _ _ c.requires.whole (omega arith) c.in_ok-push_ends.ensures.ends
    (c.in_ok-extend_from_slice.ensures.items ∙ ap (λ (text : List ℕ). c.args.self.now.bytes.items ++ text) (c.as_slice.ensures ∙ sym (c.in_ok-push_ends.ensures.text c.if-branch.true)))).0

pub returns-in_ok-extend_from_slice-clause-cells : goal.returns-in_ok-extend_from_slice-clause-cells
returns-in_ok-extend_from_slice-clause-cells c =
    (row-added c.args.self.now.ends.items c.args.self.now.bytes.items (fields_of c.args.row.now) c.len.result _ _ c.requires.whole (omega arith) c.in_ok-push_ends.ensures.ends
    (c.in_ok-extend_from_slice.ensures.items ∙ ap (λ (text : List ℕ). c.args.self.now.bytes.items ++ text) (c.as_slice.ensures ∙ sym (c.in_ok-push_ends.ensures.text c.if-branch.true)))).1

pub returns-in_ok-push_fields-clause-whole : goal.returns-in_ok-push_fields-clause-whole
returns-in_ok-push_fields-clause-whole c =
    (row-added c.args.self.now.ends.items c.args.self.now.bytes.items (fields_of c.args.row.now) c.len.result _ _ c.requires.whole (omega arith) c.in_ok-push_ends.ensures.ends
    c.in_ok-push_fields.ensures).0

pub returns-in_ok-push_fields-clause-cells : goal.returns-in_ok-push_fields-clause-cells
returns-in_ok-push_fields-clause-cells c =
    (row-added c.args.self.now.ends.items c.args.self.now.bytes.items (fields_of c.args.row.now) c.len.result _ _ c.requires.whole (omega arith) c.in_ok-push_ends.ensures.ends
    c.in_ok-push_fields.ensures).1
