use Rattle.std.proofs.Common.{◌≡◌, ◌∙◌, sym, true, false}
use Rattle.std.proofs.lemmas.Option.{MatchOption-at_some}
use Rattle.csv.specs.Records.{fields_of}
use Rattle.conc_script.specs.declared.fields.Fields.{Fields}
use Rattle.conc_script.specs.Fields.{list_of}
use Rattle.conc_script.specs.Script.{is_record}
use Rattle.conc_script.proofs.ActionRules.{order_said}
use Rattle.conc_script.proofs.judging.judge.Goals as goal

pub returns-clause-said : goal.returns-clause-said
returns-clause-said c =
    let same = MatchOption-at_some (is_record (fields_of c.args.row.now) ≡ false) (λ (fields : Fields). (is_record (fields_of c.args.row.now) ≡ true) × (fields_of c.args.row.now ≡ list_of fields))
    c.in_ok-fields.fields c.in_ok-fields.ensures.ok_part c.fields_in.ensures in
    order_said c.args.setup.now _ (list_of c.in_ok-fields.fields) c.in_ok-at.at _ same.1 (sym c.read_moment.ensures.value ∙ c.in_ok-at.ensures.ok_part) c.in_ok-action.ensures.said
