use Rattle.std.proofs.Common.{◌≡◌, ◌∙◌, sym, ap, true, false, is_some, lt-ltb, le-ltb, MatchOption, Option, Some}
use Rattle.std.proofs.lemmas.Option.{MatchOption-at_some}
use Rattle.conc_data_records.specs.Records.{Record}
use Rattle.conc_repeat.specs.declared.fields.Fields.{Fields}
use Rattle.conc_repeat.specs.Kept.{list_of}
use Rattle.conc_repeat.specs.Refusing.{is_record}
use Rattle.conc_repeat.proofs.Rules.{has_course, none_broken, past_end, too_many}
use Rattle.conc_repeat.proofs.judging.judge.Goals as goal

-- the fields of a record that has nine
fields_are : (r : Record) (o : Option Fields) (f : Fields) → MatchOption o (is_record r ≡ false) (λ fields. (is_record r ≡ true) × (r ≡ list_of fields)) → o ≡ Some f → (is_record r ≡ true) × (r ≡ list_of f)
fields_are r o f h e = MatchOption-at_some (is_record r ≡ false) (λ (fields : Fields). (is_record r ≡ true) × (r ≡ list_of fields)) f e h

pub returns-then-not-is_within_calendar-clause-rules : goal.returns-then-not-is_within_calendar-clause-rules
returns-then-not-is_within_calendar-clause-rules c =
    let nine = fields_are _ _ c.in_ok-fields.fields c.fields_in.ensures c.in_ok-fields.ensures.ok_part in
    let form = sym c.form.ensures.form ∙ ap is_some c.in_ok-from.ensures.ok_part in
    let said = rw c.in_ok-from.ensures.ok_part at c.form.ensures.said in
    let unit = sym c.named.ensures ∙ c.in_ok-unit.ensures.ok_part in
    let has = has_course _ (list_of c.in_ok-fields.fields) c.in_ok-from.from c.in_ok-from.every c.in_ok-from.times c.in_ok-unit.unit nine.1 nine.0 form said unit in
    past_end c.args.commands _ _ has (sym c.if-not-is_within_calendar.ensures)

pub returns-then-commands-from-gt-MOST_COMMANDS-clause-rules : goal.returns-then-commands-from-gt-MOST_COMMANDS-clause-rules
returns-then-commands-from-gt-MOST_COMMANDS-clause-rules c =
    let nine = fields_are _ _ c.in_ok-fields.fields c.fields_in.ensures c.in_ok-fields.ensures.ok_part in
    let form = sym c.form.ensures.form ∙ ap is_some c.in_ok-from.ensures.ok_part in
    let said = rw c.in_ok-from.ensures.ok_part at c.form.ensures.said in
    let unit = sym c.named.ensures ∙ c.in_ok-unit.ensures.ok_part in
    let has = has_course _ (list_of c.in_ok-fields.fields) c.in_ok-from.from c.in_ok-from.every c.in_ok-from.times c.in_ok-unit.unit nine.1 nine.0 form said unit in
    too_many c.args.commands _ _ has (sym c.if-not-is_within_calendar.ensures) (rw c.from.ensures at (lt-ltb _ _ c.if-commands-from-gt-MOST_COMMANDS.true))

pub returns-clause-rules : goal.returns-clause-rules
returns-clause-rules c =
    let nine = fields_are _ _ c.in_ok-fields.fields c.fields_in.ensures c.in_ok-fields.ensures.ok_part in
    let form = sym c.form.ensures.form ∙ ap is_some c.in_ok-from.ensures.ok_part in
    let said = rw c.in_ok-from.ensures.ok_part at c.form.ensures.said in
    let unit = sym c.named.ensures ∙ c.in_ok-unit.ensures.ok_part in
    let has = has_course _ (list_of c.in_ok-fields.fields) c.in_ok-from.from c.in_ok-from.every c.in_ok-from.times c.in_ok-unit.unit nine.1 nine.0 form said unit in
    none_broken c.args.commands _ _ has (sym c.if-not-is_within_calendar.ensures) (rw c.from.ensures at (le-ltb _ _ c.if-commands-from-gt-MOST_COMMANDS.false))

pub returns-clause-course : goal.returns-clause-course
returns-clause-course c =
    let nine = fields_are _ _ c.in_ok-fields.fields c.fields_in.ensures c.in_ok-fields.ensures.ok_part in
    let form = sym c.form.ensures.form ∙ ap is_some c.in_ok-from.ensures.ok_part in
    let said = rw c.in_ok-from.ensures.ok_part at c.form.ensures.said in
    let unit = sym c.named.ensures ∙ c.in_ok-unit.ensures.ok_part in
    let has = has_course _ (list_of c.in_ok-fields.fields) c.in_ok-from.from c.in_ok-from.every c.in_ok-from.times c.in_ok-unit.unit nine.1 nine.0 form said unit in
    has.course

pub returns-clause-times : goal.returns-clause-times
returns-clause-times c =
    let nine = fields_are _ _ c.in_ok-fields.fields c.fields_in.ensures c.in_ok-fields.ensures.ok_part in
    let form = sym c.form.ensures.form ∙ ap is_some c.in_ok-from.ensures.ok_part in
    let said = rw c.in_ok-from.ensures.ok_part at c.form.ensures.said in
    let unit = sym c.named.ensures ∙ c.in_ok-unit.ensures.ok_part in
    let has = has_course _ (list_of c.in_ok-fields.fields) c.in_ok-from.from c.in_ok-from.every c.in_ok-from.times c.in_ok-unit.unit nine.1 nine.0 form said unit in
    has.times
