use Rattle.conc_data_fields.proofs.Combined.{beside-read, both-read, judged-read}
use Rattle.conc_data_entries.specs.Rules.{rule_of}
use Rattle.conc_data_entries.proofs.rule.RawRuleFromTable.from_table.Goals as goal

pub returns : goal.returns
unfolding rule_of
returns c =
    rw (c.beside.ensures, c.to_rule-rule.ensures, c.both-2.ensures, c.both.ensures, c.rule_keys.ensures)
    (beside-read _ _ _ (judged-read _ _ _ (both-read _ _ _ _ c.optional-program.ensures (both-read _ _ _ _ c.optional-request_type.ensures c.optional-user.ensures))))
