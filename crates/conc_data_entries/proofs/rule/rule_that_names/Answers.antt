use Rattle.conc_data_fields.proofs.Proven.{proven-pass}
use Rattle.conc_data_entries.proofs.rule.rule_that_names.Goals as goal

pub returns-then-is_some-3 : goal.returns-then-is_some-3
returns-then-is_some-3 c = proven-pass _ (λ names. record { program = c.args.program; request_type = c.args.request_type; user = c.args.user; names = names }) _ _
