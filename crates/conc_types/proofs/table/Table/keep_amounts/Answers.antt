use Rattle.std.proofs.Common.{◌∙◌}
use Rattle.conc_types.proofs.Keeping.{content-same}
use Rattle.conc_types.proofs.table.Table.keep_amounts.Goals as goal

pub returns-in_err-push : goal.returns-in_err-push
returns-in_err-push c = content-same _ _ _ _ _ _ _ _ ∙ c.self.view_is

pub returns : goal.returns
returns c = content-same _ _ _ _ _ _ _ _ ∙ c.self.view_is
