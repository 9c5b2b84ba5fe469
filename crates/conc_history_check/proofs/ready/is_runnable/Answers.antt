use Rattle.std.proofs.Common.{◌∙◌}
use Rattle.conc_history_check.proofs.Runnable.{runnable-own}
use Rattle.conc_history_check.proofs.ready.is_runnable.Goals as goal

pub returns : goal.returns
returns c = c.flag_numbered.ensures ∙ runnable-own _ _ _ c.requires.prepared.runnable c.requires.own
