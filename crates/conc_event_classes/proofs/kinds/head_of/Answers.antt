use Rattle.std.proofs.Common.{refl}
use Rattle.conc_event_classes.proofs.KindEquality.{kind_at_first}
use Rattle.conc_event_classes.proofs.kinds.head_of.Goals as goal

pub returns : goal.returns
returns c = λ here. kind_at_first _ _ _ refl c.parent_item.ensures here
