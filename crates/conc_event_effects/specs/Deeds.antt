-- What a command does to a request.
use Rattle.std.specs.Prelude.{Bool}
use Rattle.conc_types.specs.declared.event.RequestId.{RequestId}
use Rattle.conc_types.specs.declared.script.Act.{Act}
use Rattle.conc_base_law.specs.Kinds.{is_cancel, is_hold, is_terminate, is_unhold}
use Rattle.conc_event_effects.specs.declared.kinds.Deed.{Deed}
use Rattle.conc_event_effects.specs.declared.kinds.Deed.TheVariants as deed

-- the act is this one, on this request
abbrev pub is_deed : Deed → RequestId → Act → Bool
is_deed deed.Hold = is_hold
is_deed deed.Unhold = is_unhold
is_deed deed.Cancel = is_cancel
is_deed deed.Terminate = is_terminate
