-- What a command does, before it has memory of its own.
use Rattle.std.specs.Prelude.{ℕ, if◌then◌else◌, Bool, ◌&&◌, List, codes, Option, None, Some}
use Rattle.conc_types.specs.declared.event.RequestId.{RequestId}
use Rattle.conc_types.specs.declared.script.Act.{Act}
use Rattle.conc_types.specs.declared.script.Act.TheVariants as act
use Rattle.conc_types.specs.Texts.{is_text}
use Rattle.conc_types.specs.Words.{is_between}
use Rattle.conc_script.specs.declared.actions.Action.{Action}
use Rattle.conc_script.specs.declared.actions.Action.TheVariants as action
use Rattle.conc_script.specs.declared.actions.Submission.{Submission}
use Rattle.conc_script.specs.declared.actions.Verb.{Verb}
use Rattle.conc_script.specs.declared.actions.Verb.TheVariants as verb
use Rattle.conc_script.specs.Script.{is}

abbrev pub submit_by : Submission → Act
submit_by s = act.Submit s.item s.user.now s.priority s.start s.domain.now s.argument.now

-- its priority and its argument are within their limits
abbrev pub is_within_limits : Submission → Bool
is_within_limits s = is_between 1 99 s.priority && is_text 200 s.argument.now

abbrev pub act_with : Verb → RequestId → Act
act_with verb.Hold r = act.Hold r
act_with verb.Unhold r = act.Unhold r
act_with verb.Cancel r = act.Cancel r
act_with verb.Terminate r = act.Terminate r

-- the act that it is
abbrev pub act_by : Action → Act
act_by (action.Submit s) = submit_by s
act_by (action.On v r) = act_with v r

abbrev pub verb_of : List ℕ → Option Verb
verb_of word =
    if is (codes "hold") word then Some verb.Hold
    else (if is (codes "unhold") word then Some verb.Unhold
    else (if is (codes "cancel") word then Some verb.Cancel else (if is (codes "terminate") word then Some verb.Terminate else None)))
