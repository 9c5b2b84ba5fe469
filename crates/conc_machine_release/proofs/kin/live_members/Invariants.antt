use Rattle.std.proofs.Common.{◌≡◌, ◌≤◌, length, take}
use Rattle.std.specs.List.{filter}
use Rattle.conc_machine_release.specs.Forced.{is_live_member}
use Rattle.conc_machine_release.proofs.kin.live_members.Given as goal

abbrev pub invariant-loop-i : goal.invariant-loop-i
invariant-loop-i l =
    (l.count ≡ length (filter (is_live_member l.position.classes.now l.position.state.now l.class l.r)
    (take l.i l.position.plan.now.requests)))
    × (l.count ≤ length l.position.plan.now.requests)
