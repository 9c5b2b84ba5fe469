use Rattle.std.proofs.Common.{◌≡◌, Some, add-one, refl, reverse, take, slice_get, ◌∙◌}
use Rattle.std.proofs.lemmas.Option.{slice_get_read}
use Rattle.conc_history_check.proofs.EachPosition.{lawful_here, lawful_without}
use Rattle.conc_history_check.proofs.positions.is_lawful_at.Goals as goal
use Rattle.conc_history_check.proofs.positions.is_lawful_at.Goals.{in-Tick, in_default}

pub returns : goal.returns
returns c =
    let at : slice_get c.args.events.now c.args.i ≡ Some c.index-events-i.result =
    slice_get_read _ _ c.args.i c.index-events-i.result refl c.requires.within c.index-events-i.is in
    rw add-one
    (c.may_come.ensures
    ∙ elim c.match-e.branch [
      | in-Tick w ↦
          lawful_here _ c.args.life.readings.now.list c.args.events.now c.args.i c.args.findings.now _ _ at c.requires.read.taken
          (w.next-is ∙ rw add-one at (w.known_next-next.ensures (reverse (take c.args.i c.args.events.now)) c.requires.read.taken))
      | in_default w ↦
          lawful_without _ c.args.life.readings.now.list c.args.events.now c.args.i c.args.findings.now _ _ at c.requires.read.taken w.in_default.not-Tick
    ])
