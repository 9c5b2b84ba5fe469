use Rattle.std.proofs.Common.{reverse, take}
use Rattle.conc_history_check.specs.Findings.{AreFindings}
use Rattle.conc_history_check.specs.Positions.{AreLawfulTo}
use Rattle.conc_history_check.proofs.checker.first_bad.Given as goal

-- the events so far are read, and each is lawful at its position
abbrev pub invariant-loop-i : goal.invariant-loop-i
invariant-loop-i l = AreFindings l.plan l.prepared (reverse (take l.i l.events)) l.findings
    × AreLawfulTo l.plan l.readings.list l.events l.i
