use Rattle.conc_top_laws.specs.Complete.{around_by, disks_by}
use Rattle.conc_top_laws.proofs.Completing.{check, make, output, plan, repeat, run, status}
use Rattle.conc_top_laws.proofs.completeness.commands_complete.Goals as goal

pub returns-clause-run : goal.returns-clause-run
returns-clause-run g c setup script file threads watchers old new end =
    let around = around_by g.F.Shelf g.O.Sink g.D.Disk g.E.Disk g.C.Clock old new in
    run around (disks_by g.F.Shelf g.O.Sink g.D.Disk g.E.Disk g.C.Clock old new) end setup script file threads watchers

pub returns-clause-plan : goal.returns-clause-plan
returns-clause-plan g c setup script old new end =
    let around = around_by g.F.Shelf g.O.Sink g.D.Disk g.E.Disk g.C.Clock old new in
    plan around (disks_by g.F.Shelf g.O.Sink g.D.Disk g.E.Disk g.C.Clock old new) end setup script

pub returns-clause-check : goal.returns-clause-check
returns-clause-check g c setup script file history old new end =
    let around = around_by g.F.Shelf g.O.Sink g.D.Disk g.E.Disk g.C.Clock old new in
    check around (disks_by g.F.Shelf g.O.Sink g.D.Disk g.E.Disk g.C.Clock old new) end setup script file history

pub returns-clause-status : goal.returns-clause-status
returns-clause-status g c setup script old new end =
    let around = around_by g.F.Shelf g.O.Sink g.D.Disk g.E.Disk g.C.Clock old new in
    status around (disks_by g.F.Shelf g.O.Sink g.D.Disk g.E.Disk g.C.Clock old new) end setup script

pub returns-clause-output : goal.returns-clause-output
returns-clause-output g c setup script id old new end =
    let around = around_by g.F.Shelf g.O.Sink g.D.Disk g.E.Disk g.C.Clock old new in
    output around (disks_by g.F.Shelf g.O.Sink g.D.Disk g.E.Disk g.C.Clock old new) end setup script id

pub returns-clause-make : goal.returns-clause-make
returns-clause-make g c seed size old new end =
    let around = around_by g.F.Shelf g.O.Sink g.D.Disk g.E.Disk g.C.Clock old new in
    make around (disks_by g.F.Shelf g.O.Sink g.D.Disk g.E.Disk g.C.Clock old new) end seed size

pub returns-clause-repeat : goal.returns-clause-repeat
returns-clause-repeat g c name old new end =
    let around = around_by g.F.Shelf g.O.Sink g.D.Disk g.E.Disk g.C.Clock old new in
    repeat around (disks_by g.F.Shelf g.O.Sink g.D.Disk g.E.Disk g.C.Clock old new) end name
