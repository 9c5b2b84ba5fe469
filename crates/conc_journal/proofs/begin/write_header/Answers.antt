use Rattle.std.proofs.Common.{inl, ℕ, [], ◌∷◌, List, length, subst, arith}
use Rattle.conc_journal_image.specs.Headers.{label_for}
use Rattle.conc_journal_image.specs.Image.{IsJournal}
use Rattle.conc_disk.specs.Left.{EachImage, HasWritten}
use Rattle.conc_journal.specs.Left.{LeavesWritten}
use Rattle.conc_journal.specs.Records.{IsHeaded, IsShut, IsUnbegun, MayBegin}
use Rattle.conc_journal.proofs.Begins.{torn-behind, torn-gate, written-gate, written-headed}
use Rattle.conc_disk.proofs.Leaving.{leaves-twice}
use Rattle.conc_journal.specs.Writes.{HasBegun}
use Rattle.conc_journal.proofs.Steps.{each-torn, each-written, left-more, left-torn, on-ok, reaches}
use Rattle.conc_journal.proofs.Written.{follows-more, follows-once, has-both, has-over, there-more, there-once}
use Rattle.conc_journal.proofs.begin.write_header.Goals as goal

-- the header is torn
pub returns-in_err-write_durable-clause-images : goal.returns-in_err-write_durable-clause-images
returns-in_err-write_durable-clause-images g c =
    each-torn IsShut (MayBegin (label_for c.args.digests.now)) 1 (length c.header_of.result) (g.D.Disk.state c.shut_gate.new.disk) (g.D.Disk.state c.write_durable.new.disk) c.write_durable.ensures.survives.exposes c.in_ok-shut_gate.ensures.shut
    c.write_durable.ensures.images (λ before image shut torn. inl (torn-behind (length c.header_of.result) before image shut torn))

pub returns-in_err-write_durable-clause-survives : goal.returns-in_err-write_durable-clause-survives
returns-in_err-write_durable-clause-survives g c =
    let old = g.D.Disk.state c.args.disk.now in
    let shut = g.D.Disk.state c.shut_gate.new.disk in
    let headed = g.D.Disk.state c.write_durable.new.disk in
    let P = MayBegin (label_for c.args.digests.now) in
    leaves-twice P old shut headed (left-more IsUnbegun P old shut c.shut_gate.ensures.survives (λ image is. inl is))
    (left-torn IsShut P 1 (length c.header_of.result) shut headed c.in_ok-shut_gate.ensures.shut c.write_durable.ensures.survives (λ before image is torn. inl (torn-behind (length c.header_of.result) before image is torn)))

-- the header stands, and its gate is torn
pub returns-clause-images : goal.returns-clause-images
returns-clause-images g c =
    let label = label_for c.args.digests.now in
    let header = c.header_of.result in
    let shut = g.D.Disk.state c.shut_gate.new.disk in
    let headed = g.D.Disk.state c.write_durable.new.disk in
    let stands = each-written IsShut (IsHeaded header) 1 header shut headed c.write_durable.ensures.survives.exposes c.in_ok-shut_gate.ensures.shut c.in_ok-write_durable.ensures.durable (λ before image is done. written-headed header before image is done) in
    each-torn (IsHeaded header) (MayBegin label) 0 1 headed (g.D.Disk.state c.write_durable-2.new.disk) c.write_durable-2.ensures.survives.exposes stands
    c.write_durable-2.ensures.images (λ before image is torn. torn-gate label header before image c.header_of.ensures.begins is torn)

pub returns-clause-survives : goal.returns-clause-survives
returns-clause-survives g c =
    let label = label_for c.args.digests.now in
    let header = c.header_of.result in
    let old = g.D.Disk.state c.args.disk.now in
    let shut = g.D.Disk.state c.shut_gate.new.disk in
    let headed = g.D.Disk.state c.write_durable.new.disk in
    let new = g.D.Disk.state c.write_durable-2.new.disk in
    let P = MayBegin label in
    let stands = each-written IsShut (IsHeaded header) 1 header shut headed c.write_durable.ensures.survives.exposes c.in_ok-shut_gate.ensures.shut c.in_ok-write_durable.ensures.durable (λ before image is done. written-headed header before image is done) in
    let behind =
    leaves-twice P old shut headed (left-more IsUnbegun P old shut c.shut_gate.ensures.survives (λ image is. inl is))
    (left-torn IsShut P 1 (length c.header_of.result) shut headed c.in_ok-shut_gate.ensures.shut c.write_durable.ensures.survives (λ before image is torn. inl (torn-behind (length c.header_of.result) before image is torn))) in
    leaves-twice P old headed new behind
    (left-torn (IsHeaded header) P 0 1 headed new stands c.write_durable-2.ensures.survives (λ before image is torn. torn-gate label header before image c.header_of.ensures.begins is torn))

-- and it is open
pub returns-clause-begun : goal.returns-clause-begun
returns-clause-begun g c =
    let label = label_for c.args.digests.now in
    let header = c.header_of.result in
    let shut = g.D.Disk.state c.shut_gate.new.disk in
    let headed = g.D.Disk.state c.write_durable.new.disk in
    let new = g.D.Disk.state c.write_durable-2.new.disk in
    let stands = each-written IsShut (IsHeaded header) 1 header shut headed c.write_durable.ensures.survives.exposes c.in_ok-shut_gate.ensures.shut c.in_ok-write_durable.ensures.durable (λ before image is done. written-headed header before image is done) in
    on-ok c.write_durable-2.result (LeavesWritten 0 (1 ∷ []) headed new) (EachImage (IsJournal label [] []) new) c.write_durable-2.ensures.durable (λ opened.
    each-written (IsHeaded header) (IsJournal label [] []) 0 (1 ∷ []) headed new c.write_durable-2.ensures.survives.exposes stands opened (λ before image is done. written-gate label header before image c.header_of.ensures.begins is done))

-- what is written, and where

pub returns-in_err-shut_gate-clause-writes_there : goal.returns-in_err-shut_gate-clause-writes_there
returns-in_err-shut_gate-clause-writes_there g c =
    there-once 0 65 (g.D.Disk.state c.args.disk.now) 0 1 (g.D.Disk.state c.shut_gate.new.disk) (omega arith) (omega arith) c.shut_gate.ensures.writes_there

pub returns-in_err-write_durable-clause-writes_there : goal.returns-in_err-write_durable-clause-writes_there
returns-in_err-write_durable-clause-writes_there g c =
    let old = g.D.Disk.state c.args.disk.now in
    let shut = g.D.Disk.state c.shut_gate.new.disk in
    there-more 0 65 old 1 (length c.header_of.result) shut (g.D.Disk.state c.write_durable.new.disk) (omega arith) (omega arith)
    (there-once 0 65 old 0 1 shut (omega arith) (omega arith) c.shut_gate.ensures.writes_there)
    (follows-once 0 65 old 0 1 shut (omega arith) (omega arith) c.shut_gate.ensures.there)
    c.write_durable.ensures.survives

pub returns-clause-writes_there : goal.returns-clause-writes_there
returns-clause-writes_there g c =
    let old = g.D.Disk.state c.args.disk.now in
    let shut = g.D.Disk.state c.shut_gate.new.disk in
    let headed = g.D.Disk.state c.write_durable.new.disk in
    let n = length c.header_of.result in
    let gate = follows-once 0 65 old 0 1 shut (omega arith) (omega arith) c.shut_gate.ensures.there in
    there-more 0 65 old 0 1 headed (g.D.Disk.state c.write_durable-2.new.disk) (omega arith) (omega arith)
    (there-more 0 65 old 1 n shut headed (omega arith) (omega arith)
    (there-once 0 65 old 0 1 shut (omega arith) (omega arith) c.shut_gate.ensures.writes_there) gate c.write_durable.ensures.survives)
    (follows-more 0 65 old 1 n shut headed (omega arith) (omega arith) gate c.write_durable.ensures.images)
    c.write_durable-2.ensures.survives

pub returns-clause-written : goal.returns-clause-written
returns-clause-written g c =
    let header = c.header_of.result in
    let old = g.D.Disk.state c.args.disk.now in
    let shut = g.D.Disk.state c.shut_gate.new.disk in
    let headed = g.D.Disk.state c.write_durable.new.disk in
    let new = g.D.Disk.state c.write_durable-2.new.disk in
    let reach = reaches IsShut 1 shut (g.met.D.Disk.seen_is_left c.shut_gate.new.disk) c.in_ok-shut_gate.ensures.shut (λ image is. is.some) in
    on-ok c.write_durable-2.result (HasWritten 0 (1 ∷ []) headed new) (HasBegun c.args.digests.now old new) c.write_durable-2.ensures.written (λ opened.
    subst (λ (h : List ℕ). HasWritten 0 (1 ∷ h) old new) c.header_of.ensures.bytes
    (has-over (0 ∷ []) (1 ∷ header) old shut new (omega arith) c.in_ok-shut_gate.ensures.written
    (has-both 0 1 header shut headed new reach c.in_ok-write_durable.ensures.written opened)))
