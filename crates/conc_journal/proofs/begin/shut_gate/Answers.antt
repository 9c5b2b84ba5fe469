use Rattle.std.proofs.Common.{◌≡◌, ℕ, List, [], ◌∷◌, length, arith}
use Rattle.conc_journal.specs.Records.{IsShut, IsUnbegun}
use Rattle.conc_journal.proofs.Begins.{long-shut, torn-short}
use Rattle.conc_disk.proofs.Leaving.{leaves-twice}
use Rattle.conc_disk.specs.Left.{HasWritten}
use Rattle.conc_journal.proofs.Steps.{each-more, each-torn, left-from, left-torn, on-ok, settled}
use Rattle.conc_journal.proofs.Written.{follows-more, follows-none, has-from, has-shut, there-more, there-none}
use Rattle.conc_journal.proofs.begin.shut_gate.Goals as goal

pub returns-then-length-gt1-clause-shut : goal.returns-then-length-gt1-clause-shut
returns-then-length-gt1-clause-shut g c =
    let old = g.D.Disk.state c.args.disk.now in
    let new = g.D.Disk.state c.settle.new.disk in
    let n = c.in_ok-length.length in
    each-more (λ (image : List ℕ). IsUnbegun image × (n ≡ length image)) IsShut new
    (settled IsUnbegun n old new c.requires c.settle.ensures.stays c.in_ok-length.ensures.durable c.in_ok-length.ensures.length)
    (λ image is. long-shut image (omega (arith, is.1)) is.0)

pub returns-clause-images : goal.returns-clause-images
returns-clause-images g c =
    let old = g.D.Disk.state c.args.disk.now in
    let mid = g.D.Disk.state c.settle.new.disk in
    let new = g.D.Disk.state c.write_durable.new.disk in
    let n = c.in_ok-length.length in
    each-torn (λ (image : List ℕ). IsUnbegun image × (n ≡ length image)) IsUnbegun 0 1 mid new c.write_durable.ensures.survives.exposes
    (settled IsUnbegun n old mid c.requires c.settle.ensures.stays c.in_ok-length.ensures.durable c.in_ok-length.ensures.length)
    c.write_durable.ensures.images
    (λ before image was torn. torn-short before image (omega (arith, was.1)) torn)

pub returns-clause-survives : goal.returns-clause-survives
returns-clause-survives g c =
    let old = g.D.Disk.state c.args.disk.now in
    let mid = g.D.Disk.state c.settle.new.disk in
    let new = g.D.Disk.state c.write_durable.new.disk in
    let n = c.in_ok-length.length in
    leaves-twice IsUnbegun old mid new (left-from old.may_leave IsUnbegun IsUnbegun old mid c.requires c.settle.ensures.survives (λ was image is. was image is))
    (left-torn (λ (image : List ℕ). IsUnbegun image × (n ≡ length image)) IsUnbegun 0 1 mid new
    (settled IsUnbegun n old mid c.requires c.settle.ensures.stays c.in_ok-length.ensures.durable c.in_ok-length.ensures.length)
    c.write_durable.ensures.survives (λ before image was torn. torn-short before image (omega (arith, was.1)) torn))

-- what is written, and where

pub returns-then-length-gt1-clause-written : goal.returns-then-length-gt1-clause-written
returns-then-length-gt1-clause-written g c =
    has-shut c.in_ok-length.length (g.D.Disk.state c.args.disk.now) (g.D.Disk.state c.settle.new.disk) (omega arith) (g.met.D.Disk.seen_is_left c.args.disk.now) c.requires c.in_ok-length.ensures.durable c.settle.ensures.stays c.in_ok-length.ensures.length

pub returns-then-length-gt1-clause-there : goal.returns-then-length-gt1-clause-there
returns-then-length-gt1-clause-there g c = follows-none 0 1 (g.D.Disk.state c.args.disk.now) (g.D.Disk.state c.settle.new.disk) c.settle.ensures.stays

pub returns-then-length-gt1-clause-writes_there : goal.returns-then-length-gt1-clause-writes_there
returns-then-length-gt1-clause-writes_there g c = there-none 0 1 (g.D.Disk.state c.args.disk.now) (g.D.Disk.state c.settle.new.disk) c.settle.ensures.survives

pub returns-in_err-length-clause-there : goal.returns-in_err-length-clause-there
returns-in_err-length-clause-there g c = follows-none 0 1 (g.D.Disk.state c.args.disk.now) (g.D.Disk.state c.settle.new.disk) c.settle.ensures.stays

pub returns-in_err-length-clause-writes_there : goal.returns-in_err-length-clause-writes_there
returns-in_err-length-clause-writes_there g c = there-none 0 1 (g.D.Disk.state c.args.disk.now) (g.D.Disk.state c.settle.new.disk) c.settle.ensures.survives

pub returns-clause-written : goal.returns-clause-written
returns-clause-written g c =
    let old = g.D.Disk.state c.args.disk.now in
    let mid = g.D.Disk.state c.settle.new.disk in
    let new = g.D.Disk.state c.write_durable.new.disk in
    on-ok c.write_durable.result (HasWritten 0 (0 ∷ []) mid new) (HasWritten 0 (0 ∷ []) old new) c.write_durable.ensures.written (λ done. has-from 0 (0 ∷ []) old mid new c.settle.ensures.stays.seen done)

pub returns-clause-there : goal.returns-clause-there
returns-clause-there g c =
    let old = g.D.Disk.state c.args.disk.now in
    let mid = g.D.Disk.state c.settle.new.disk in
    follows-more 0 1 old 0 1 mid (g.D.Disk.state c.write_durable.new.disk) (omega arith) (omega arith) (follows-none 0 1 old mid c.settle.ensures.stays) c.write_durable.ensures.images

pub returns-clause-writes_there : goal.returns-clause-writes_there
returns-clause-writes_there g c =
    let old = g.D.Disk.state c.args.disk.now in
    let mid = g.D.Disk.state c.settle.new.disk in
    there-more 0 1 old 0 1 mid (g.D.Disk.state c.write_durable.new.disk) (omega arith) (omega arith) (there-none 0 1 old mid c.settle.ensures.survives) (follows-none 0 1 old mid c.settle.ensures.stays) c.write_durable.ensures.survives
