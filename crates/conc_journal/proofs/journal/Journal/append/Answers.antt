use Rattle.std.proofs.Common.{◌≡◌, ℕ, ◌+◌, ◌*◌, [], ◌∷◌, ◌++◌, List, length, subst, sym, ap, ◌∙◌, refl, arith}
use Rattle.conc_types.specs.declared.event.Event.{Event}
use Rattle.conc_journal_image.specs.Fields.{command_stamp}
use Rattle.conc_journal.specs.Journals.{FitsState}
use Rattle.conc_disk.specs.Left.{EachImage, HasWritten, LeavesOnly, TornFrom}
use Rattle.conc_disk.proofs.Leaving.{leaves-none}
use Rattle.conc_journal.specs.Acknowledged.{event_at, HasEventOf}
use Rattle.conc_journal.specs.JournalStates.{after_fault, takes_events}
use Rattle.conc_journal.specs.Receipts.{event_of, number_of}
use Rattle.conc_journal.specs.declared.journal.JournalState.{JournalState}
use Rattle.conc_journal.proofs.Acknowledging.{append-keeps, event_at-front, event_at-last, on-has}
use Rattle.conc_journal.proofs.Appended.{begun-images, images-fit, images-have, journal-reaches, left-fits}
use Rattle.conc_journal.proofs.journal.Journal.append.Goals as goal

pub add_record-requires-clause-behind : goal.add_record-requires-clause-behind
add_record-requires-clause-behind g c =
    let old = g.D.Disk.state c.args.disk.now in
    let was = begun-images c.args.self.now c.in-Begun.label old c.in-Begun.is c.requires.on in
    journal-reaches c.in-Begun.label c.args.self.now.stamps.items c.args.self.now.events.items c.offset_behind.result old (omega (arith, c.len-before.ensures, c.offset_behind.ensures)) (g.met.D.Disk.seen_is_left c.args.disk.now) was

pub returns-in-Err-clause-on : goal.returns-in-Err-clause-on
returns-in-Err-clause-on g c =
    let old = g.D.Disk.state c.args.disk.now in
    let was = begun-images c.args.self.now c.in-Begun.label old c.in-Begun.is c.requires.on in
    images-fit c.in-Begun.label c.args.self.now.stamps.items c.args.self.now.events.items c.args.event c.args.stamp c.offset_behind.result c.record_before_gate.result (omega (arith, c.len-before.ensures, c.offset_behind.ensures)) (omega (arith, c.args.self.now.few, c.requires.room)) c.record_before_gate.ensures old (g.D.Disk.state c.add_record.new.disk) was
    c.add_record.ensures.survives.exposes c.add_record.ensures.images

pub returns-in-Err-clause-survives : goal.returns-in-Err-clause-survives
returns-in-Err-clause-survives g c =
    let old = g.D.Disk.state c.args.disk.now in
    let new = g.D.Disk.state c.add_record.new.disk in
    let events = c.args.self.now.events.items in
    let was = begun-images c.args.self.now c.in-Begun.label old c.in-Begun.is c.requires.on in
    subst (λ (s : JournalState). LeavesOnly (FitsState (after_fault c.args.event c.args.stamp s) c.args.self.now.stamps.items events) old new) (sym c.in-Begun.is)
    (left-fits c.in-Begun.label c.args.self.now.stamps.items events c.args.event c.args.stamp c.offset_behind.result c.record_before_gate.result (omega (arith, c.len-before.ensures, c.offset_behind.ensures)) (omega (arith, c.args.self.now.few, c.requires.room)) c.record_before_gate.ensures old new was c.add_record.ensures.survives)

pub returns-in-Ok-clause-on : goal.returns-in-Ok-clause-on
returns-in-Ok-clause-on g c =
    let old = g.D.Disk.state c.args.disk.now in
    let new = g.D.Disk.state c.add_record.new.disk in
    let events = c.args.self.now.events.items in
    let was = begun-images c.args.self.now c.in-Begun.label old c.in-Begun.is c.requires.on in
    let have = images-have c.in-Begun.label c.args.self.now.stamps.items events c.args.event c.args.stamp c.offset_behind.result c.record_before_gate.result (omega (arith, c.len-before.ensures, c.offset_behind.ensures)) (omega (arith, c.args.self.now.few, c.requires.room)) c.record_before_gate.ensures old new was
    c.add_record.ensures.survives.exposes c.in-Ok.ensures.added in
    let stamps = c.args.self.now.stamps.items ++ command_stamp c.args.event c.args.stamp in
    subst (λ (l : List Event). EachImage (FitsState c.push.new.self.state c.push.new.self.stamps.items l) new) (sym c.push.ensures.list)
    (subst (λ (t : List ℕ). EachImage (FitsState c.push.new.self.state t (events ++ c.args.event ∷ [])) new) (sym c.push.ensures.stamps)
    (subst (λ (s : JournalState). EachImage (FitsState s stamps (events ++ c.args.event ∷ [])) new) (sym (c.push.ensures.state ∙ c.in-Begun.is)) have))

pub returns-in-Ok-clause-survives : goal.returns-in-Ok-clause-survives
returns-in-Ok-clause-survives g c =
    let old = g.D.Disk.state c.args.disk.now in
    let new = g.D.Disk.state c.add_record.new.disk in
    let events = c.args.self.now.events.items in
    let was = begun-images c.args.self.now c.in-Begun.label old c.in-Begun.is c.requires.on in
    subst (λ (s : JournalState). LeavesOnly (FitsState (after_fault c.args.event c.args.stamp s) c.args.self.now.stamps.items events) old new) (sym c.in-Begun.is)
    (left-fits c.in-Begun.label c.args.self.now.stamps.items events c.args.event c.args.stamp c.offset_behind.result c.record_before_gate.result (omega (arith, c.len-before.ensures, c.offset_behind.ensures)) (omega (arith, c.args.self.now.few, c.requires.room)) c.record_before_gate.ensures old new was c.add_record.ensures.survives)

-- the bytes that it writes, and where

pub returns-in-Ok-clause-written : goal.returns-in-Ok-clause-written
returns-in-Ok-clause-written g c =
    let old = g.D.Disk.state c.args.disk.now in
    let new = g.D.Disk.state c.add_record.new.disk in
    let is = c.record_before_gate.ensures in
    let record_is : HasWritten c.offset_behind.result (1 ∷ (is.0 ++ 0 ∷ [])) old new =
    subst (λ (s : List ℕ). HasWritten c.offset_behind.result (1 ∷ s) old new) is.2 c.in-Ok.ensures.written in
    let here : c.offset_behind.result ≡ 64 + 32 * length c.args.self.now.events.items = omega (arith, c.len-before.ensures, c.offset_behind.ensures) in
    (is.0, record { spelling = is.1; are_bytes = is.3 }, subst (λ (n : ℕ). HasWritten n (1 ∷ (is.0 ++ 0 ∷ [])) old new) here record_is)

pub returns-in-Ok-clause-writes_there : goal.returns-in-Ok-clause-writes_there
returns-in-Ok-clause-writes_there g c =
    let old = g.D.Disk.state c.args.disk.now in
    let new = g.D.Disk.state c.add_record.new.disk in
    let here : c.offset_behind.result ≡ 64 + 32 * length c.args.self.now.events.items = omega (arith, c.len-before.ensures, c.offset_behind.ensures) in
    subst (λ (n : ℕ). LeavesOnly (TornFrom old n 33) old new) here c.add_record.ensures.writes_there

pub returns-in-Err-clause-writes_there : goal.returns-in-Err-clause-writes_there
returns-in-Err-clause-writes_there g c =
    let old = g.D.Disk.state c.args.disk.now in
    let new = g.D.Disk.state c.add_record.new.disk in
    let here : c.offset_behind.result ≡ 64 + 32 * length c.args.self.now.events.items = omega (arith, c.len-before.ensures, c.offset_behind.ensures) in
    subst (λ (n : ℕ). LeavesOnly (TornFrom old n 33) old new) here c.add_record.ensures.writes_there

-- what was acknowledged

pub returns-in-Ok-clause-acknowledged : goal.returns-in-Ok-clause-acknowledged
returns-in-Ok-clause-acknowledged g c =
    let events = c.args.self.now.events.items in
    let takes = ap takes_events c.push.ensures.state ∙ c.requires.takes in
    let there = ap (λ (l : List Event). event_at l (c.len-before.result + 1)) c.push.ensures.list ∙ event_at-last events c.args.event (c.len-before.result + 1) (omega (arith, c.len-before.ensures)) in
    on-has _ c.push.new.self (g.D.Disk.state c.add_record.new.disk) (record { takes = takes; at_number = there }) (returns-in-Ok-clause-on g c)

pub returns-in-Ok-clause-stays : goal.returns-in-Ok-clause-stays
returns-in-Ok-clause-stays g c = λ receipt keeps.
    let events = c.args.self.now.events.items in
    let takes = ap takes_events c.push.ensures.state ∙ c.requires.takes in
    let there = ap (λ (l : List Event). event_at l (number_of receipt)) c.push.ensures.list ∙ event_at-front events (c.args.event ∷ []) (number_of receipt) (event_of receipt) keeps.at_number in
    append-keeps receipt c.args.event c.args.stamp c.args.self.now c.push.new.self (g.D.Disk.state c.args.disk.now) (g.D.Disk.state c.add_record.new.disk) keeps (record { takes = takes; at_number = there }) (returns-in-Ok-clause-on g c) (returns-in-Ok-clause-survives g c)

pub returns-in-Err-clause-stays : goal.returns-in-Err-clause-stays
returns-in-Err-clause-stays g c = λ receipt keeps.
    append-keeps receipt c.args.event c.args.stamp c.args.self.now _ (g.D.Disk.state c.args.disk.now) (g.D.Disk.state c.add_record.new.disk) keeps (record { takes = refl; at_number = keeps.at_number }) (returns-in-Err-clause-on g c) (returns-in-Err-clause-survives g c)

pub returns-in_default-clause-stays : goal.returns-in_default-clause-stays
returns-in_default-clause-stays g c = λ receipt keeps. record {
  now = on-has receipt c.args.self.now (g.D.Disk.state c.args.disk.now) keeps c.requires.on;
  at_each_moment = leaves-none (HasEventOf receipt) (g.D.Disk.state c.args.disk.now);
}
