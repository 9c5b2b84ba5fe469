use Rattle.std.proofs.Common.{◌≡◌, ℕ, ◌+◌, ◌*◌, List, length, take, refl, sym, ap, subst, ◌∙◌}
use Rattle.conc_types.specs.declared.event.Event.{Event}
use Rattle.conc_disk.specs.Left.{EachImage, LeavesOnly}
use Rattle.conc_disk.specs.Disk.{Reaches}
use Rattle.conc_journal_image.specs.Headers.{migrated}
use Rattle.conc_journal_image.specs.Image.{IsJournal}
use Rattle.conc_journal_image.specs.declared.label.Label.{Label}
use Rattle.conc_journal_image.specs.declared.label.Version.TheVariants.{One}
use Rattle.conc_journal.specs.Journals.{FitsState}
use Rattle.conc_journal.specs.Migrating.{IsOfOne}
use Rattle.conc_journal.specs.declared.journal.JournalState.TheVariants.{MigrateFailed}
use Rattle.conc_journal.proofs.Acknowledging.{migrate-keeps}
use Rattle.conc_journal.proofs.Appended.{begun-images, journal-reaches}
use Rattle.conc_journal.proofs.Versions.{one-images, same-begun}
use Rattle.conc_journal.proofs.journal.Journal.migrate.Goals as goal

pub write_version-requires-clause-reaches : goal.write_version-requires-clause-reaches
write_version-requires-clause-reaches g c =
    let old = g.D.Disk.state c.args.disk.now in
    let journal = c.args.self.now in
    subst
    (λ (es : List Event). Reaches old (64 + 32 * length es + 1))
    (sym c.deref.ensures.value)
    (journal-reaches
    c.in-Begun.label journal.stamps.items journal.events.items (64 + 32 * length journal.events.items) old refl
    (g.met.D.Disk.seen_is_left c.args.disk.now)
    (begun-images journal c.in-Begun.label old c.in-Begun.is c.requires.on))

pub returns-in-Ok-clause-on : goal.returns-in-Ok-clause-on
returns-in-Ok-clause-on g c =
    let old = g.D.Disk.state c.args.disk.now in
    let new = g.D.Disk.state c.write_version.new.disk in
    let label = c.in-Begun.label in
    let base = c.base_of-base.result in
    let events = c.args.self.now.events.items in
    let same : c.requires.begun.0 ≡ label = same-begun c.requires.begun.0 label c.args.self.now.state c.requires.begun.1 c.in-Begun.is in
    let one : label.version ≡ One = ap (λ l. l.version) (sym same) ∙ c.requires.begun.2 in
    let each : EachImage (IsOfOne label c.deref.result.now) old =
    subst (λ (es : List Event). EachImage (IsOfOne label es) old) (sym c.deref.ensures.value) (one-images c.args.self.now label old one c.in-Begun.is c.requires.on) in
    subst (λ (l : Label). EachImage (IsJournal l c.copy_from_slice.new.self.items events) new) (sym c.migrated.ensures)
    (subst (λ (s : List ℕ). EachImage (IsJournal (migrated label base) s events) new) (sym c.copy_from_slice.ensures.items)
    (subst (λ (es : List Event). EachImage (IsJournal (migrated label base) c.args.stamps.now es) new) c.deref.ensures.value
    (c.in-Ok.ensures.turned label one each)))

pub returns-in-Err-clause-on : goal.returns-in-Err-clause-on
returns-in-Err-clause-on g c =
    let old = g.D.Disk.state c.args.disk.now in
    let new = g.D.Disk.state c.write_version.new.disk in
    let label = c.in-Begun.label in
    let base = c.base_of-base.result in
    let events = c.args.self.now.events.items in
    let same : c.requires.begun.0 ≡ label = same-begun c.requires.begun.0 label c.args.self.now.state c.requires.begun.1 c.in-Begun.is in
    let one : label.version ≡ One = ap (λ l. l.version) (sym same) ∙ c.requires.begun.2 in
    let each : EachImage (IsOfOne label c.deref.result.now) old =
    subst (λ (es : List Event). EachImage (IsOfOne label es) old) (sym c.deref.ensures.value) (one-images c.args.self.now label old one c.in-Begun.is c.requires.on) in
    subst (λ (s : List ℕ). EachImage (FitsState (MigrateFailed label base) s events) new) (sym c.copy_from_slice.ensures.items)
    (subst (λ (es : List Event). EachImage (FitsState (MigrateFailed label base) c.args.stamps.now es) new) c.deref.ensures.value
    (c.write_version.ensures.images label one each))

pub returns-in-Ok-clause-survives : goal.returns-in-Ok-clause-survives
returns-in-Ok-clause-survives g c = λ told is.
    let old = g.D.Disk.state c.args.disk.now in
    let new = g.D.Disk.state c.write_version.new.disk in
    let label = c.in-Begun.label in
    let base = c.base_of-base.result in
    let events = c.args.self.now.events.items in
    let same : c.requires.begun.0 ≡ label = same-begun c.requires.begun.0 label c.args.self.now.state c.requires.begun.1 c.in-Begun.is in
    let one : label.version ≡ One = ap (λ l. l.version) (sym same) ∙ c.requires.begun.2 in
    let each : EachImage (IsOfOne label c.deref.result.now) old =
    subst (λ (es : List Event). EachImage (IsOfOne label es) old) (sym c.deref.ensures.value) (one-images c.args.self.now label old one c.in-Begun.is c.requires.on) in
    subst (λ (l : Label). LeavesOnly (FitsState (MigrateFailed l (take 15 c.args.base.now)) c.args.stamps.now events) old new)
    (same-begun label told c.args.self.now.state c.in-Begun.is is)
    (subst (λ (b : List ℕ). LeavesOnly (FitsState (MigrateFailed label b) c.args.stamps.now events) old new) c.base_of-base.ensures
    (subst (λ (es : List Event). LeavesOnly (FitsState (MigrateFailed label base) c.args.stamps.now es) old new) c.deref.ensures.value
    (c.write_version.ensures.survives label one each)))

pub returns-in-Err-clause-survives : goal.returns-in-Err-clause-survives
returns-in-Err-clause-survives g c = λ told is.
    let old = g.D.Disk.state c.args.disk.now in
    let new = g.D.Disk.state c.write_version.new.disk in
    let label = c.in-Begun.label in
    let base = c.base_of-base.result in
    let events = c.args.self.now.events.items in
    let same : c.requires.begun.0 ≡ label = same-begun c.requires.begun.0 label c.args.self.now.state c.requires.begun.1 c.in-Begun.is in
    let one : label.version ≡ One = ap (λ l. l.version) (sym same) ∙ c.requires.begun.2 in
    let each : EachImage (IsOfOne label c.deref.result.now) old =
    subst (λ (es : List Event). EachImage (IsOfOne label es) old) (sym c.deref.ensures.value) (one-images c.args.self.now label old one c.in-Begun.is c.requires.on) in
    subst (λ (l : Label). LeavesOnly (FitsState (MigrateFailed l (take 15 c.args.base.now)) c.args.stamps.now events) old new)
    (same-begun label told c.args.self.now.state c.in-Begun.is is)
    (subst (λ (b : List ℕ). LeavesOnly (FitsState (MigrateFailed label b) c.args.stamps.now events) old new) c.base_of-base.ensures
    (subst (λ (es : List Event). LeavesOnly (FitsState (MigrateFailed label base) c.args.stamps.now es) old new) c.deref.ensures.value
    (c.write_version.ensures.survives label one each)))

pub returns-in-Ok-clause-stays : goal.returns-in-Ok-clause-stays
returns-in-Ok-clause-stays g c = λ receipt keeps.
    migrate-keeps
    receipt c.in-Begun.label (take 15 c.args.base.now) c.args.stamps.now c.args.self.now _ (g.D.Disk.state c.args.disk.now) (g.D.Disk.state c.write_version.new.disk) keeps
    (record { takes = refl; at_number = keeps.at_number }) (returns-in-Ok-clause-on g c) (returns-in-Ok-clause-survives g c c.in-Begun.label c.in-Begun.is)

pub returns-in-Err-clause-stays : goal.returns-in-Err-clause-stays
returns-in-Err-clause-stays g c = λ receipt keeps.
    migrate-keeps
    receipt c.in-Begun.label (take 15 c.args.base.now) c.args.stamps.now c.args.self.now _ (g.D.Disk.state c.args.disk.now) (g.D.Disk.state c.write_version.new.disk) keeps
    (record { takes = refl; at_number = keeps.at_number }) (returns-in-Err-clause-on g c) (returns-in-Err-clause-survives g c c.in-Begun.label c.in-Begun.is)
