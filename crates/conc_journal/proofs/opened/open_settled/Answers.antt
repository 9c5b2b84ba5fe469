use Rattle.std.proofs.Common.{◌≡◌, IfSome, List, Option, arith, subst, sym, take, ℕ}
use Rattle.conc_journal.specs.Opens.{HasRecordsOf}
use Rattle.conc_journal_image.specs.Image.{has_header}
use Rattle.conc_journal.proofs.Opening.{begun-there, foreign-there, front-read, header-far, not-begun-there}
use Rattle.conc_journal.proofs.opened.open_settled.Goals as goal
use Rattle.std.specs.Prelude.{IsTrue}

pub returns-in-NotBegun-clause-found : goal.returns-in-NotBegun-clause-found
returns-in-NotBegun-clause-found g c =
    let seen = (g.D.Disk.state c.args.disk.now).seen in
    let front = c.in_ok-front.front.items in
    let is = front-read seen c.args.end 65 front c.requires c.in_ok-front.ensures.bytes (omega (arith, c.in_ok-front.ensures.size, c.min.ensures)) in
    not-begun-there seen c.deref.result.now c.not_begun.result (subst (λ (l : List ℕ). IfSome seen (λ image. l ≡ take 65 image)) (sym c.deref.ensures.value) is)
    c.in-NotBegun.ensures c.not_begun.ensures.label c.not_begun.ensures.events c.not_begun.ensures.stamps c.not_begun.ensures.broken

pub open_begun-requires-clause-header : goal.open_begun-requires-clause-header
open_begun-requires-clause-header g c =
    header-far c.in_ok-front.front.items c.args.end (subst (λ (l : List ℕ). IsTrue (has_header l)) c.deref.ensures.value c.in-Begun.ensures.0) (omega (arith, c.in_ok-front.ensures.size, c.min.ensures))

pub returns-in-Begun-clause-found : goal.returns-in-Begun-clause-found
returns-in-Begun-clause-found g c =
    let seen = (g.D.Disk.state c.args.disk.now).seen in
    let front = c.in_ok-front.front.items in
    let is = front-read seen c.args.end 65 front c.requires c.in_ok-front.ensures.bytes (omega (arith, c.in_ok-front.ensures.size, c.min.ensures)) in
    begun-there seen c.deref.result.now c.in-Begun.label c.in_ok-open_begun-in-Begun.field-0 (subst (λ (l : List ℕ). IfSome seen (λ image. l ≡ take 65 image)) (sym c.deref.ensures.value) is)
    c.in-Begun.ensures.0 c.in-Begun.ensures.1 c.in_ok-open_begun-in-Begun.ensures.label
    (subst (λ (s : Option (List ℕ)). IfSome s (λ image. HasRecordsOf image c.in_ok-open_begun-in-Begun.field-0)) c.read_at.ensures.read.stays.seen c.in_ok-open_begun-in-Begun.ensures.found)

pub returns-clause-not_journal : goal.returns-clause-not_journal
returns-clause-not_journal g c = λ refused.
    let seen = (g.D.Disk.state c.args.disk.now).seen in
    let front = c.in_ok-front.front.items in
    let is = front-read seen c.args.end 65 front c.requires c.in_ok-front.ensures.bytes (omega (arith, c.in_ok-front.ensures.size, c.min.ensures)) in
    foreign-there seen c.deref.result.now (subst (λ (l : List ℕ). IfSome seen (λ image. l ≡ take 65 image)) (sym c.deref.ensures.value) is) c.in-Foreign.ensures.0 c.in-Foreign.ensures.1
