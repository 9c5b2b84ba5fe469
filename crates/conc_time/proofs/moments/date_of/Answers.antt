use Rattle.std.proofs.Common.{◌≡◌, ◌∙◌, ◌+ℤ◌, ◌-ℤ◌, pos, to_z, w64, arith}
use Rattle.jiff.proofs.SpanFacts.{can_add-days, date_add-days, signed_arith}
use Rattle.jiff_core.specs.Date.{epoch_day}
use Rattle.jiff_core.proofs.SignedLemmas.{back_small}
use Rattle.conc_time.proofs.Calendars.{first_day}
use Rattle.conc_time.proofs.moments.date_of.Goals as goal

pub unwrap-requires : goal.unwrap-requires
unwrap-requires c =
    let back : to_z w64 c.args.day ≡ pos c.args.day = back_small w64 (pos c.args.day) (omega arith) in
    let only = rw back at c.days.ensures in
    let first = first_day c.date.result c.date.ensures.0 c.date.ensures.1 c.date.ensures.2 in
    c.checked_add.ensures.succeeds.1 ((can_add-days c.date.result (pos c.args.day) c.days.result only).1 (omega (arith, signed_arith), omega (arith, signed_arith)))

pub returns : goal.returns
returns c =
    let back : to_z w64 c.args.day ≡ pos c.args.day = back_small w64 (pos c.args.day) (omega arith) in
    let only = rw back at c.days.ensures in
    let first = first_day c.date.result c.date.ensures.0 c.date.ensures.1 c.date.ensures.2 in
    let moved = date_add-days c.date.result (pos c.args.day) c.days.result only in
    let value = rw c.unwrap.ensures at c.checked_add.ensures.value in
    let total : epoch_day c.date.result +ℤ pos c.args.day ≡ pos c.args.day -ℤ pos 719162 = omega (arith, signed_arith) in
    value ∙ (moved ∙ total)
