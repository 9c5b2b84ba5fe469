use Rattle.std.proofs.Common.{◌∙◌, ◌*◌, ◌-◌, ap, arith, drop, length, subst}
use Rattle.std.proofs.lemmas.List.{drop-drop, length-drop}
use Rattle.conc_journal_image.specs.Finding.{Leads}
use Rattle.conc_journal_image.specs.declared.found.Search.{Search}
use Rattle.conc_journal_image.proofs.Pieces.{begins-behind}
use Rattle.conc_journal_image.proofs.found.Found.take.Goals as goal

pub returns-in-Ended-clause-leads : goal.returns-in-Ended-clause-leads
returns-in-Ended-clause-leads c = λ image first begins.
    let l = c.loop-rest in
    let k = 32 * (length l.self.events.items - length c.args.self.now.events.items) in
    c.in_ok-search.ensures.leads image (l.invariant.first image first begins)
    (begins-behind image c.args.bytes.now l.rest.now c.args.self.now l.self k begins (omega (arith, l.invariant.more)) (omega (arith, l.invariant.more, l.invariant.within)) l.invariant.rest)

pub loop-rest-preserved : goal.loop-rest-preserved
loop-rest-preserved c =
    let l = c.loop-rest in
    let before = length c.args.self.now.events.items in
    let k = 32 * (length l.self.events.items - before) in
    let one = c.in_ok-search.ensures.one c.in-GoesOn.is in
    let size = ap length l.invariant.rest ∙ length-drop k c.args.bytes.now in
    record {
      counted = c.in_ok-search.ensures.counted;
      more = omega (arith, l.invariant.more, one);
      within = omega (arith, l.invariant.more, l.invariant.within, one, size, c.loop-rest-test.true);
      rest =
          c.behind_record-rest.ensures
          ∙ ap (λ xs. drop 32 xs) l.invariant.rest
          ∙ drop-drop 32 k c.args.bytes.now
          ∙ ap (λ n. drop n c.args.bytes.now) (omega (arith, l.invariant.more, one));
      first = λ image first begins.
          let leads =
          c.in_ok-search.ensures.leads image (l.invariant.first image first begins)
          (begins-behind image c.args.bytes.now l.rest.now c.args.self.now l.self k begins (omega (arith, l.invariant.more)) (omega (arith, l.invariant.more, l.invariant.within)) l.invariant.rest) in
          subst (λ (s : Search). Leads image c.take_one.new.self s) c.in-GoesOn.is leads;
    }

pub loop-rest-smaller : goal.loop-rest-smaller
loop-rest-smaller c = omega (arith, ap length c.behind_record-rest.ensures, length-drop 32 c.loop-rest.rest.now, c.loop-rest-test.true)
