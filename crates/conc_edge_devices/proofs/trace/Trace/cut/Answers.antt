use Rattle.std.proofs.Common.{◌≡◌, ◌++◌, [], ◌∷◌, refl, rules, ◌∙◌}
use Rattle.conc_edge_devices.specs.declared.trace.Act.TheVariants.{Cut}
use Rattle.conc_edge_devices.specs.declared.trace.Change.{Change}
use Rattle.conc_edge_devices.specs.Trace.{after_act, start_of}
use Rattle.conc_edge_devices.proofs.Changes.{copy-stays, fit-more, replays-push}
use Rattle.conc_edge_devices.proofs.trace.Trace.cut.Goals as goal

pub invariant_of-self-2 : goal.invariant_of-self-2
invariant_of-self-2 c =
    let old = c.args.self.now in
    let begun = c.begin.new.self in
    let y : Change = record { number = c.args.number; act = Cut c.args.len } in
    let same : start_of begun.first c.truncate.new.self.items ≡ start_of old.first old.bytes.items = copy-stays begun.first begun.bytes.items c.truncate.new.self.items c.in_ok-begin.ensures.begun ∙ c.begin.ensures.stays.start in
    let more : c.push.new.self.items ≡ old.changes.items ++ y ∷ [] = search rules in
    let is : c.truncate.new.self.items ≡ after_act y.act old.bytes.items = search rules in
    record {
      replays = replays-push old.changes.items _ y _ _ old.bytes.items _ old.replays same more is;
      fit = fit-more old.changes.items _ y _ _ old.bytes.items old.replays old.fit same more refl;
    }
