use Rattle.std.proofs.Common.{◌≡◌, ◌++◌, [], ◌∷◌, IsTrue, rules, ◌∙◌}
use Rattle.conc_edge_devices.specs.declared.trace.Act.TheVariants.{Write}
use Rattle.conc_edge_devices.specs.declared.trace.Change.{Change}
use Rattle.conc_edge_devices.specs.Trace.{act_fits, after_act, start_of}
use Rattle.conc_edge_devices.proofs.Changes.{copy-stays, fit-more, replays-push}
use Rattle.conc_edge_devices.proofs.trace.Trace.write.Goals as goal

pub invariant_of-self-in-Ok : goal.invariant_of-self-in-Ok
invariant_of-self-in-Ok c =
    let old = c.args.self.now in
    let begun = c.begin.new.self in
    let y : Change = record { number = c.args.number; act = Write c.args.at c.in_ok-to_vec.field-0 } in
    let same : start_of begun.first c.put.new.bytes.items ≡ start_of old.first old.bytes.items = copy-stays begun.first begun.bytes.items c.put.new.bytes.items c.in_ok-begin.ensures.begun ∙ c.begin.ensures.stays.start in
    let more : c.push.new.self.items ≡ old.changes.items ++ y ∷ [] = search rules in
    let is : c.put.new.bytes.items ≡ after_act y.act old.bytes.items = search rules in
    let fits : IsTrue (act_fits y.act old.bytes.items) = search (rules, c.requires) in
    record {
      replays = replays-push old.changes.items _ y _ _ old.bytes.items _ old.replays same more is;
      fit = fit-more old.changes.items _ y _ _ old.bytes.items old.replays old.fit same more fits;
    }

pub returns-in-Ok-clause-written : goal.returns-in-Ok-clause-written
returns-in-Ok-clause-written c =
    let old = c.args.self.now in
    let begun = c.begin.new.self in
    let y : Change = record { number = c.args.number; act = Write c.args.at c.in_ok-to_vec.field-0 } in
    let copied : c.in_ok-to_vec.field-0.items ≡ c.args.bytes.now = search rules in
    let same : start_of begun.first c.put.new.bytes.items ≡ start_of old.first old.bytes.items = copy-stays begun.first begun.bytes.items c.put.new.bytes.items c.in_ok-begin.ensures.begun ∙ c.begin.ensures.stays.start in
    let more : c.push.new.self.items ≡ old.changes.items ++ y ∷ [] = search rules in
    (c.in_ok-to_vec.field-0, copied, record { start = same; changes = more })
