use Rattle.std.proofs.Common.{Some, ap, ◌∙◌, rules, subst, ℕ, List, length}
use Rattle.conc_disk.specs.Disk.{Torn, written}
use Rattle.conc_edge_devices.specs.Grows.{Grows}
use Rattle.conc_edge_devices.specs.declared.trace.Act.TheVariants.{Write}
use Rattle.conc_edge_devices.proofs.Grown.{bytes-grown, images-grown, later-grown}
use Rattle.conc_edge_devices.proofs.memory.MemDiskDisk.write_at.Goals as goal

pub returns-in-Ok-clause-kept : goal.returns-in-Ok-clause-kept
returns-in-Ok-clause-kept c =
    let grown = c.in-Ok.ensures.written in record {
      later = later-grown _ _ _ _ grown.2 _ _ c.begin.ensures.faults;
      written = ap Some (bytes-grown _ _ _ _ grown.2 ∙ ap (λ (l : List ℕ). written c.args.at l c.args.self.now.trace.bytes.items) grown.1);
      torn = search rules;
      images = λ image left.
          let split = images-grown _ _ _ _ grown.2 image left in
          (split.0, split.1, subst (λ (l : List ℕ). Torn c.args.at (length l) split.0 image) grown.1 split.2);
      failed = search rules;
    }

pub returns-in-Ok-clause-traced : goal.returns-in-Ok-clause-traced
returns-in-Ok-clause-traced c =
    let grown = c.in-Ok.ensures.written in
    (grown.0, grown.1, subst (λ (n : ℕ). Grows c.args.self.now.trace c.write.new.self n (Write c.args.at grown.0)) c.in_ok-number.ensures.number grown.2)
