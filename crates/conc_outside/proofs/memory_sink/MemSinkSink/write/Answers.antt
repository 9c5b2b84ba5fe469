use Rattle.std.proofs.Common.{rules, inl, refl, IsTrue}
use Rattle.conc_outside.specs.Writes.{coming_fails}
use Rattle.conc_outside.proofs.memory_sink.MemSinkSink.write.Goals as goal

pub returns-then-contains-clause-exact : goal.returns-then-contains-clause-exact
returns-then-contains-clause-exact c =
    let listed : IsTrue (coming_fails c.args.self.now) = search rules in
    record {
      write = search rules;
      fails = refl;
      starved = search rules;
      cause = λ _. inl listed;
      listed = λ _. refl;
      want = search rules;
      no_fault = search rules;
    }
