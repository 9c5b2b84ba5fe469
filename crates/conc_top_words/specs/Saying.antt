-- What is read of the words behind `run`, as the definitions see it.
use Rattle.std.specs.Prelude.{◌++◌, map}
use Rattle.conc_top_words.specs.declared.options.Said.{Said}
use Rattle.conc_top_words.specs.Words.{Said as Meant}

abbrev pub shown : Said → Meant
shown s = record {
  threads = map (λ w. w.now) s.threads.items;
  watch = map (λ w. w.now) s.watch.items;
  files = map (λ w. w.now) s.files.items;
}

-- what words say, and then the words behind them
abbrev pub before : Meant → Meant → Meant
before first more = record {
  threads = first.threads ++ more.threads;
  watch = first.watch ++ more.watch;
  files = first.files ++ more.files;
}
