use Rattle.conc_view.specs.Opened.{name_of}
use Rattle.conc_test_view.proofs.tests.who_looks_at_the_end_alone_sees_all.Given as goal

-- the name of what was just opened
abbrev pub ghosts-last_look_alone : goal.ghosts-last_look_alone
ghosts-last_look_alone g a = record { name = name_of a.opened }
