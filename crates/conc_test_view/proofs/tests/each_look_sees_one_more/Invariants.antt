use Rattle.conc_view.specs.Opened.{name_of}
use Rattle.conc_test_view.proofs.tests.each_look_sees_one_more.Given as goal

-- the name of what was just opened
abbrev pub ghosts-looks_after_each : goal.ghosts-looks_after_each
ghosts-looks_after_each g a = record { name = name_of a.opened }
