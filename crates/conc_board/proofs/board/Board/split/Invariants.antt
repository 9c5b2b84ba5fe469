use Rattle.conc_board.proofs.board.Board.split.Given as goal

abbrev pub ghosts-split_off : goal.ghosts-split_off
ghosts-split_off a = record { passes = a.places.now }
