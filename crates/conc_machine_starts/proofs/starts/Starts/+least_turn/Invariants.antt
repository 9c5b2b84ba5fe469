use Rattle.conc_machine_starts.proofs.starts.Starts.+least_turn.Given as goal

abbrev pub decreases-least_turn : goal.decreases-least_turn
decreases-least_turn l = l.count
