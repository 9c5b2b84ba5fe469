-- The words of places and of phases with statuses.
use Rattle.std.specs.Prelude.{ℕ, List, ◌++◌, codes}
use Rattle.std.specs.Fmt.{decimal}
use Rattle.conc_types.specs.declared.event.Phase.{Phase}
use Rattle.conc_types.specs.declared.event.Status.{Status}
use Rattle.conc_base_law.specs.Text.{phase_word, status_word}
use Rattle.conc_show_model.specs.declared.model.Place.{Place}

-- M.N
abbrev pub place_text : Place → List ℕ
place_text p = decimal p.manager ++ codes "." ++ decimal p.number

-- the phase, a blank and the status
abbrev pub state_text : Phase → Status → List ℕ
state_text phase status = phase_word phase ++ codes " " ++ status_word status
