use Rattle.conc_journal_image.proofs.Pieces.{first-none}
use Rattle.conc_journal_image.proofs.found.Found.with_room.Goals as goal

pub returns-clause-first : goal.returns-clause-first
returns-clause-first c = λ image. first-none image _ c.in_ok-with_capacity.ensures.items c.new.ensures.items
