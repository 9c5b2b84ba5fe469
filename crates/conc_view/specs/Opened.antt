-- The name of what a view begins with.
use Rattle.conc_view.specs.declared.opened.Opened.{Opened}
use Rattle.conc_view.specs.Names.{Name}

abbrev pub name_of : Opened → Name
name_of opened = record { book = opened.seen.book; number = opened.seat.table_id }
