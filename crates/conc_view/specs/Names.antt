-- Names of views.
use Rattle.std.specs.Prelude.{[]}
use Rattle.atomic_table.specs.Seated.{TableId}
use Rattle.logbook.specs.Pages.{Book}

-- which book and which shared number are those of a view
pub record Name : Type 0 where
  pub book : Book
  pub number : TableId

-- a name that no view has picked
abbrev pub no_name : Name
no_name = record {
  book = record { number = 0; log_name = 0; cells_name = 0 };
  number = record { words = 0; slots = 0; views_name = 0; atom = 0; block = 0; offset = 0; slot_names = [] };
}
