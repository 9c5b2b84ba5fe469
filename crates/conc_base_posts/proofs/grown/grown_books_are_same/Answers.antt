use Rattle.conc_base_posts.proofs.SameBooks.{say_the_same}
use Rattle.conc_base_posts.proofs.grown.grown_books_are_same.Goals as goal

pub returns : goal.returns
returns c = say_the_same
