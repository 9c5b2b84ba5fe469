-- Which programs post, and which of them meet at a table.
use Rattle.std.specs.Prelude.{◌≡◌, ℕ, ◌-◌, Bool, not, ◌&&◌, ◌||◌, ◌==◌, nat_le, List, [], ◌∷◌, length, Option, None, Some, is_some}
use Rattle.std.specs.List.{list_any, enumerate_from}
use Rattle.std.specs.Str.{bytes_eq}
use Rattle.conc_types.specs.declared.item.Entry.{Entry}
use Rattle.conc_types.specs.declared.item.Item.TheVariants as item
use Rattle.conc_types.specs.declared.kind.RefusalKind.{RefusalKind}
use Rattle.conc_types.specs.declared.kind.RefusalKind.TheVariants as refused
use Rattle.conc_types.specs.declared.plan.Plan.{Plan}
use Rattle.conc_types.specs.declared.plan.Req.{Req}
use Rattle.conc_types.specs.declared.program.Program.{Program}
use Rattle.conc_types.specs.declared.setup.Setup.{Setup}
use Rattle.conc_types.specs.declared.table.Table.{Table}
use Rattle.conc_types.specs.Faults.{Fault, first_broken, first_fault}
use Rattle.conc_types.specs.Tables.{table_named}
use Rattle.conc_types.specs.Words.{none_or, numbered, some_and}
use Rattle.conc_base_law.specs.Exclusion.{is_global}
use Rattle.conc_base_law.specs.Plans.{program_of}
use Rattle.conc_base_law.specs.Words.{item_eq}

-- the program posts to the table with this name
abbrev pub posts_to : List ℕ → Program → Bool
posts_to table program = some_and (bytes_eq table) program.post

-- some program of the setup posts to it, whether or not that program is enabled, admitted or ever submitted
unfoldable pub is_posted_to : Setup → List ℕ → Bool
is_posted_to setup table = list_any (posts_to table) setup.programs

-- it posts, or it reads a table to which some program posts
unfoldable pub touches_posts : Setup → Program → Bool
touches_posts setup program = is_some program.post || is_posted_to setup program.job.table

-- the request's program touches postings
unfoldable pub is_book_request : Plan → Req → Bool
is_book_request plan r = some_and (touches_posts plan.setup) (program_of plan r)

-- ---- the judgement of a setup

-- the program reads the table, or posts to it
abbrev pub uses : List ℕ → Program → Bool
uses table program = bytes_eq table program.job.table || posts_to table program

-- one of the two posts to a table that the other reads or posts to
unfoldable pub meet : Program → Program → Bool
meet a b = some_and (λ table. uses table b) a.post || some_and (λ table. uses table a) b.post

-- an entry of type global names the programs with these places, in either order
unfoldable pub names_both : ℕ → ℕ → Entry → Bool
names_both a b entry =
    is_global entry.reach
    && ((item_eq entry.owner (item.Program a) && item_eq entry.other (item.Program b))
    || (item_eq entry.owner (item.Program b) && item_eq entry.other (item.Program a)))

unfoldable pub are_kept_apart : Setup → ℕ → ℕ → Bool
are_kept_apart setup a b = list_any (names_both a b) setup.entries

-- the program posts to no table, or to one of the setup's that has two columns
unfoldable pub has_target : Setup → List Table → Program → Bool
has_target setup tables program =
    none_or (λ name. some_and (λ table. length table.columns == 2) (table_named setup tables name)) program.post

-- the program meets the one at this place, which stands before it or is the same, and no entry keeps them apart
abbrev pub clashes : Setup → ℕ → Program → ℕ × Program → Bool
clashes setup place program other =
    nat_le other.0 place && (meet other.1 program && not (are_kept_apart setup other.0 place))

-- the first rule that the program with this number breaks
unfoldable pub post_kind : Setup → List Table → ℕ → Option RefusalKind
post_kind setup tables number =
    by_program (numbered setup.programs number)
  where
    by_program : Option Program → Option RefusalKind
    by_program None = None
    by_program (Some program) =
        first_broken ((not (has_target setup tables program), refused.BadTarget)
        ∷ (list_any (clashes setup (number - 1) program) (enumerate_from 0 setup.programs), refused.NotExclusive) ∷ [])

-- the first fault of the postings of a setup; a line is the number of a program
unfoldable pub posts_fault : Setup → List Table → Option Fault
posts_fault setup tables = first_fault (post_kind setup tables) 1 (length setup.programs)

-- the postings of a plan are apart: their tables are there, and programs that meet at one never run at the same time
abbrev pub ArePostsApart : Plan → Type 0
ArePostsApart plan = posts_fault plan.setup plan.tables ≡ None
