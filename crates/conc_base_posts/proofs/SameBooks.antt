-- Behind a lawful history what is posted, and the report at each last start, are the same for a plan whose script grew.
use Rattle.std.proofs.Common.{◌≡◌, ℕ, Bool, true, List, [], ◌∷◌, ◌++◌, reverse, Option, None, Some, if◌then◌else◌, refl, sym, ◌∙◌, ap}
use Rattle.std.specs.Option.{option_and_then, option_map, option_map_or}
use Rattle.std.proofs.lemmas.Bool.{or_left, or_right}
use Rattle.std.proofs.lemmas.List.{reverse-append}
use Rattle.std.proofs.lemmas.List.Folds.{list_any-append}
use Rattle.conc_types.specs.declared.event.Event.{Event}
use Rattle.conc_types.specs.declared.event.Event.TheVariants as event
use Rattle.conc_types.specs.declared.event.Outcome.{Outcome}
use Rattle.conc_types.specs.declared.event.RequestId.{RequestId}
use Rattle.conc_types.specs.declared.plan.Plan.{Plan}
use Rattle.conc_types.specs.declared.plan.Req.{Req}
use Rattle.conc_types.specs.declared.program.Program.{Program}
use Rattle.conc_types.specs.declared.table.Table.{Table}
use Rattle.conc_types.specs.Plans.{request}
use Rattle.conc_types.specs.Tables.{table_named}
use Rattle.conc_types.specs.Words.{some_and}
use Rattle.conc_base_law.specs.Before.{occurs}
use Rattle.conc_base_law.specs.Growth.{Grows, names}
use Rattle.conc_base_law.specs.Law.{is_lawful_so_far}
use Rattle.conc_base_law.specs.Plans.{program_of}
use Rattle.conc_base_law.specs.Report.{Report, report}
use Rattle.conc_base_law.proofs.Alike.{program-same}
use Rattle.conc_base_law.proofs.EqualEvents.{eqb-refl}
use Rattle.conc_base_law.proofs.Named.{requests_same}
use Rattle.conc_base_posts.specs.Laws.{SayTheSame}
use Rattle.conc_base_posts.specs.Positions.{added, book, Books, books_after, last_report, post_to, posts_after, report_of_last, target_of}
use Rattle.conc_base_posts.specs.Posts.{adds_rows, Booked, booked, booked_over, booked_to, Cells, fits, is_within, Post, posted, rows_posted, table_full, table_with, with_rows, without_rows}

-- ---- options

-- two functions that agree chain an option to the same
and_then-same : {A B : Type 0} (f g : A → Option B) (o : Option A) → ((x : A) → f x ≡ g x) → option_and_then f o ≡ option_and_then g o
and_then-same f g None h = refl
and_then-same f g (Some x) h = h x

-- and they map it to the same
map_option-same : {A B : Type 0} (f g : A → B) (o : Option A) → ((x : A) → f x ≡ g x) → option_map f o ≡ option_map g o
map_option-same f g None h = refl
map_option-same f g (Some x) h = ap (λ y. Some y) (h x)

-- ---- one report, and one end

-- the books with one start more, and with further posts
abbrev with_start : Books → RequestId → Option Booked → Books
with_start books id made = record { posts = books.posts; started = (id, made) ∷ books.started }

abbrev with_posts : Books → List Post → Books
with_posts books posts = record { posts = books.posts ++ posts; started = books.started }

module _ (plan grown : Plan) (setup : grown.setup ≡ plan.setup) (tables : grown.tables ≡ plan.tables) where
  -- the program of a request is the same
  program_of-same : (r : Req) → program_of grown r ≡ program_of plan r
  unfolding program_of
  program_of-same r = sym (program-same plan grown r.item setup)

  -- a table with this name is the same
  named-same : (name : List ℕ) → table_named grown.setup grown.tables name ≡ table_named plan.setup plan.tables name
  named-same name = ap (λ s. table_named s grown.tables name) setup ∙ ap (λ t. table_named plan.setup t name) tables

  -- with the rows that were posted to it too
  table_with-same : (posts : List Post) (name : List ℕ) → table_with grown posts name ≡ table_with plan posts name
  unfolding table_with
  table_with-same posts name = ap (option_map (λ table. with_rows table (posted name posts))) (named-same name)

  -- the same rows fit into it
  fits-same : (posts : List Post) (target : List ℕ) (rows : List Cells) → fits grown posts target rows ≡ fits plan posts target rows
  unfolding fits
  fits-same posts target rows = ap (some_and (λ table. is_within table (posted target posts) rows)) (named-same target)

  -- a report and its rows become the same
  booked_to-same : (posts : List Post) (target : Option (List ℕ)) (made : Report) (rows : List Cells) → booked_to grown posts target made rows ≡ booked_to plan posts target made rows
  booked_to-same posts None made rows = refl
  booked_to-same posts (Some target) made rows =
      ap (λ b. if adds_rows made.outcome then (if b then record { report = made; rows = rows } else table_full) else without_rows made) (fits-same posts target rows)

  -- so does what a program reports
  booked_over-same : (posts : List Post) (program : Program) (argument : List ℕ) (table : Table) → booked_over grown posts program argument table ≡ booked_over plan posts program argument table
  unfolding booked_over
  booked_over-same posts program argument table = booked_to-same posts program.post (report program.job argument table) (rows_posted program.job argument table)

  -- the report of a request is the same
  booked-same : (posts : List Post) (r : Req) → booked grown posts r ≡ booked plan posts r
  unfolding booked
  booked-same posts r =
      ap (option_and_then (λ program. option_map (booked_over grown posts program r.argument) (table_with grown posts program.job.table))) (program_of-same r)
      ∙ and_then-same (λ program. option_map (booked_over grown posts program r.argument) (table_with grown posts program.job.table))
      (λ program. option_map (booked_over plan posts program r.argument) (table_with plan posts program.job.table))
      (program_of plan r)
      (λ program.
      ap (option_map (booked_over grown posts program r.argument)) (table_with-same posts program.job.table)
      ∙ map_option-same (booked_over grown posts program r.argument) (booked_over plan posts program r.argument) (table_with plan posts program.job.table)
      (booked_over-same posts program r.argument))

  -- the table to which a request posts is the same, where the request is
  target-same : (id : RequestId) → request grown id ≡ request plan id → target_of grown id ≡ target_of plan id
  unfolding target_of
  target-same id same =
      ap (λ o. option_and_then (λ program. program.post) (option_and_then (program_of grown) o)) same
      ∙ ap (option_and_then (λ program. program.post)) (and_then-same (program_of grown) (program_of plan) (request plan id) program_of-same)

  -- what an end adds is the same
  added-same : (id : RequestId) (o : Outcome) (made : Option Booked) → request grown id ≡ request plan id → added grown id o made ≡ added plan id o made
  unfolding added
  added-same id o made same = ap (λ t. if adds_rows o then option_map_or (λ target. post_to target made) t [] else []) (target-same id same)

  -- ---- the books

  -- an event that names no other requests than those that are the same does the same
  book-same : (books : Books) (e : Event) → ((id : RequestId) → names id e ≡ true → request grown id ≡ request plan id) → book grown books e ≡ book plan books e
  unfolding book
  book-same books (event.Started id place) same =
      ap (with_start books id)
      (ap (option_and_then (booked grown books.posts)) (same id (eqb-refl id.number))
      ∙ and_then-same (booked grown books.posts) (booked plan books.posts) (request plan id) (booked-same books.posts))
  book-same books (event.Ended id o x) same = ap (with_posts books) (added-same id o (report_of_last id books.started) (same id (eqb-refl id.number)))
  book-same books _ same = refl

  -- so the books are the same where the requests are that the events name
  books-same : (past : List Event) → ((id : RequestId) → occurs (names id) past ≡ true → request grown id ≡ request plan id) → books_after grown past ≡ books_after plan past
  unfolding books_after
  books-same [] same = refl
  books-same (e ∷ past) same =
      ap (λ b. book grown b e) (books-same past (λ id h. same id (or_right _ _ h)))
      ∙ book-same (books_after plan past) e (λ id h. same id (or_left _ _ h))

-- ---- the law

-- what occurs in the events before occurs in the history
occurs-before : (kind : Event → Bool) (history before after : List Event) → history ≡ before ++ after → occurs kind (reverse before) ≡ true → occurs kind (reverse history) ≡ true
occurs-before kind history before after is h =
    ap (λ l. occurs kind (reverse l)) is
    ∙ (ap (occurs kind) (reverse-append before after)
    ∙ (list_any-append kind (reverse after) (reverse before)
    ∙ or_right _ _ h))

-- the events before are among those of the history, so the books behind them are the same
pub say_the_same : (plan grown : Plan) (history before after : List Event) → Grows plan grown history → is_lawful_so_far plan (reverse history) ≡ true
    → history ≡ before ++ after → SayTheSame plan grown (reverse before)
unfolding posts_after last_report
say_the_same plan grown history before after g lawful is =
    let same : books_after grown (reverse before) ≡ books_after plan (reverse before) =
    books-same plan grown g.setup g.tables (reverse before) (λ id h. requests_same plan grown history id g lawful (occurs-before (names id) history before after is h)) in
    record { posts = ap (λ b. b.posts) same; reports = λ id. ap (λ b. report_of_last id b.started) same }
