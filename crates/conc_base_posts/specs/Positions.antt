-- What stands posted behind some events, and what the last start of each request reports. The events are given with the latest
-- first, and are gone through once, from the first to the last.
use Rattle.std.specs.Prelude.{ℕ, if◌then◌else◌, List, [], ◌∷◌, ◌++◌, Option, None, Some}
use Rattle.std.specs.Option.{option_and_then, option_map_or}
use Rattle.conc_types.specs.declared.event.Event.{Event}
use Rattle.conc_types.specs.declared.event.Event.TheVariants as event
use Rattle.conc_types.specs.declared.event.Outcome.{Outcome}
use Rattle.conc_types.specs.declared.event.RequestId.{RequestId}
use Rattle.conc_types.specs.declared.plan.Plan.{Plan}
use Rattle.conc_types.specs.declared.plan.Req.{Req}
use Rattle.conc_types.specs.declared.table.Table.{Table}
use Rattle.conc_types.specs.Plans.{request}
use Rattle.conc_base_law.specs.Kinds.{starts}
use Rattle.conc_base_law.specs.Plans.{program_of}
use Rattle.conc_base_law.specs.Words.{id_eq}
use Rattle.conc_base_posts.specs.Posts.{Booked, Post, adds_rows, booked, table_with}

-- the reports of starts, with the latest first
abbrev pub Started : Type 0
Started = List (RequestId × Option Booked)

pub record Books : Type 0 where
  pub posts : List Post
  pub started : Started

-- the report at the last start of a request
abbrev pub report_of_last : RequestId → Started → Option Booked
report_of_last id [] = None
report_of_last id (start ∷ started) = if id_eq start.0 id then start.1 else report_of_last id started

-- the table to which the program of a request posts
unfoldable pub target_of : Plan → RequestId → Option (List ℕ)
target_of plan id = option_and_then (λ program. program.post) (option_and_then (program_of plan) (request plan id))

-- the rows of a report as a post to this table
abbrev pub post_to : List ℕ → Option Booked → List Post
post_to target None = []
post_to target (Some made) = record { table = target; rows = made.rows } ∷ []

-- what an end with this outcome adds, where this is the report at the last start
unfoldable pub added : Plan → RequestId → Outcome → Option Booked → List Post
added plan id outcome made =
    if adds_rows outcome then option_map_or (λ target. post_to target made) (target_of plan id) [] else []

-- one event more
unfoldable pub book : Plan → Books → Event → Books
book plan books (event.Started id place) = record {
  posts = books.posts;
  started = (id, option_and_then (booked plan books.posts) (request plan id)) ∷ books.started;
}
book plan books (event.Ended id outcome extent) = record {
  posts = books.posts ++ added plan id outcome (report_of_last id books.started);
  started = books.started;
}
book plan books _ = books

unfoldable pub books_after : Plan → List Event → Books
books_after plan [] = record { posts = []; started = [] }
books_after plan (e ∷ past) = book plan (books_after plan past) e

-- ---- the words of the law

-- all that was posted
unfoldable pub posts_after : Plan → List Event → List Post
posts_after plan past = (books_after plan past).posts

-- a table behind these events
unfoldable pub table_after : Plan → List Event → List ℕ → Option Table
table_after plan past name = table_with plan (posts_after plan past) name

-- the report that a request makes where it starts behind these events
unfoldable pub report_after : Plan → List Event → Req → Option Booked
report_after plan past r = booked plan (posts_after plan past) r

-- the report that a request made where it last started
unfoldable pub last_report : Plan → List Event → RequestId → Option Booked
last_report plan past id = report_of_last id (books_after plan past).started

-- the events before the last start of a request
abbrev pub before_start : RequestId → List Event → Option (List Event)
before_start id [] = None
before_start id (e ∷ past) = if starts id e then Some past else before_start id past
