-- The laws of posted rows, of every list of events.
use Rattle.std.specs.Prelude.{◌≡◌, ℕ, List, [], ◌∷◌, ◌++◌, reverse, Option, IsFalse}
use Rattle.std.specs.Option.{option_and_then, option_map}
use Rattle.conc_types.specs.declared.event.Event.{Event}
use Rattle.conc_types.specs.declared.event.Event.TheVariants as event
use Rattle.conc_types.specs.declared.event.Extent.{Extent}
use Rattle.conc_types.specs.declared.event.Outcome.{Outcome}
use Rattle.conc_types.specs.declared.event.RequestId.{RequestId}
use Rattle.conc_types.specs.declared.plan.Plan.{Plan}
use Rattle.conc_types.specs.declared.plan.Req.{Req}
use Rattle.conc_types.specs.Plans.{request}
use Rattle.conc_base_law.specs.Alone.{report_of}
use Rattle.conc_base_law.specs.Growth.{Grows}
use Rattle.conc_base_law.specs.Law.{LawfulSoFar}
use Rattle.conc_base_posts.specs.Positions.{added, before_start, last_report, posts_after, report_after}
use Rattle.conc_base_posts.specs.Posts.{posted, without_rows}
use Rattle.conc_base_posts.specs.Targets.{is_book_request}

-- ---- what is posted, and what an end tells, event by event

-- an end adds the rows of its own report at its last start, and no other event adds any; the report at a start is made over
-- the tables as they stand before it
pub record PostsAreAdded (plan : Plan) : Type 0 where
  pub none : posts_after plan [] ≡ []
  pub ended : (past : List Event) (id : RequestId) (o : Outcome) (x : Option Extent)
      → posts_after plan (event.Ended id o x ∷ past) ≡ posts_after plan past ++ added plan id o (last_report plan past id)
  pub other : (past : List Event) (e : Event) → ((id : RequestId) (o : Outcome) (x : Option Extent) → e ≡ event.Ended id o x → ⊥)
      → posts_after plan (e ∷ past) ≡ posts_after plan past
  pub last : (past : List Event) (id : RequestId)
      → last_report plan past id ≡ option_and_then (λ before. option_and_then (report_after plan before) (request plan id)) (before_start id past)

abbrev pub PostsAreAddedByEvents : Type 0
PostsAreAddedByEvents = (plan : Plan) → PostsAreAdded plan

-- ---- requests that do not touch postings

-- such a request reports over the plan's own tables, behind any events, and posts nothing
abbrev pub OtherReportsAreOfFiles : Type 0
OtherReportsAreOfFiles =
    (plan : Plan) (past : List Event) (r : Req) → IsFalse (is_book_request plan r)
    → report_after plan past r ≡ option_map without_rows (report_of plan r)

-- ---- what grows

-- what was posted to a table is a beginning of what is posted to it behind further events
abbrev pub PostsGrow : Type 0
PostsGrow =
    (plan : Plan) (past more : List Event) (table : List ℕ)
    → (rows : List (List (List ℕ))) × (posted table (posts_after plan (more ++ past)) ≡ posted table (posts_after plan past) ++ rows)

-- ---- a script that grows

-- behind a lawful history, what is posted is the same for a plan whose script grew, and so is the report at each last start
pub record SayTheSame (plan grown : Plan) (past : List Event) : Type 0 where
  pub posts : posts_after grown past ≡ posts_after plan past
  pub reports : (id : RequestId) → last_report grown past id ≡ last_report plan past id

abbrev pub GrownBooksAreSame : Type 0
GrownBooksAreSame =
    (plan grown : Plan) (history before after : List Event) → Grows plan grown history → LawfulSoFar plan history
    → history ≡ before ++ after → SayTheSame plan grown (reverse before)
