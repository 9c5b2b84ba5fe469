-- What each event adds to what is posted, and where the report of a last start comes from.
use Rattle.std.proofs.Common.{◌≡◌, ℕ, List, [], ◌∷◌, ◌++◌, Option, Some, if◌then◌else◌, refl, sym, ◌∙◌, ap, append_assoc, inl, inr}
use Rattle.std.specs.Option.{option_and_then}
use Rattle.std.specs.Str.{bytes_eq}
use Rattle.std.proofs.lemmas.Bool.{cases_Bool, cond-false, cond-true}
use Rattle.std.proofs.lemmas.List.{append-nil}
use Rattle.conc_types.specs.declared.event.Event.{Event}
use Rattle.conc_types.specs.declared.event.Event.TheVariants as event
use Rattle.conc_types.specs.declared.event.Extent.{Extent}
use Rattle.conc_types.specs.declared.event.Outcome.{Outcome}
use Rattle.conc_types.specs.declared.event.RequestId.{RequestId}
use Rattle.conc_types.specs.declared.plan.Plan.{Plan}
use Rattle.conc_types.specs.Plans.{request}
use Rattle.conc_base_law.specs.Words.{id_eq}
use Rattle.conc_base_law.proofs.EqualEvents.{id_same}
use Rattle.conc_base_posts.specs.Laws.{PostsAreAdded}
use Rattle.conc_base_posts.specs.Positions.{added, before_start, book, books_after, last_report, posts_after, report_after, report_of_last, Started}
use Rattle.conc_base_posts.specs.Posts.{Booked, booked, Cells, Post, posted}

-- ---- one event

-- an end adds the rows of its own report at its last start
pub ended-adds : (plan : Plan) (past : List Event) (id : RequestId) (o : Outcome) (x : Option Extent)
    → posts_after plan (event.Ended id o x ∷ past) ≡ posts_after plan past ++ added plan id o (last_report plan past id)
unfolding posts_after books_after book last_report
ended-adds plan past id o x = refl

-- no other event adds any
pub other-adds : (plan : Plan) (past : List Event) (e : Event) → ((id : RequestId) (o : Outcome) (x : Option Extent) → e ≡ event.Ended id o x → ⊥)
    → posts_after plan (e ∷ past) ≡ posts_after plan past
unfolding posts_after books_after book
other-adds plan past (event.Ended id o x) h = absurd (h id o x refl)
other-adds plan past _ h = refl

-- ---- the report at a last start

-- the report that a request makes where it starts, if it has started
abbrev made_at : Plan → RequestId → Option (List Event) → Option Booked
made_at plan id before = option_and_then (λ past. option_and_then (report_after plan past) (request plan id)) before

-- a start of some request
last-started : (plan : Plan) (past : List Event) (q id : RequestId) (started : Started) → report_of_last id started ≡ made_at plan id (before_start id past)
    → report_of_last id ((q, option_and_then (booked plan (posts_after plan past)) (request plan q)) ∷ started)
    ≡ made_at plan id (if id_eq q id then Some past else before_start id past)
unfolding report_after
last-started plan past q id started h = elim (cases_Bool (id_eq q id)) [
  | inl t ↦
      cond-true (id_eq q id) (option_and_then (booked plan (posts_after plan past)) (request plan q)) (report_of_last id started) t
      ∙ (ap (λ z. option_and_then (booked plan (posts_after plan past)) (request plan z)) (id_same q id t)
      ∙ sym (ap (made_at plan id) (cond-true (id_eq q id) (Some past) (before_start id past) t)))
  | inr f ↦
      cond-false (id_eq q id) (option_and_then (booked plan (posts_after plan past)) (request plan q)) (report_of_last id started) f
      ∙ (h ∙ sym (ap (made_at plan id) (cond-false (id_eq q id) (Some past) (before_start id past) f)))
]

-- it is made over the tables as they stand before the start
pub last-made : (plan : Plan) (past : List Event) (id : RequestId)
    → last_report plan past id ≡ option_and_then (λ before. option_and_then (report_after plan before) (request plan id)) (before_start id past)
unfolding last_report books_after book posts_after
last-made plan [] id = refl
last-made plan (event.Started q place ∷ past) id = last-started plan past q id (books_after plan past).started (last-made plan past id)
last-made plan (_ ∷ past) id = last-made plan past id

-- the law of one event
pub posts_added : (plan : Plan) → PostsAreAdded plan
unfolding posts_after books_after
posts_added plan = record { none = refl; ended = ended-adds plan; other = other-adds plan; last = last-made plan }

-- ---- any events

-- an event adds some posts, or none
abbrev Adds : Plan → List Event → Event → Type 0
Adds plan past e = (posts : List Post) × (posts_after plan (e ∷ past) ≡ posts_after plan past ++ posts)

adds : (plan : Plan) (past : List Event) (e : Event) → Adds plan past e
unfolding posts_after books_after book last_report
adds plan past (event.Ended id o x) = (added plan id o (last_report plan past id), refl)
adds plan past _ = ([], sym (append-nil (books_after plan past).posts))

-- what is posted to a table by two lists of posts in a row
pub posted-append : (table : List ℕ) (posts more : List Post) → posted table (posts ++ more) ≡ posted table posts ++ posted table more
posted-append table [] more = refl
posted-append table (post ∷ posts) more = elim (cases_Bool (bytes_eq table post.table)) [
  | inl t ↦
      cond-true (bytes_eq table post.table) (post.rows ++ posted table (posts ++ more)) (posted table (posts ++ more)) t
      ∙ (ap (λ l. post.rows ++ l) (posted-append table posts more)
      ∙ (sym (append_assoc post.rows (posted table posts) (posted table more))
      ∙ ap (λ l. l ++ posted table more) (sym (cond-true (bytes_eq table post.table) (post.rows ++ posted table posts) (posted table posts) t))))
  | inr f ↦
      cond-false (bytes_eq table post.table) (post.rows ++ posted table (posts ++ more)) (posted table (posts ++ more)) f
      ∙ (posted-append table posts more
      ∙ ap (λ l. l ++ posted table more) (sym (cond-false (bytes_eq table post.table) (post.rows ++ posted table posts) (posted table posts) f)))
]

-- what was posted to a table is a beginning of what is posted to it behind further events
pub posts_more : (plan : Plan) (past more : List Event) (table : List ℕ)
    → (rows : List Cells) × (posted table (posts_after plan (more ++ past)) ≡ posted table (posts_after plan past) ++ rows)
posts_more plan past [] table = ([], sym (append-nil (posted table (posts_after plan past))))
posts_more plan past (e ∷ more) table =
    let before : (rows : List Cells) × (posted table (posts_after plan (more ++ past)) ≡ posted table (posts_after plan past) ++ rows) = posts_more plan past more table in
    let a : Adds plan (more ++ past) e = adds plan (more ++ past) e in (
      before.0 ++ posted table a.0,
      ap (posted table) a.1
          ∙ (posted-append table (posts_after plan (more ++ past)) a.0
          ∙ (ap (λ l. l ++ posted table a.0) before.1 ∙ append_assoc (posted table (posts_after plan past)) before.0 (posted table a.0))),
    )
