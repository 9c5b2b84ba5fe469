-- While a request runs, the report of its last start is the one that it would make now.
use Rattle.std.proofs.Common.{◌≡◌, true, false, not, List, [], ◌∷◌, None, Some, sym, ◌∙◌, ap, subst, inl, inr}
use Rattle.std.specs.Option.{option_and_then}
use Rattle.std.proofs.lemmas.Bool.{and_parts, both_ways, cases_Bool, not-true, or_cases}
use Rattle.conc_types.specs.declared.event.Event.{Event}
use Rattle.conc_types.specs.declared.event.Event.TheVariants as event
use Rattle.conc_types.specs.declared.event.PlaceId.{PlaceId}
use Rattle.conc_types.specs.declared.event.RequestId.{RequestId}
use Rattle.conc_types.specs.declared.plan.Plan.{Plan}
use Rattle.conc_types.specs.declared.plan.Req.{Req}
use Rattle.conc_types.specs.declared.program.Program.{Program}
use Rattle.conc_base_law.specs.Facts.{running_place, runs}
use Rattle.conc_base_law.specs.Kinds.{ends_run, starts}
use Rattle.conc_base_law.specs.Law.{is_lawful_so_far, may_follow}
use Rattle.conc_base_law.specs.Plans.{program_of}
use Rattle.conc_base_law.specs.Words.{Has}
use Rattle.conc_base_law.proofs.Numbering.{numbered_plan}
use Rattle.conc_base_law.proofs.Running.{runs-occurs}
use Rattle.conc_base_posts.specs.Positions.{book, books_after, last_report, posts_after, report_after}
use Rattle.conc_base_posts.specs.Posts.{booked}
use Rattle.conc_base_posts.specs.Targets.{ArePostsApart}
use Rattle.conc_base_posts.proofs.LastStart.{last_report-other, last_report-start, starts-event}
use Rattle.conc_base_posts.proofs.ReportsStand.{booked-same}
use Rattle.conc_base_posts.proofs.StandStill.{table_stands, uses-read, uses-target}

-- ---- the report of the last start

-- behind a start it is the report at that start
at_start : (plan : Plan) (past : List Event) (r : Req) (place : PlaceId) → Has plan.requests r
    → last_report plan (event.Started r.number place ∷ past) r.number ≡ report_after plan (event.Started r.number place ∷ past) r
unfolding report_after posts_after books_after book
at_start plan past r place hr =
    last_report-start plan past r.number place ∙ ap (option_and_then (booked plan (books_after plan past).posts)) (numbered_plan plan r hr)

-- ---- while the request runs

-- a request that runs, and that this event does not start, ran before it and is not ended by it
ran : (past : List Event) (e : Event) (r : RequestId) → runs (e ∷ past) r ≡ true → starts r e ≡ false → (ends_run r e ≡ false) × (runs past r ≡ true)
ran past e r run none = elim (or_cases (starts r e) _ (sym (runs-occurs (e ∷ past) r) ∙ run)) [
  | inl start ↦ absurd (both_ways _ none start)
  | inr on ↦ let p : (not (ends_run r e) ≡ true) × _ = and_parts (not (ends_run r e)) _ on in (not-true _ p.0, runs-occurs past r ∙ p.1)
]

-- an event that does not end the request leaves the report that it would make
report-still : (plan : Plan) (past : List Event) (e : Event) (r : Req) (program : Program) → ArePostsApart plan → is_lawful_so_far plan (e ∷ past) ≡ true
    → Has plan.requests r → program_of plan r ≡ Some program → runs past r.number ≡ true → ends_run r.number e ≡ false
    → report_after plan (e ∷ past) r ≡ report_after plan past r
unfolding report_after
report-still plan past e r program apart lawful hr ofr run goes_on =
    booked-same plan r program (posts_after plan (e ∷ past)) (posts_after plan past) ofr (record {
      read = table_stands plan past e r program program.job.table apart lawful hr ofr (uses-read program) run goes_on;
      target = λ table is. table_stands plan past e r program table apart lawful hr ofr (uses-target program table is) run goes_on;
    })

-- while it runs, its last report is the one that it would make now
pub last_stands : (plan : Plan) (past : List Event) (r : Req) (program : Program) → ArePostsApart plan → is_lawful_so_far plan past ≡ true
    → Has plan.requests r → program_of plan r ≡ Some program → runs past r.number ≡ true → last_report plan past r.number ≡ report_after plan past r
unfolding is_lawful_so_far runs running_place
last_stands plan [] r program apart lawful hr ofr run = cc
last_stands plan (e ∷ past) r program apart lawful hr ofr run = elim (cases_Bool (starts r.number e)) [
  | inl start ↦
      let p : (place : PlaceId) × (e ≡ event.Started r.number place) = starts-event r.number e start in
      subst (λ d. last_report plan (d ∷ past) r.number ≡ report_after plan (d ∷ past) r) (sym p.1) (at_start plan past r p.0 hr)
  | inr none ↦
      let p : (ends_run r.number e ≡ false) × (runs past r.number ≡ true) = ran past e r.number run none in
      let before : is_lawful_so_far plan past ≡ true = (and_parts (is_lawful_so_far plan past) (may_follow plan None past e) lawful).0 in
      last_report-other plan past r.number e none
      ∙ (last_stands plan past r program apart before hr ofr p.1
      ∙ sym (report-still plan past e r program apart lawful hr ofr p.1 p.0))
]
