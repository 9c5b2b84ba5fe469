-- Where a request ends, it posts what it would report now.
use Rattle.std.proofs.Common.{◌≡◌, List, ◌∷◌, ◌++◌, Option, None, Some, true, refl, sym, ◌∙◌, ap, subst, eq-eqb}
use Rattle.std.specs.Option.{option_and_then}
use Rattle.std.proofs.lemmas.Bool.{and_parts}
use Rattle.conc_types.specs.declared.event.Event.{Event}
use Rattle.conc_types.specs.declared.event.Event.TheVariants as event
use Rattle.conc_types.specs.declared.event.Extent.{Extent}
use Rattle.conc_types.specs.declared.event.Outcome.{Outcome}
use Rattle.conc_types.specs.declared.event.RequestId.{RequestId}
use Rattle.conc_types.specs.declared.plan.Plan.{Plan}
use Rattle.conc_types.specs.declared.plan.Req.{Req}
use Rattle.conc_types.specs.declared.program.Program.{Program}
use Rattle.conc_types.specs.Plans.{request}
use Rattle.conc_base_law.specs.Facts.{runs}
use Rattle.conc_base_law.specs.Law.{is_lawful_so_far, may_follow}
use Rattle.conc_base_law.specs.Plans.{program_of}
use Rattle.conc_base_law.specs.Words.{Has}
use Rattle.conc_base_law.proofs.EqualEvents.{id_same}
use Rattle.conc_base_law.proofs.Numbering.{found}
use Rattle.conc_base_law.proofs.Stops.{end_runs}
use Rattle.conc_base_posts.specs.Positions.{added, before_start, last_report, posts_after, report_after}
use Rattle.conc_base_posts.specs.Posts.{booked}
use Rattle.conc_base_posts.specs.Targets.{ArePostsApart}
use Rattle.conc_base_posts.proofs.Added.{ended-adds, last-made}
use Rattle.conc_base_posts.proofs.LastReport.{last_stands}

-- a request of no program reports nothing, anywhere
nothing : (plan : Plan) (past : List Event) (r : Req) → program_of plan r ≡ None → report_after plan past r ≡ None
unfolding report_after booked
nothing plan past r none = rw none refl

-- so it reported nothing at its last start
nothing-last : (plan : Plan) (past : List Event) (id : RequestId) (o : Option Req) → request plan id ≡ o → ((r : Req) → o ≡ Some r → program_of plan r ≡ None)
    → last_report plan past id ≡ None
nothing-last plan past id o is none = last-made plan past id ∙ by (before_start id past) where
  reports : (before : List Event) → option_and_then (report_after plan before) (request plan id) ≡ None
  reports before = ap (option_and_then (report_after plan before)) is ∙ at o none where
    at : (p : Option Req) → ((r : Req) → p ≡ Some r → program_of plan r ≡ None) → option_and_then (report_after plan before) p ≡ None
    at None h = refl
    at (Some r) h = nothing plan before r (h r refl)

  by : (before : Option (List Event)) → option_and_then (λ b. option_and_then (report_after plan b) (request plan id)) before ≡ None
  by None = refl
  by (Some b) = reports b

-- behind a lawful history a request that may end would report now what it reported at its last start
pub tells-now : (plan : Plan) (past : List Event) (id : RequestId) (o : Outcome) (x : Option Extent) → ArePostsApart plan
    → is_lawful_so_far plan (event.Ended id o x ∷ past) ≡ true
    → last_report plan past id ≡ option_and_then (report_after plan past) (request plan id)
unfolding is_lawful_so_far
tells-now plan past id o x apart lawful = by (request plan id) refl where
  p : (is_lawful_so_far plan past ≡ true) × (may_follow plan None past (event.Ended id o x) ≡ true)
  p = and_parts (is_lawful_so_far plan past) (may_follow plan None past (event.Ended id o x)) lawful

  of_program : (r : Req) (program : Program) → request plan id ≡ Some r → program_of plan r ≡ Some program → last_report plan past id ≡ report_after plan past r
  of_program r program is ofr =
      let f : (r.number.number ≡ id.number) × Has plan.requests r = found plan id r is in
      let same : r.number ≡ id = id_same r.number id (eq-eqb _ _ f.0) in
      let run : runs past r.number ≡ true = end_runs plan None past r o x f.1 (subst (λ z. may_follow plan None past (event.Ended z o x) ≡ true) (sym same) p.1) in
      ap (last_report plan past) (sym same) ∙ last_stands plan past r program apart p.0 f.1 ofr run

  of : (r : Req) (q : Option Program) → request plan id ≡ Some r → program_of plan r ≡ q → last_report plan past id ≡ report_after plan past r
  of r (Some program) is ofr = of_program r program is ofr
  of r None is ofr =
      nothing-last plan past id (Some r) is (λ s e. ap (program_of plan) (sym (ap-some e)) ∙ ofr) ∙ sym (nothing plan past r ofr)
    where
      ap-some : {s : Req} → Some r ≡ Some s → r ≡ s
      ap-some e = cc

  by : (asked : Option Req) → request plan id ≡ asked → last_report plan past id ≡ option_and_then (report_after plan past) asked
  by None is = nothing-last plan past id None is (λ r e. cc)
  by (Some r) is = of r (program_of plan r) is refl

pub posts-now : (plan : Plan) (past : List Event) (id : RequestId) (o : Outcome) (x : Option Extent) → ArePostsApart plan
    → is_lawful_so_far plan (event.Ended id o x ∷ past) ≡ true
    → posts_after plan (event.Ended id o x ∷ past) ≡ posts_after plan past ++ added plan id o (option_and_then (report_after plan past) (request plan id))
posts-now plan past id o x apart lawful =
    ended-adds plan past id o x ∙ ap (λ made. posts_after plan past ++ added plan id o made) (tells-now plan past id o x apart lawful)
