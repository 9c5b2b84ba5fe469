-- While a request of a program runs, the tables that its program uses stay as they are.
use Rattle.std.proofs.Common.{◌≡◌, ℕ, zero, suc, ◌<◌, ◌≤◌, true, false, ◌||◌, List, [], ◌∷◌, length, take, drop, reverse, Option, None, Some, refl, sym, ◌∙◌, ap, subst, inl, inr, arith}
use Rattle.std.specs.Prelude.{slice_get}
use Rattle.std.specs.Str.{bytes_eq}
use Rattle.std.proofs.lemmas.Bool.{and_from, and_parts, cases_lt, cond-false, false_from_ne_true, not_from_false, or_left, or_parts, or_right}
use Rattle.std.proofs.lemmas.List.{take-append-drop}
use Rattle.std.proofs.lemmas.Option.{slice_get_within}
use Rattle.std.proofs.lemmas.Slice.Eq.{bytes_eq-Decides}
use Rattle.conc_types.specs.declared.event.Event.{Event}
use Rattle.conc_types.specs.declared.event.Event.TheVariants as event
use Rattle.conc_types.specs.declared.event.Extent.{Extent}
use Rattle.conc_types.specs.declared.event.Outcome.{Outcome}
use Rattle.conc_types.specs.declared.event.RequestId.{RequestId}
use Rattle.conc_types.specs.declared.plan.Plan.{Plan}
use Rattle.conc_types.specs.declared.plan.Req.{Req}
use Rattle.conc_types.specs.declared.program.Program.{Program}
use Rattle.conc_types.specs.Words.{some_and}
use Rattle.conc_base_law.specs.Facts.{facts_of, runs}
use Rattle.conc_base_law.specs.Kinds.{closes, ends_run, opens, starts}
use Rattle.conc_base_law.specs.Law.{is_lawful_so_far, LawfulSoFar, may_follow}
use Rattle.conc_base_law.specs.Overlap.{begins_interval, ends_interval, HasAt, IsInterval}
use Rattle.conc_base_law.specs.Plans.{program_of}
use Rattle.conc_base_law.specs.State.{is_live}
use Rattle.conc_base_law.specs.Words.{Has, id_eq, is_set}
use Rattle.conc_base_law.proofs.LiveApart.{live_apart}
use Rattle.conc_base_law.proofs.Options.{some_and-some}
use Rattle.conc_base_law.proofs.Positions.{reverse-push, slice_get-some, take-suc_at}
use Rattle.conc_base_law.proofs.Prefixes.{is_lawful_so_far-prefix}
use Rattle.conc_base_law.proofs.Running.{runs-occurs}
use Rattle.conc_base_law.proofs.RunningIsLet.{runs_let}
use Rattle.conc_base_law.proofs.Stops.{end_runs}
use Rattle.conc_base_posts.specs.Positions.{added, last_report, posts_after, report_after}
use Rattle.conc_base_posts.specs.Posts.{posted}
use Rattle.conc_base_posts.specs.StandLaws.{posted_before, StandStill}
use Rattle.conc_base_posts.specs.Targets.{ArePostsApart, meet, uses}
use Rattle.conc_base_posts.proofs.PostedRows.{posted-added, posted-still, PostsTo, target-posts}
use Rattle.conc_base_posts.proofs.Exclusive.{exclusive, program_no_set}
use Rattle.conc_base_posts.proofs.ReportsStand.{booked-same}

-- ---- the tables that a program uses

-- it uses the one that it reads
pub uses-read : (program : Program) → uses program.job.table program ≡ true
uses-read program = or_left _ _ ((bytes_eq-Decides program.job.table program.job.table).1 refl)

-- it uses the one to which it posts
pub uses-target : (program : Program) (table : List ℕ) → program.post ≡ Some table → uses table program ≡ true
uses-target program table is = or_right _ _ (ap (some_and (bytes_eq table)) is ∙ (bytes_eq-Decides table table).1 refl)

-- ---- an event while a request runs

-- a request that runs is live
runs-live : (plan : Plan) (past : List Event) (r : Req) → Has plan.requests r → is_lawful_so_far plan past ≡ true → runs past r.number ≡ true
    → is_live (facts_of plan past r) ≡ true
unfolding facts_of
runs-live plan past r hr lawful run = or_left _ _ (runs_let plan past r hr lawful run)

-- a request whose program posts to a table, and another one whose program uses it, do not both run
never_both : (plan : Plan) (past : List Event) (q r : Req) (poster user : Program) (table : List ℕ) → ArePostsApart plan → is_lawful_so_far plan past ≡ true
    → Has plan.requests q → Has plan.requests r → program_of plan q ≡ Some poster → program_of plan r ≡ Some user → poster.post ≡ Some table
    → uses table user ≡ true → id_eq q.number r.number ≡ false → runs past q.number ≡ true → runs past r.number ≡ true → ⊥
unfolding meet
never_both plan past q r poster user table apart lawful hq hr ofq ofr posts used two runq runr =
    let met : meet poster user ≡ true = or_left _ _ (ap (some_and (λ t. uses t user)) posts ∙ used) in
    live_apart plan past q r hq hr lawful (exclusive plan q r poster user apart hq hr ofq ofr met two)
    (runs-live plan past q hq lawful runq) (runs-live plan past r hr lawful runr)

-- while a request runs, the end of another one posts nothing to a table that its program uses
adds_nothing : (plan : Plan) (past : List Event) (r : Req) (program : Program) (table : List ℕ) (id : RequestId) (o : Outcome) (x : Option Extent) → ArePostsApart plan
    → is_lawful_so_far plan past ≡ true → may_follow plan None past (event.Ended id o x) ≡ true → Has plan.requests r → program_of plan r ≡ Some program
    → uses table program ≡ true → runs past r.number ≡ true → id_eq id r.number ≡ false → posted table (added plan id o (last_report plan past id)) ≡ []
adds_nothing plan past r program table id o x apart lawful may hr ofr used run two = elim (posted-added plan table id o (last_report plan past id)) [
  | inl none ↦ none
  | inr some ↦
      let q : PostsTo plan table id = target-posts plan table id some.is_target in
      let other : id_eq q.req.number r.number ≡ false = ap (λ z. id_eq z r.number) q.number ∙ two in
      let ended : runs past q.req.number ≡ true = end_runs plan None past q.req o x q.element (subst (λ z. may_follow plan None past (event.Ended z o x) ≡ true) (sym q.number) may) in
      absurd (never_both plan past q.req r q.program program table apart lawful q.element hr q.is_program ofr q.is_target used other ended run)
]

-- an event that does not end the request leaves such a table as it is
pub table_stands : (plan : Plan) (past : List Event) (e : Event) (r : Req) (program : Program) (table : List ℕ) → ArePostsApart plan
    → is_lawful_so_far plan (e ∷ past) ≡ true → Has plan.requests r → program_of plan r ≡ Some program → uses table program ≡ true → runs past r.number ≡ true
    → ends_run r.number e ≡ false → posted table (posts_after plan (e ∷ past)) ≡ posted table (posts_after plan past)
unfolding is_lawful_so_far
table_stands plan past e r program table apart lawful hr ofr used run goes_on =
    let p : (is_lawful_so_far plan past ≡ true) × (may_follow plan None past e ≡ true) = and_parts _ _ lawful in
    posted-still plan table past e (λ id o x is.
    let two : (id_eq id r.number || false) ≡ false = ap (ends_run r.number) (sym is) ∙ goes_on in
    adds_nothing plan past r program table id o x apart p.0 (subst (λ d. may_follow plan None past d ≡ true) is p.1) hr ofr used run (or_parts _ _ two).0)

-- ---- runs

-- a request runs behind its start
start-runs : (past : List Event) (e : Event) (r : RequestId) → starts r e ≡ true → runs (e ∷ past) r ≡ true
start-runs past e r h = runs-occurs (e ∷ past) r ∙ or_left _ _ h

-- a request that runs goes on behind an event that does not end it
goes-on : (past : List Event) (e : Event) (r : RequestId) → runs past r ≡ true → ends_run r e ≡ false → runs (e ∷ past) r ≡ true
goes-on past e r run h = runs-occurs (e ∷ past) r ∙ or_right _ _ (and_from _ _ (not_from_false _ h) (sym (runs-occurs past r) ∙ run))

-- a start posts nothing
start_stands : (plan : Plan) (past : List Event) (e : Event) (r : RequestId) (table : List ℕ) → starts r e ≡ true
    → posted table (posts_after plan (e ∷ past)) ≡ posted table (posts_after plan past)
start_stands plan past e r table h =
    posted-still plan table past e (λ id o x is.
    let no : false ≡ true = ap (starts r) (sym is) ∙ h in
    absurd cc)

-- ---- an interval

-- an interval lies within the history
inside : (history : List Event) (r : Req) (i j : ℕ) → IsInterval history r i j → j ≤ length history
inside history r i j interval = elim interval.ends.1 [
  | inr e ↦ omega arith
  | inl h ↦
      let p : (e : Event) × (slice_get history j ≡ Some e) × (ends_interval r e ≡ true) = some_and-some (ends_interval r) (slice_get history j) h in
      let below : j < length history = slice_get_within history j p.0 p.1 in
      omega arith
]

-- the event with which the interval of a program's request begins starts it
begins-starts : (history : List Event) (r : Req) (i : ℕ) (e : Event) → is_set r.item ≡ false → slice_get history i ≡ Some e
    → HasAt (begins_interval r) history i → starts r.number e ≡ true
begins-starts history r i e program is h =
    let here : begins_interval r e ≡ true = ap (some_and (begins_interval r)) (sym is) ∙ h in
    sym (cond-false (is_set r.item) (opens r.number e) (starts r.number e) program) ∙ here

-- no event within it ends its run
within-goes_on : (history : List Event) (r : Req) (m : ℕ) (e : Event) → is_set r.item ≡ false → slice_get history m ≡ Some e
    → (HasAt (ends_interval r) history m → ⊥) → ends_run r.number e ≡ false
within-goes_on history r m e program is lasts =
    false_from_ne_true _ (λ h. lasts (ap (some_and (ends_interval r)) is ∙ (cond-false (is_set r.item) (closes r.number e) (ends_run r.number e) program ∙ h)))

-- behind the first events up to a position r runs, and the table is as it was at the start
record Stands (plan : Plan) (history : List Event) (r : Req) (table : List ℕ) (i k : ℕ) : Type 0 where
  run : runs (reverse (take k history)) r.number ≡ true
  same : posted_before plan history table k ≡ posted_before plan history table i

module _ (plan : Plan) (history : List Event) (r : Req) (program : Program) (i j : ℕ) (apart : ArePostsApart plan) (lawful : LawfulSoFar plan history)
    (hr : Has plan.requests r) (ofr : program_of plan r ≡ Some program) (interval : IsInterval history r i j) where
  -- one event more of the history
  next : (m : ℕ) (e : Event) → slice_get history m ≡ Some e → reverse (take (suc m) history) ≡ e ∷ reverse (take m history)
  next m e h = ap reverse (take-suc_at history m e h) ∙ reverse-push (take m history) e

  -- the first events of the history are lawful
  before : (m : ℕ) → is_lawful_so_far plan (reverse (take m history)) ≡ true
  before m =
      is_lawful_so_far-prefix plan (take m history) (drop m history) (ap (λ l. is_lawful_so_far plan (reverse l)) (take-append-drop m history) ∙ lawful)

  -- within the interval a table that the program uses stands
  stands : (table : List ℕ) → uses table program ≡ true → (k : ℕ) → i < k → k ≤ j → Stands plan history r table i k
  stands table used zero after fits = absurd (omega arith)
  stands table used (suc m) after fits =
      let program_item : is_set r.item ≡ false = program_no_set plan r program ofr in
      let within : j ≤ length history = inside history r i j interval in
      let ev : (e : Event) × (slice_get history m ≡ Some e) = slice_get-some history m (omega arith) in
      let more : reverse (take (suc m) history) ≡ ev.0 ∷ reverse (take m history) = next m ev.0 ev.1 in
      elim (cases_lt i m) [
        | inl earlier ↦
            let p : Stands plan history r table i m = stands table used m earlier (omega arith) in
            let off : ends_run r.number ev.0 ≡ false = within-goes_on history r m ev.0 program_item ev.1 (interval.lasts m earlier (omega arith)) in
            let ok : is_lawful_so_far plan (ev.0 ∷ reverse (take m history)) ≡ true = ap (is_lawful_so_far plan) (sym more) ∙ before (suc m) in
            record {
              run = ap (λ l. runs l r.number) more ∙ goes-on (reverse (take m history)) ev.0 r.number p.run off;
              same = ap (λ l. posted table (posts_after plan l)) more
                  ∙ (table_stands plan (reverse (take m history)) ev.0 r program table apart ok hr ofr used p.run off ∙ p.same);
            }
        | inr late ↦
            let here : i ≡ m = omega arith in
            let start : starts r.number ev.0 ≡ true = begins-starts history r m ev.0 program_item ev.1 (subst (HasAt (begins_interval r) history) here interval.begins) in
            record {
              run = ap (λ l. runs l r.number) more ∙ start-runs (reverse (take m history)) ev.0 r.number start;
              same = ap (λ l. posted table (posts_after plan l)) more
                  ∙ (start_stands plan (reverse (take m history)) ev.0 r.number table start ∙ ap (posted_before plan history table) (sym here));
            }
      ]

  -- the same from the beginning of the interval on
  same_from : (table : List ℕ) → uses table program ≡ true → (k : ℕ) → i ≤ k → k ≤ j → posted_before plan history table k ≡ posted_before plan history table i
  same_from table used k after fits = elim (cases_lt i k) [
    | inl later ↦ (stands table used k later fits).same
    | inr here ↦ let e : k ≡ i = omega arith in ap (posted_before plan history table) e
  ]

  -- the table that the program reads, and the one to which it posts, stand still
  pub stand_still : (k : ℕ) → i ≤ k → k ≤ j → StandStill plan history program i k
  stand_still k after fits = record {
    read = same_from program.job.table (uses-read program) k after fits;
    target = λ table is. same_from table (uses-target program table is) k after fits;
  }

  -- so the request reports the same
  pub report_stands : (k : ℕ) → i ≤ k → k ≤ j → report_after plan (reverse (take k history)) r ≡ report_after plan (reverse (take i history)) r
  unfolding report_after
  report_stands k after fits =
      let still : StandStill plan history program i k = stand_still k after fits in
      booked-same plan r program (posts_after plan (reverse (take k history))) (posts_after plan (reverse (take i history))) ofr
      (record { read = still.read; target = still.target })
