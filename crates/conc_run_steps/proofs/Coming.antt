-- An event that comes next may be logged, and its text fits the spool.
use Rattle.std.proofs.Common.{◌≡◌, ℕ, ◌+◌, ◌<◌, ◌≤◌, true, false, List, [], ◌∷◌, ◌++◌, length, reverse, Option, None, Some, refl, sym, ◌∙◌, ap, subst, arith, append_assoc, length-append}
use Rattle.std.specs.Option.{option_map}
use Rattle.std.specs.Prelude.{unwrap_or}
use Rattle.std.proofs.lemmas.Bool.{and_parts, lt-ltb}
use Rattle.std.proofs.lemmas.List.Folds.{list_any-append}
use Rattle.std.proofs.lemmas.Option.{same_Some}
use Rattle.conc_types.specs.declared.event.Event.{Event}
use Rattle.conc_types.specs.declared.event.Event.TheVariants as event
use Rattle.conc_types.specs.declared.event.Extent.{Extent}
use Rattle.conc_types.specs.declared.event.Outcome.{Outcome}
use Rattle.conc_types.specs.declared.event.Outcome.TheVariants as outcome
use Rattle.conc_types.specs.declared.event.RequestId.{RequestId}
use Rattle.conc_types.specs.declared.plan.Plan.{Plan}
use Rattle.conc_types.specs.declared.plan.Req.{Req}
use Rattle.conc_types.specs.declared.script.Reading.{Reading}
use Rattle.conc_types.specs.declared.script.Readings.{Readings}
use Rattle.conc_types.specs.Scripts.{are_in_order}
use Rattle.conc_types.specs.Tables.{table_named}
use Rattle.conc_base_law.specs.Alone.{next_alone, report_of}
use Rattle.conc_base_law.specs.Ends.{IsReported}
use Rattle.conc_base_law.specs.Kinds.{extent_length, is_resume}
use Rattle.conc_base_law.specs.Law.{is_lawful, is_lawful_so_far, Lawful, LawfulSoFar, may_follow}
use Rattle.conc_base_law.specs.Next.{is_report_outcome, is_terminated}
use Rattle.conc_base_law.specs.Plans.{program_of}
use Rattle.conc_base_law.specs.Report.{Report, report}
use Rattle.conc_base_law.specs.State.{used}
use Rattle.conc_base_law.proofs.AloneLawful.{IsGood, next_alone-follows, report-good}
use Rattle.conc_base_law.proofs.LawfulSoFar.{lawful_is_lawful_so_far}
use Rattle.conc_base_law.proofs.Options.{and_then-some, map-some}
use Rattle.conc_base_law.proofs.Outcomes.{close_outcome, end_outcome}
use Rattle.conc_base_law.proofs.Positions.{reverse-push}
use Rattle.conc_machine.specs.declared.life.LifeReadings.{LifeReadings}
use Rattle.conc_run_state.specs.Machines.{Machine, readings_of, StandsFor}
use Rattle.conc_run_choice.specs.Choices.{HasItsText}
use Rattle.conc_run_choice.proofs.Pushes.{is_lawful-more}
use Rattle.conc_disk.specs.Disk.{DiskState}
use Rattle.conc_journal_image.specs.Fields.{has_record}
use Rattle.conc_journal.specs.Journals.{room_of, state_of}
use Rattle.conc_journal.specs.Journals.{IsOn as JournalIsOn}
use Rattle.conc_journal.specs.JournalStates.{takes_events}
use Rattle.conc_run_state.specs.Machines.{IsOfOneLife, need}
use Rattle.conc_run_state.proofs.Lives.{life_fits}
use Rattle.conc_journal_spool.specs.Spools.{used_of}
use Rattle.conc_journal_spool.specs.Spools.{IsOn as SpoolIsOn}
use Rattle.conc_journal_spool.specs.declared.spool.Spool.{Spool}
use Rattle.conc_run_state.specs.Works.{AreTied, HasPendingText, HasRoom, list_in}
use Rattle.conc_run_state.specs.declared.work.Work.{Work}
use Rattle.conc_run_steps.specs.Steps.{any_disk, IsReady, IsTied, MayLog, next_in, plan_in, readings_in}
use Rattle.conc_run_steps.proofs.Extents.{used-below, used-push}

-- ---- lists that are lawful

-- the readings that a machine took
taken : (machine : Machine) (readings : List Reading) → readings_of machine ≡ Some readings → (r : Readings) × (r.list ≡ readings)
unfolding readings_of
taken machine readings known =
    let life = map-some (λ (l : LifeReadings). l.readings.list) machine.life readings known in
    (life.0.readings, life.2)

pub lawful-past : (plan : Plan) (machine : Machine) (readings : List Reading) (list : List Event) → readings_of machine ≡ Some readings → Lawful plan readings list → LawfulSoFar plan list
lawful-past plan machine readings list known lawful =
    let r = taken machine readings known in
    lawful_is_lawful_so_far plan readings (reverse list) (subst (λ l. are_in_order l ≡ true) r.1 r.0.in_order) lawful

next-lawful : (plan : Plan) (readings : List Reading) (list : List Event) (e : Event) → Lawful plan readings list → next_alone plan readings (reverse list) ≡ Some e → Lawful plan readings (list ++ e ∷ [])
next-lawful plan readings list e lawful next =
    let may = next_alone-follows plan readings (reverse list) e next in
    ap (is_lawful plan readings) (reverse-push list e) ∙ is_lawful-more plan readings (reverse list) e may.0 lawful may.1

-- ---- reports

pub made-good : (plan : Plan) (r : Req) (made : Report) → report_of plan r ≡ Some made → IsGood made
unfolding report_of
made-good plan r made h =
    let program = and_then-some (λ p. option_map (report p.job r.argument) (table_named plan.setup plan.tables p.job.table)) (program_of plan r) made h in
    let table = map-some (report program.0.job r.argument) (table_named plan.setup plan.tables program.0.job.table) made program.2 in
    subst IsGood table.2 (report-good program.0.job r.argument table.0)

-- the event is an end with this text
pub record IsEndWith (plan : Plan) (e : Event) (text : List ℕ) : Type 0 where
  pub id : RequestId
  pub outcome : Outcome
  pub extent : Extent
  pub is : e ≡ event.Ended id outcome (Some extent)
  pub stored : IsReported plan id outcome extent
  pub same : text ≡ stored.made.text

pub end-with : (plan : Plan) (e : Event) (text : List ℕ) → HasItsText plan e (Some text) → IsEndWith plan e text
end-with plan (event.Ended id o (Some x)) text stored = record { id = id; outcome = o; extent = x; is = refl; stored = stored.0; same = same_Some text stored.0.made.text stored.1 }
end-with plan e text stored = cc

-- an event without a text has no extent
pub without-text : (plan : Plan) (e : Event) → HasItsText plan e None → extent_length e ≡ 0
without-text plan (event.Ended id o (Some x)) stored = let never : None ≡ Some stored.0.made.text = stored.1 in cc
without-text plan e stored = refl

-- ---- an event that comes next has a record

terminated-record : (id : RequestId) (o : Outcome) → is_terminated o ≡ true → has_record (event.Ended id o None) ≡ true
terminated-record id outcome.Terminated h = refl
terminated-record id o h = cc

reported-record : (id : RequestId) (o : Outcome) (x : Extent) → is_report_outcome o ≡ true → 0 < x.length → has_record (event.Ended id o (Some x)) ≡ true
reported-record id outcome.Normal x h some = lt-ltb 0 x.length some
reported-record id outcome.Warning x h some = lt-ltb 0 x.length some
reported-record id outcome.Error x h some = lt-ltb 0 x.length some
reported-record id o x h some = cc

close-record : (set : RequestId) (o : Outcome) → is_report_outcome o ≡ true → has_record (event.CloseSet set o) ≡ true
close-record set outcome.Normal h = refl
close-record set outcome.Warning h = refl
close-record set outcome.Error h = refl
close-record set o h = cc

-- an event that may follow has a record, where an end with an extent is that of its request's report
pub follows-record : (plan : Plan) (past : List Event) (e : Event) (text : Option (List ℕ)) → may_follow plan None past e ≡ true → HasItsText plan e text → has_record e ≡ true
follows-record plan past (event.CloseSet set o) text may stored = close-record set o (close_outcome plan past set o may)
follows-record plan past (event.Ended id o None) text may stored = terminated-record id o (end_outcome plan past id o may)
follows-record plan past (event.Ended id o (Some x)) text may stored =
    let good = made-good plan stored.0.ended stored.0.made stored.0.report in
    reported-record id o x (ap is_report_outcome stored.0.same_outcome ∙ good.outcome) (omega (arith, stored.0.same_length, good.some))
follows-record plan past e text may stored = refl

pub last-follows : (plan : Plan) (list : List Event) (e : Event) → LawfulSoFar plan (list ++ e ∷ []) → may_follow plan None (reverse list) e ≡ true
unfolding is_lawful_so_far
last-follows plan list e past =
    (and_parts (is_lawful_so_far plan (reverse list)) (may_follow plan None (reverse list) e) (ap (is_lawful_so_far plan) (sym (reverse-push list e)) ∙ past)).1

-- ---- the journal has room for it

life-more : (life : List Event) (e : Event) → IsOfOneLife life → is_resume e ≡ false → IsOfOneLife (life ++ e ∷ [])
life-more [] e one none = refl
life-more (first ∷ later) e one none = list_any-append is_resume later (e ∷ []) ∙ grind (arith, one, none)

-- one more event of a life fits
module _ (plan : Plan) (readings : List Reading) (old : Work) (e : Event) (known : readings_of old.machine ≡ Some readings) (none : is_resume e ≡ false) (has : HasRoom plan readings old) where
  longer : list_in old ++ e ∷ [] ≡ has.earlier ++ (has.life ++ e ∷ [])
  longer = ap (λ l. l ++ e ∷ []) has.lives ∙ append_assoc has.earlier has.life (e ∷ [])

  pub takes-one : Lawful plan readings (list_in old ++ e ∷ []) → 0 < room_of old.journal
  takes-one lawful =
      let r = taken old.machine readings known in
      let same : is_lawful plan r.0.list (reverse (has.earlier ++ (has.life ++ e ∷ []))) ≡ true =
      ap (λ l. is_lawful plan r.0.list (reverse l)) (sym longer) ∙ ap (λ l. is_lawful plan l (reverse (list_in old ++ e ∷ []))) r.1 ∙ lawful in
      let fits = life_fits plan r.0 has.earlier (has.life ++ e ∷ []) same (life-more has.life e has.one none) in
      omega (arith, fits, ap (need plan) r.1, length-append has.life (e ∷ []), has.enough)

  pub has-room : (new : Work) → list_in new ≡ list_in old ++ e ∷ [] → room_of new.journal + 1 ≡ room_of old.journal → HasRoom plan readings new
  has-room new added room = record {
    earlier = has.earlier;
    life = has.life ++ e ∷ [];
    lives = added ∙ longer;
    one = life-more has.life e has.one none;
    enough = omega (arith, room, length-append has.life (e ∷ []), has.enough);
  }

-- ---- so it may be logged

pub may-log : (work : Work) (e : Event) (text : Option (List ℕ)) (journal spool : DiskState) → IsReady work journal spool → next_in work ≡ Some e → HasItsText (plan_in work) e text → MayLog work e
may-log work e text journal spool ready next stored =
    let plan = plan_in work in
    let readings = readings_in work in
    let lawful = next-lawful plan readings (list_in work) e ready.tied.lawful next in
    let past = lawful-past plan work.machine readings (list_in work ++ e ∷ []) ready.tied.readings_are lawful in
    record {
      lawful = lawful;
      spelled = follows-record plan (reverse (list_in work)) e text (last-follows plan (list_in work) e past) stored;
      room = takes-one plan readings work e ready.tied.readings_are (next_alone-follows plan readings (reverse (list_in work)) e next).0 ready.room lawful;
      sound = ready.sound;
    }

-- ---- the text of an end fits the spool

pub text-length : (plan : Plan) (e : Event) (text : List ℕ) → HasItsText plan e (Some text) → extent_length e ≡ length text
text-length plan e text stored =
    let end = end-with plan e text stored in
    ap extent_length end.is ∙ end.stored.same_length ∙ sym (ap length end.same)

pub record Fits (used : ℕ) (text : List ℕ) : Type 0 where
  pub some : 1 ≤ length text
  pub few : length text ≤ 1048576
  pub below : used + length text < 18446744073709551616

pub text-fits : (plan : Plan) (list : List Event) (e : Event) (text : List ℕ) → HasItsText plan e (Some text) → LawfulSoFar plan (list ++ e ∷ []) → Fits (used (reverse list)) text
text-fits plan list e text stored past =
    let end = end-with plan e text stored in
    let good = made-good plan end.stored.ended end.stored.made end.stored.report in
    let same = ap length end.same in
    record {
      some = omega (arith, same, good.some);
      few = omega (arith, same, good.short);
      below = omega (arith, text-length plan e text stored, used-push list e, used-below plan (list ++ e ∷ []) past);
    }

-- ---- the work after its text is stored

pub tied-pending : (plan : Plan) (readings : List Reading) (e : Event) (work : Work) (spool : Spool) (journal disk disk' : DiskState) → AreTied plan readings None work journal disk
    → used_of spool ≡ extent_length e + used_of work.spool → SpoolIsOn spool disk' → HasPendingText plan (list_in work) disk' (Some e) → AreTied plan readings (Some e) (record { machine = work.machine; journal = work.journal; spool = spool }) journal disk'
tied-pending plan readings e work spool journal disk disk' tied more on text = record {
  plan_is = tied.plan_is;
  readings_are = tied.readings_are;
  stands = tied.stands;
  lawful = tied.lawful;
  takes = tied.takes;
  used_is = more ∙ ap (λ n. extent_length e + n) tied.used_is ∙ sym (used-push (list_in work) e);
  pending_text = text;
  journal_on = tied.journal_on;
  spool_on = on;
}

-- ---- and after its event is logged

pub tied-added : (old new : Work) (e : Event) (journal journal' : DiskState) → IsTied (Some e) old journal any_disk → Lawful (plan_in old) (readings_in old) (list_in old ++ e ∷ []) → plan_in new ≡ plan_in old
    → readings_of new.machine ≡ readings_of old.machine → StandsFor new.machine (e ∷ reverse (list_in old)) → list_in new ≡ list_in old ++ e ∷ [] → state_of new.journal ≡ state_of old.journal → new.spool ≡ old.spool
    → JournalIsOn new.journal journal' → IsTied None new journal' any_disk
tied-added old new e journal journal' tied lawful plan known stands added state spool on =
    let same : readings_in new ≡ readings_in old = ap (λ (o : Option (List Reading)). unwrap_or o []) known in
    record {
      plan_is = refl;
      readings_are = known ∙ tied.readings_are ∙ ap (λ (l : List Reading). Some l) (sym same);
      stands = subst (StandsFor new.machine) (sym (ap reverse added ∙ reverse-push (list_in old) e)) stands;
      lawful = subst (λ (z : Plan × List Reading × List Event). Lawful z.0 z.1 z.2) (λ i. (sym plan i, sym same i, sym added i)) lawful;
      takes = ap takes_events state ∙ tied.takes;
      used_is = ap (λ (s : Spool). used_of s) spool ∙ tied.used_is ∙ ap (λ (l : List Event). used (reverse l)) (sym added);
      pending_text = tt;
      journal_on = on;
      spool_on = tt;
    }
