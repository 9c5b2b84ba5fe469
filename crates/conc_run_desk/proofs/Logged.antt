-- A desk at which an event is logged.
use Rattle.std.proofs.Common.{◌≡◌, Bool, true, false, List, [], ◌∷◌, ◌++◌, reverse, Option, None, Some, refl, sym, ◌∙◌, ap, subst, arith}
use Rattle.std.specs.Prelude.{if◌then◌else◌}
use Rattle.std.proofs.lemmas.Bool.{and_parts}
use Rattle.conc_types.specs.declared.event.Event.{Event}
use Rattle.conc_types.specs.declared.event.Event.TheVariants as event
use Rattle.conc_types.specs.declared.event.RequestId.{RequestId}
use Rattle.conc_types.specs.declared.plan.Plan.{Plan}
use Rattle.conc_types.specs.declared.script.Reading.{Reading}
use Rattle.conc_disk.specs.Disk.{DiskState}
use Rattle.conc_journal.specs.Journals.{IsOn as JournalIsOn}
use Rattle.conc_journal_image.specs.Fields.{has_record}
use Rattle.conc_base_law.specs.Kinds.{ends, extent_length, is_resume}
use Rattle.conc_base_law.specs.Law.{is_lawful, is_lawful_so_far, Lawful, may_follow}
use Rattle.conc_base_law.specs.State.{used}
use Rattle.conc_base_law.specs.Words.{id_eq}
use Rattle.conc_base_law.proofs.EqualEvents.{id_same}
use Rattle.conc_base_law.proofs.Positions.{reverse-push}
use Rattle.conc_board.specs.declared.lead.Lead.{Lead}
use Rattle.conc_board.specs.Seats.{lead_state_of}
use Rattle.conc_pool_seats.specs.LeadStates.{IsGone}
use Rattle.conc_run_state.specs.Works.{HasPendingText, list_in}
use Rattle.conc_run_state.specs.declared.work.Work.{Work}
use Rattle.conc_run_steps.specs.Steps.{any_disk, IsTied, plan_in, readings_in}
use Rattle.conc_run_steps.proofs.Coming.{follows-record, lawful-past, last-follows}
use Rattle.conc_run_steps.proofs.Extents.{used-push}
use Rattle.conc_run_desk.specs.Kept.{MayBeKept}
use Rattle.conc_run_desk.specs.Logging.{IsItsTurn}

-- ---- an event that is logged while none is kept

no_length : (e : Event) → IsItsTurn None e → extent_length e ≡ 0
no_length (event.Ended r o x) turn = absurd turn
no_length _ turn = refl

no_text : (plan : Plan) (list : List Event) (spool : DiskState) (e : Event) → IsItsTurn None e → HasPendingText plan list spool (Some e)
no_text plan list spool (event.Ended r o x) turn = absurd turn
no_text plan list spool _ turn = tt

same_used : (list : List Event) (e : Event) → IsItsTurn None e → used (reverse (list ++ e ∷ [])) ≡ used (reverse list)
same_used list e turn = omega (arith, used-push list e, no_length e turn)

-- ---- the tie, with the event that is to be logged

module _ (work : Work) (e : Event) where
  on_journal : (kept : Option Event) (journal : DiskState) → IsTied kept work any_disk any_disk → JournalIsOn work.journal journal → IsTied kept work journal any_disk
  on_journal kept journal tied on = record {
    plan_is = tied.plan_is;
    readings_are = tied.readings_are;
    stands = tied.stands;
    lawful = tied.lawful;
    takes = tied.takes;
    used_is = tied.used_is;
    pending_text = tied.pending_text;
    journal_on = on;
    spool_on = tt;
  }

  pub off_journal : (kept : Option Event) (journal : DiskState) → IsTied kept work journal any_disk → IsTied kept work any_disk any_disk
  off_journal kept journal tied = record {
    plan_is = tied.plan_is;
    readings_are = tied.readings_are;
    stands = tied.stands;
    lawful = tied.lawful;
    takes = tied.takes;
    used_is = tied.used_is;
    pending_text = tied.pending_text;
    journal_on = tt;
    spool_on = tt;
  }

  pub to_log : (kept : Option Event) (journal : DiskState) → IsItsTurn kept e → IsTied kept work any_disk any_disk → JournalIsOn work.journal journal → IsTied (Some e) work journal any_disk
  to_log None journal turn tied on = record {
    plan_is = tied.plan_is;
    readings_are = tied.readings_are;
    stands = tied.stands;
    lawful = tied.lawful;
    takes = tied.takes;
    used_is = tied.used_is ∙ sym (same_used (list_in work) e turn);
    pending_text = no_text (plan_in work) (list_in work) any_disk e turn;
    journal_on = on;
    spool_on = tt;
  }
  to_log (Some k) journal turn tied on = subst (λ z. IsTied (Some z) work journal any_disk) (sym turn) (on_journal (Some k) journal tied on)

  pub to_keep : (kept : Option Event) (journal : DiskState) → IsItsTurn kept e → IsTied (Some e) work journal any_disk → IsTied kept work any_disk any_disk
  to_keep None journal turn tied = record {
    plan_is = tied.plan_is;
    readings_are = tied.readings_are;
    stands = tied.stands;
    lawful = tied.lawful;
    takes = tied.takes;
    used_is = tied.used_is ∙ same_used (list_in work) e turn;
    pending_text = tt;
    journal_on = tt;
    spool_on = tt;
  }
  to_keep (Some k) journal turn tied = subst (λ z. IsTied (Some z) work any_disk any_disk) turn (off_journal (Some e) journal tied)

-- ---- what may come

spelled_kept : (plan : Plan) (past list : List Event) (spool : DiskState) (e : Event) → may_follow plan None past e ≡ true → HasPendingText plan list spool (Some e) → has_record e ≡ true
spelled_kept plan past list spool (event.Ended id o (Some x)) may text =
    follows-record plan past (event.Ended id o (Some x)) (Some text.reported.made.text) may (text.reported, refl)
spelled_kept plan past list spool (event.Ended id o None) may text = follows-record plan past (event.Ended id o None) None may refl
spelled_kept plan past list spool (event.Tick t) may text = follows-record plan past (event.Tick t) None may refl
spelled_kept plan past list spool (event.Command n) may text = follows-record plan past (event.Command n) None may refl
spelled_kept plan past list spool (event.OpenSet q) may text = follows-record plan past (event.OpenSet q) None may refl
spelled_kept plan past list spool (event.Stage q k) may text = follows-record plan past (event.Stage q k) None may refl
spelled_kept plan past list spool (event.CloseSet q o) may text = follows-record plan past (event.CloseSet q o) None may refl
spelled_kept plan past list spool (event.LetOut q) may text = follows-record plan past (event.LetOut q) None may refl
spelled_kept plan past list spool (event.Started q u) may text = follows-record plan past (event.Started q u) None may refl
spelled_kept plan past list spool event.Resume may text = follows-record plan past event.Resume None may refl
spelled_kept plan past list spool (event.Interrupt q) may text = follows-record plan past (event.Interrupt q) None may refl

-- an event that is to be logged has a record
pub spelled : (work : Work) (e : Event) (journal : DiskState) → IsTied (Some e) work journal any_disk → Lawful (plan_in work) (readings_in work) (list_in work ++ e ∷ []) → has_record e ≡ true
spelled work e journal tied lawful =
    let past = lawful-past (plan_in work) work.machine (readings_in work) (list_in work ++ e ∷ []) tied.readings_are lawful in
    spelled_kept (plan_in work) (reverse (list_in work)) (list_in work) any_disk e (last-follows (plan_in work) (list_in work) e past) tied.pending_text

-- an event behind a lawful list may follow it
pub may_come_now : (plan : Plan) (readings : List Reading) (list : List Event) (e : Event) → Lawful plan readings (list ++ e ∷ []) → may_follow plan (Some readings) (reverse list) e ≡ true
unfolding is_lawful
may_come_now plan readings list e lawful =
    (and_parts (if is_resume e then is_lawful_so_far plan (reverse list) else is_lawful plan readings (reverse list)) (may_follow plan (Some readings) (reverse list) e)
    (ap (is_lawful plan readings) (sym (reverse-push list e)) ∙ lawful)).1

-- no request with the go ends by the event
pub none_gone_ends : (kept : Option Event) (work : Work) (lead : Lead) (e : Event) → MayBeKept kept work lead → IsItsTurn kept e → (r : RequestId) → IsGone (lead_state_of lead r) → ends r e ≡ false
none_gone_ends None work lead e may turn r gone = by e turn where
  by : (d : Event) → IsItsTurn None d → ends r d ≡ false
  by (event.Ended q o x) t = absurd t
  by _ t = refl
none_gone_ends (Some (event.Ended q o x)) work lead e (lawful, none) turn r gone = ap (ends r) turn ∙ by (id_eq q r) refl where
  by : (b : Bool) → id_eq q r ≡ b → id_eq q r ≡ false
  by true h = absurd (none (subst (λ (z : RequestId). IsGone (lead_state_of lead z)) (sym (id_same q r h)) gone))
  by false h = h
none_gone_ends (Some k) work lead e may turn r gone = absurd may
