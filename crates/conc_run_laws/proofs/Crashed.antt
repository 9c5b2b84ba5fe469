-- What a crash of a run leaves, and the next run over it.
use Rattle.std.proofs.Common.{◌≡◌, ◌⊎◌, inl, inr, ℕ, ◌≤◌, true, List, length, reverse, Option, Some, IfSome, IsFalse, IsTrue, sym, ◌∙◌, ap, subst, le_refl, arith}
use Rattle.std.specs.Prelude.{slice_get}
use Rattle.std.proofs.lemmas.List.{length-append}
use Rattle.std.proofs.lemmas.Option.{slice_get_within}
use Rattle.conc_types.specs.declared.digests.Digests.{Digests}
use Rattle.conc_types.specs.declared.event.Event.{Event}
use Rattle.conc_types.specs.declared.event.Event.TheVariants as event
use Rattle.conc_types.specs.declared.plan.Plan.{Plan}
use Rattle.conc_types.specs.declared.plan.Req.{Req}
use Rattle.conc_types.specs.Scripts.{are_in_order}
use Rattle.conc_disk.specs.Disk.{DiskState}
use Rattle.conc_disk.specs.Left.{LeavesOnly}
use Rattle.conc_journal.specs.Opens.{broken_of, events_of, may_open}
use Rattle.conc_base_law.specs.Alone.{opening}
use Rattle.conc_base_law.specs.Facts.{runs}
use Rattle.conc_base_law.specs.Law.{LawfulSoFar}
use Rattle.conc_base_law.specs.Words.{Has}
use Rattle.conc_base_law.proofs.Prefixes.{is_lawful_so_far-prefix}
use Rattle.conc_run.specs.Whole.{HasBetween, HasLeft, IsFinished}
pub use Rattle.conc_run.proofs.Next.{not-bad, not-closed, not-other, not-other_script}
use Rattle.conc_run.proofs.Next.{left-good}
use Rattle.conc_run_state.specs.Causes.{HasCause, IsOther, IsOtherScript}
use Rattle.conc_run_state.specs.Handed.{Handed, IsOwnJournal}
use Rattle.conc_run_state.specs.Judging.{EndWithin, IsBadFor, IsBadRecord}
use Rattle.conc_run_state.specs.Lists.{GoesOn, IsPrefix}
use Rattle.conc_run_state.specs.declared.error.HistoryFail.{HistoryFail}
use Rattle.conc_run_state.specs.declared.error.HistoryFail.TheVariants as history_fail
use Rattle.conc_run_state.proofs.Prefixes.{prefix-opening, prefix-self}
use Rattle.conc_run_laws.specs.Lives.{IsInterrupted, IsRightLife}
use Rattle.conc_run_laws.specs.Next.{BeganWell, IsFit, IsNextOver, IsNextRun, RefusesForRoom}
use Rattle.conc_run_laws.proofs.RightLives.{finished-interrupts, right-life}

-- what holds of what is there
pub at-some : {X : Type 0} (P : X → Type 0) (o : Option X) (x : X) → o ≡ Some x → IfSome o P → P x
at-some {X = X} P o x is holds = subst (λ (s : Option X). IfSome s P) is holds

-- ---- what a crash leaves

-- since now only what is left now
abbrev pub OnlyNow : DiskState → Type 0
OnlyNow disk = (image : List ℕ) → disk.left_since disk.moment image → disk.may_leave image

module _ (threads : ℕ) (h : Handed) (found acknowledged last : List Event) (began : BeganWell h) (only_now : OnlyNow h.disks.journal_before) (left : HasLeft threads h found acknowledged last) where
  found-is : found ≡ events_of began.image
  found-is = at-some (λ (i : List ℕ). found ≡ events_of i) h.disks.journal_before.seen began.image began.journal.seen left.events

  -- the image found stands
  same-fit : (image texts : List ℕ) → EndWithin (length texts) (events_of image) → image ≡ began.image → IsFit h.plan h.digests image texts × IsPrefix found (events_of image)
  same-fit image texts within same = (
    record {
      own = subst (λ (i : List ℕ). IsOwnJournal h.plan h.digests i) (sym same) began.fit.own;
      good = record {
        whole = ap broken_of same ∙ began.fit.good.whole;
        so_far = subst (λ (i : List ℕ). LawfulSoFar h.plan (events_of i)) (sym same) began.fit.good.so_far;
        within = within;
      };
    },
    subst (λ (l : List Event). IsPrefix found l) (found-is ∙ ap events_of (sym same)) (prefix-self found),
  )

  -- what was left before is the image found
  earlier-same : (image : List ℕ) → h.disks.journal_before.left_since h.disks.journal_before.moment image → image ≡ began.image
  earlier-same image since = began.journal.settled image (only_now image since)

  since-left : (kind : List ℕ → Type 0) (image : List ℕ) → LeavesOnly kind h.disks.journal_before h.disks.journal_after → h.disks.journal_after.left_since h.disks.journal_before.moment image
      → h.disks.journal_before.left_since h.disks.journal_before.moment image ⊎ kind image
  since-left kind image leaves since =
      at-some
      (λ (bytes : List ℕ). (t : ℕ) (c : List ℕ) → t ≤ h.disks.journal_before.moment → h.disks.journal_after.left_since t c → h.disks.journal_before.left_since t c ⊎ kind c)
      h.disks.journal_before.seen began.image began.journal.seen leaves.nothing_else h.disks.journal_before.moment image (le_refl h.disks.journal_before.moment) since

  pub left-fit : (image texts : List ℕ) → h.disks.journal_after.left_since h.disks.journal_before.moment image → EndWithin (length texts) (events_of image)
      → IsFit h.plan h.digests image texts × IsPrefix found (events_of image)
  left-fit image texts since within = elim left.now [
    | inl untouched ↦ elim (since-left h.disks.journal_before.may_leave image untouched.journal_survives since) [
      | inl before ↦ same-fit image texts within (earlier-same image before)
      | inr may ↦ same-fit image texts within (began.journal.settled image may)
    ]
    | inr now ↦ elim (since-left (HasBetween h found last) image left.journal since) [
      | inl before ↦ same-fit image texts within (earlier-same image before)
      | inr (inl may) ↦ same-fit image texts within (began.journal.settled image may)
      | inr (inr survives) ↦
          let both = left-good h.plan h.digests found last image (length texts) (is_lawful_so_far-prefix h.plan) now.so_far survives within in
          (record { own = both.0; good = both.1 }, survives.begins)
    ]
  ]

-- ---- the next run

-- behind the events found there is none
past-end : (found last : List Event) → last ≡ found → (i : ℕ) (e : Event) → length found ≤ i → slice_get last i ≡ Some e → ⊥
past-end found last same i e from there = let within = slice_get_within last i e there in absurd (omega (arith, from, within, ap length same))

-- the opening is no shorter than the events found
opening-long : (found : List Event) → length found ≤ length (opening found)
opening-long found = let behind = prefix-opening found in omega (arith, ap length behind.1, length-append found behind.0)

module _ (h : Handed) (image texts : List ℕ) (fit : IsFit h.plan h.digests image texts) (journal : h.disks.journal_before.seen ≡ Some image) (spool : h.disks.spool_before.seen ≡ Some texts) where
  pub refuses-for_room : (e : HistoryFail) → HasCause h e → RefusesForRoom h image e
  refuses-for_room history_fail.NotJournal cause = not-closed h.plan h.digests image fit.own (at-some (λ (i : List ℕ). IsFalse (may_open i)) h.disks.journal_before.seen image journal cause)
  refuses-for_room (history_fail.OtherInput found given) cause = not-other h.plan h.digests found given image fit.own.own (at-some (λ (i : List ℕ). IsOther h.digests found given i) h.disks.journal_before.seen image journal cause)
  refuses-for_room (history_fail.OtherScript command found given) cause =
      not-other_script h.plan h.digests command found given image fit.own.own (at-some (λ (i : List ℕ). IsOtherScript h.plan h.digests command found given i) h.disks.journal_before.seen image journal cause)
  refuses-for_room (history_fail.Unlawful number) cause =
      let bad = at-some (λ (i : List ℕ). IsBadFor h.plan h.disks.spool_before (events_of i) (broken_of i) number) h.disks.journal_before.seen image journal cause.bad in
      let long : bad.0 ≡ length texts = at-some (λ (t : List ℕ). bad.0 ≡ length t) h.disks.spool_before.seen texts spool bad.1 in
      not-bad h.plan (length texts) (events_of image) (broken_of image) number fit.good
      (subst (λ (len : ℕ). IsBadRecord h.plan len (events_of image) (broken_of image) number) long bad.2)
  refuses-for_room (history_fail.JournalFull len needed) cause =
      let found = at-some (λ (i : List ℕ). cause.found ≡ events_of i) h.disks.journal_before.seen image journal cause.is_found.events in
      (cause.len_is ∙ ap length found, cause.needed_is, cause.full)
  refuses-for_room (history_fail.DiskFault disk) cause = tt
  refuses-for_room history_fail.NoMemory cause = tt

  pub finds-events : (threads : ℕ) (found acknowledged last : List Event) → HasLeft threads h found acknowledged last → found ≡ events_of image
  finds-events threads found acknowledged last left = at-some (λ (i : List ℕ). found ≡ events_of i) h.disks.journal_before.seen image journal left.events

  still-right : (found last : List Event) → last ≡ found → IsRightLife h.plan found last
  still-right found last same = record {
    begins = subst (λ (l : List Event). IsPrefix found l) (sym same) (prefix-self found);
    completed = λ r has done i place from there. past-end found last same i (event.Started r.number place) from there;
    running = λ r has is. inr (λ i e from below there. absurd (past-end found last same i e (omega (arith, from, opening-long found)) there));
  }

  pub goes-right : are_in_order h.readings ≡ true → (threads : ℕ) (found acknowledged last : List Event) → HasLeft threads h found acknowledged last → IsRightLife h.plan found last
  goes-right order threads found acknowledged last left = elim left.goes_on [
    | inl same ↦ still-right found last same
    | inr going ↦ right-life h.plan h.readings found last going order
  ]

  pub finishes-interrupts : (threads : ℕ) (list : List Event) → IsFinished threads h list → (r : Req) → Has h.plan.requests r → IsTrue (runs (reverse (events_of image)) r.number) → IsInterrupted (events_of image) list r.number
  finishes-interrupts threads list finished r has is =
      let same = finds-events threads finished.found list list finished.left in
      finished-interrupts h.plan h.readings (events_of image) list (subst (λ (l : List Event). GoesOn h.plan h.readings (opening l) list) same finished.goes_on) r has finished.finished is

pub next-run : (threads : ℕ) (h next : Handed) (found acknowledged last : List Event) (image texts : List ℕ) → next.plan ≡ h.plan → next.digests ≡ h.digests → are_in_order next.readings ≡ true → OnlyNow h.disks.journal_before
    → BeganWell h → HasLeft threads h found acknowledged last → IsNextOver h.disks.journal_before h.disks.journal_after next image texts → IsNextRun next found image
next-run threads h next found acknowledged last image texts same_plan same_digests order only_now began left over =
    let both = left-fit threads h found acknowledged last began only_now left image texts over.left over.within in
    let fit = subst (λ (p : Plan). IsFit p next.digests image texts) (sym same_plan) (subst (λ (d : Digests). IsFit h.plan d image texts) (sym same_digests) both.0) in
    record {
      refuses = refuses-for_room next image texts fit over.journal over.spool;
      begins = both.1;
      finds = finds-events next image texts fit over.journal over.spool;
      goes_on = goes-right next image texts fit over.journal over.spool order;
      finishes = finishes-interrupts next image texts fit over.journal over.spool;
    }
