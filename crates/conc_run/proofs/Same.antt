-- A finished run of a steady plan has the result of the run without workers.
use Rattle.std.proofs.Common.{◌≡◌, ℕ, false, List, [], reverse, None, Some, IfSome, sym, ◌∙◌, ap, subst, arith}
use Rattle.std.proofs.lemmas.Option.{IfSome_then}
use Rattle.std.specs.List.{list_any}
use Rattle.conc_types.specs.declared.event.Event.{Event}
use Rattle.conc_types.specs.declared.event.Event.TheVariants as event
use Rattle.conc_types.specs.declared.event.Extent.{Extent}
use Rattle.conc_types.specs.declared.event.Outcome.{Outcome}
use Rattle.conc_types.specs.declared.event.RequestId.{RequestId}
use Rattle.conc_types.specs.declared.plan.Plan.{Plan}
use Rattle.conc_types.specs.declared.script.Reading.{Reading}
use Rattle.conc_disk.specs.Left.{EachImage}
use Rattle.conc_disk.proofs.Leaving.{if_some-any}
use Rattle.conc_base_law.specs.Alone.{Alone, opening, report_of}
use Rattle.conc_base_law.specs.Kinds.{is_resume}
use Rattle.conc_base_law.specs.Law.{Finished}
use Rattle.conc_base_law.specs.Report.{Report}
use Rattle.conc_base_law.specs.Words.{Has}
use Rattle.conc_base_law.proofs.FirstBy.{none_any}
use Rattle.conc_base_law.specs.Sameness.{HasEnds, SaySame}
use Rattle.conc_base_law.specs.Steady.{IsWhole, Steady}
use Rattle.conc_base_law.proofs.Lists.{has-get, has-reverse, none-has}
use Rattle.conc_run_state.specs.Handed.{Handed}
use Rattle.conc_run_state.specs.Lists.{GoesOn}
use Rattle.conc_run_state.specs.Stored.{AreStored, IsStored}
use Rattle.conc_run.specs.Same.{HasResultOfAlone, HasTexts, text_at}

-- ---- the list

-- a finished list that goes on from none is whole
whole-list : (plan : Plan) (readings : List Reading) (list : List Event) → GoesOn plan readings [] list → Finished plan readings list → IsWhole plan readings list
whole-list plan readings list going finished =
    let none : list_any is_resume list ≡ false = ap (λ (l : List Event). list_any is_resume l) going.all ∙ going.no_resume in
    record {
      lawful = going.lawful;
      finished = finished;
      one_life = none_any is_resume (reverse list) (λ e has. none-has is_resume list e none (has-reverse list e has));
      reported = going.reported;
    }

-- ---- the texts

-- no end is found in no list
none-stored : (plan : Plan) (from : ℕ) (bytes : List ℕ) → AreStored plan from [] bytes
none-stored plan from bytes = λ i id o x le there. let none : None ≡ Some (event.Ended id o (Some x)) = there in absurd (cc)

-- the end stands at some position
stored-end : (plan : Plan) (list : List Event) (bytes : List ℕ) (id : RequestId) (o : Outcome) (x : Extent) → AreStored plan 0 list bytes → Has list (event.Ended id o (Some x)) → IsStored plan bytes id o x
stored-end plan list bytes id o x stored has =
    let at = has-get list (event.Ended id o (Some x)) has in
    stored at.0 id o x (omega arith) at.1

-- a request has one report, so the texts of two ends of it are the same
text-same : (plan : Plan) (id : RequestId) (o : Outcome) (x y : Extent) (bytes texts : List ℕ) → IsStored plan bytes id o x → IsStored plan texts id o y → text_at bytes x ≡ text_at texts y
text-same plan id o x y bytes texts s t =
    let found : Some s.report.ended ≡ Some t.report.ended = sym s.report.found ∙ t.report.found in
    let ended : s.report.ended ≡ t.report.ended = cc in
    let report : Some s.report.made ≡ Some t.report.made = sym s.report.report ∙ (ap (report_of plan) ended ∙ t.report.report) in
    let made : s.report.made ≡ t.report.made = cc in
    sym s.text ∙ (ap (λ (r : Report). r.text) made ∙ t.text)

has-texts : (plan : Plan) (one another : List Event) (bytes texts : List ℕ) → HasEnds one another → AreStored plan 0 one bytes → AreStored plan 0 another texts → HasTexts one bytes another texts
has-texts plan one another bytes texts ends stored held = λ id o x has.
    let end : (y : Extent) × Has another (event.Ended id o (Some y)) × (y.length ≡ x.length) = ends id o x has in
    (end.0, end.1, text-same plan id o x end.0 bytes texts (stored-end plan one bytes id o x stored has) (stored-end plan another texts id o end.0 held end.1))

-- ---- the result

-- the law for this plan and these readings: a whole list of a steady plan says the same as the run without workers
abbrev pub HasLaw : Handed → Type 0
HasLaw h = (list alone : List Event) → Steady h.plan h.readings → IsWhole h.plan h.readings list → Alone h.plan h.readings [] alone → SaySame h.plan list alone

has-result : (h : Handed) (list : List Event) → ((alone : List Event) → Alone h.plan h.readings [] alone → SaySame h.plan list alone) → EachImage (AreStored h.plan 0 list) h.disks.spool_after → HasResultOfAlone h list
has-result h list same stored = record {
  same = same;
  texts = λ alone texts run held. IfSome_then h.disks.spool_after.seen stored (λ bytes each image left.
      let says = same alone run in (
        has-texts h.plan list alone image texts says.ends_of_one (each image left) held,
        has-texts h.plan alone list texts image says.ends_of_another held (each image left),
      ));
}

pub same-result : (h : Handed) (found list : List Event) → HasLaw h → GoesOn h.plan h.readings (opening found) list → Finished h.plan h.readings list
    → (IfSome h.disks.spool_before.seen (AreStored h.plan 0 found) → EachImage (AreStored h.plan 0 list) h.disks.spool_after) → found ≡ [] → Steady h.plan h.readings → HasResultOfAlone h list
same-result h found list law going finished stored none steady =
    let whole : IsWhole h.plan h.readings list = whole-list h.plan h.readings list (subst (λ (l : List Event). GoesOn h.plan h.readings (opening l) list) none going) finished in
    let held : IfSome h.disks.spool_before.seen (AreStored h.plan 0 found) = if_some-any h.disks.spool_before.seen (λ bytes. subst (λ (l : List Event). AreStored h.plan 0 l bytes) (sym none) (none-stored h.plan 0 bytes)) in
    has-result h list (λ alone run. law list alone steady whole run) (stored held)
