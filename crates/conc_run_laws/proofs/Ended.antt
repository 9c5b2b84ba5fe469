-- What the end of a run leaves.
use Rattle.std.proofs.Common.{◌≡◌, inl, inr, ℕ, zero, suc, ◌+◌, ◌-◌, ◌<◌, ◌≤◌, ◌++◌, ◌∷◌, [], List, length, drop, Option, None, Some, IfSome, IsTrue, is_some, ◌∙◌, ap, subst, arith}
use Rattle.std.specs.Prelude.{min, slice_get}
use Rattle.std.specs.Option.{option_map}
use Rattle.std.proofs.lemmas.List.{length-drop, length-take}
use Rattle.conc_types.specs.declared.event.Event.{Event}
use Rattle.conc_types.specs.declared.event.Event.TheVariants as event
use Rattle.conc_types.specs.declared.event.Extent.{Extent}
use Rattle.conc_types.specs.declared.event.Outcome.{Outcome}
use Rattle.conc_types.specs.declared.event.RequestId.{RequestId}
use Rattle.conc_types.specs.declared.plan.Plan.{Plan}
use Rattle.conc_types.specs.declared.plan.Req.{Req}
use Rattle.conc_types.specs.declared.program.Program.{Program}
use Rattle.conc_types.specs.declared.table.Table.{Table}
use Rattle.conc_types.specs.Tables.{table_named}
use Rattle.conc_journal.specs.Opens.{events_of}
use Rattle.conc_base_law.specs.Alone.{report_of}
use Rattle.conc_base_law.specs.Plans.{program_of}
use Rattle.conc_base_law.specs.Report.{report, Report}
use Rattle.conc_base_law.proofs.AloneLawful.{report-good}
use Rattle.conc_base_law.proofs.Options.{and_then-some, map-some}
use Rattle.conc_base_law.proofs.Prefixes.{is_lawful_so_far-prefix}
use Rattle.conc_run.specs.Whole.{HasLeft, HasNow}
use Rattle.conc_run.proofs.Next.{left-good}
use Rattle.conc_run_state.specs.Handed.{Handed}
use Rattle.conc_run_state.specs.Judging.{EndWithin}
use Rattle.conc_run_state.specs.Lists.{IsPrefix}
use Rattle.conc_run_state.specs.Stored.{AreStored, IsStored}
use Rattle.conc_run_state.specs.Survival.{Survives}
use Rattle.conc_run_laws.specs.Next.{IsFitEnd, CrashesAtEnd}

-- ---- where the texts are stored each extent ends within the spool

-- a report has a text
report-long : (plan : Plan) (r : Req) (made : Report) → report_of plan r ≡ Some made → 0 < length made.text
unfolding report_of
report-long plan r made is =
    let f : Program → Option Report = λ program. option_map (report program.job r.argument) (table_named plan.setup plan.tables program.job.table) in
    let p : (program : Program) × (program_of plan r ≡ Some program) × (f program ≡ Some made) = and_then-some f (program_of plan r) made is in
    let q : (table : Table) × (table_named plan.setup plan.tables p.0.job.table ≡ Some table) × (report p.0.job r.argument table ≡ made) =
    map-some (report p.0.job r.argument) (table_named plan.setup plan.tables p.0.job.table) made p.2 in
    subst (λ (x : Report). 0 < length x.text) q.2 (report-good p.0.job r.argument q.0).some

stored-within : (plan : Plan) (bytes : List ℕ) (id : RequestId) (o : Outcome) (x : Extent) → IsStored plan bytes id o x → x.offset + x.length ≤ length bytes
stored-within plan bytes id o x is =
    let some = report-long plan is.report.ended is.report.made is.report.report in
    let text : length is.report.made.text ≡ min x.length (length bytes - x.offset) = ap length is.text ∙ length-take x.length (drop x.offset bytes) ∙ ap (λ (n : ℕ). min x.length n) (length-drop x.offset bytes) in
    let same = is.report.same_length in
    grind (arith, some, text, same)

-- an event of a beginning stands in the whole list too
prefix-there : (front rest : List Event) (i : ℕ) (e : Event) → slice_get front i ≡ Some e → slice_get (front ++ rest) i ≡ Some e
prefix-there [] rest i e is = cc is
prefix-there (x ∷ xs) rest zero e is = is
prefix-there (x ∷ xs) rest (suc i) e is = prefix-there xs rest i e is

all-within : (plan : Plan) (front list : List Event) (bytes : List ℕ) → IsPrefix front list → AreStored plan 0 list bytes → EndWithin (length bytes) front
all-within plan front list bytes begins stored i id o x there =
    let is : slice_get list i ≡ Some (event.Ended id o (Some x)) = ap (λ (l : List Event). slice_get l i) begins.1 ∙ prefix-there front begins.0 i (event.Ended id o (Some x)) there in
    stored-within plan bytes id o x (stored i id o x (omega arith) is)

-- ---- the end

-- what holds where something is there holds of it
held : {X : Type 0} (o : Option X) (P : Type 0) → IsTrue (is_some o) → IfSome o (λ x. P) → P
held (Some x) P is holds = holds
held None P is holds = cc is

now-fit : (h : Handed) (found acknowledged last : List Event) (image texts : List ℕ) → HasNow h found acknowledged last → CrashesAtEnd h found image texts → IsFitEnd h acknowledged image texts
now-fit h found acknowledged last image texts now end =
    let survives = held h.disks.journal_after.seen ((i : List ℕ) → h.disks.journal_after.may_leave i → Survives h.plan h.digests acknowledged last i) end.journal_exposes now.journal image end.journal in
    let stored = held h.disks.spool_after.seen ((t : List ℕ) → h.disks.spool_after.may_leave t → AreStored h.plan 0 last t) end.spool_exposes (now.stored 0 end.stored) texts end.spool in
    let within = all-within h.plan (events_of image) last texts survives.within stored in
    let both = left-good h.plan h.digests acknowledged last image (length texts) (is_lawful_so_far-prefix h.plan) now.so_far survives within in
    inr (record { own = both.0; good = both.1 }, survives.begins)

pub end-fit : (threads : ℕ) (h : Handed) (found acknowledged last : List Event) (image texts : List ℕ) → HasLeft threads h found acknowledged last → CrashesAtEnd h found image texts → IsFitEnd h acknowledged image texts
end-fit threads h found acknowledged last image texts left end = elim left.now [
  | inl untouched ↦ inl untouched
  | inr now ↦ now-fit h found acknowledged last image texts now end
]
