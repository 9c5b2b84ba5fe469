-- The text of the pending end.
use Rattle.std.proofs.Common.{◌≡◌, ℕ, zero, suc, ◌≤◌, List, [], ◌∷◌, ◌++◌, length, Option, None, Some, refl, sym, ◌∙◌, le_refl, arith}
use Rattle.std.specs.Prelude.{slice_get}
use Rattle.std.proofs.lemmas.Option.{IfSome_then}
use Rattle.conc_types.specs.declared.event.Event.{Event}
use Rattle.conc_types.specs.declared.event.Event.TheVariants as event
use Rattle.conc_types.specs.declared.plan.Plan.{Plan}
use Rattle.conc_base_law.specs.Law.{LawfulSoFar}
use Rattle.conc_disk.specs.Disk.{DiskState}
use Rattle.conc_disk.specs.Left.{EachImage}
use Rattle.conc_disk.proofs.Leaving.{if_some-any}
use Rattle.conc_run_choice.specs.Choices.{HasItsText}
use Rattle.conc_run_state.specs.Stored.{AreStored}
use Rattle.conc_types.specs.declared.script.Reading.{Reading}
use Rattle.conc_journal_spool.specs.Spools.{IsOn as SpoolIsOn}
use Rattle.conc_run_state.specs.Works.{AreTied, HasPendingText, list_in}
use Rattle.conc_run_state.specs.declared.work.Work.{Work}
use Rattle.conc_run_steps.specs.Steps.{any_disk, StoresOn}
use Rattle.conc_run_steps.proofs.Extents.{last-at}

behind : (list : List Event) (i : ℕ) → length list ≤ i → slice_get list i ≡ None
behind [] i le = refl
behind (e ∷ list) zero le = absurd (omega (arith, le))
behind (e ∷ list) (suc i) le = behind list i (omega (arith, le))

last : (list : List Event) (e : Event) → slice_get (list ++ e ∷ []) (length list) ≡ Some e
last [] e = refl
last (first ∷ list) e = last list e

-- no end stands behind the last event
none-behind : (plan : Plan) (list : List Event) (bytes : List ℕ) → AreStored plan (length list) list bytes
none-behind plan list bytes = λ i id o x le is.
    let never : None ≡ Some (event.Ended id o (Some x)) = sym (behind list i le) ∙ is in
    absurd (cc)

text-of : (plan : Plan) (list : List Event) (e : Event) (text : Option (List ℕ)) (spool : DiskState) → HasItsText plan e text → LawfulSoFar plan (list ++ e ∷ [])
    → EachImage (AreStored plan (length list) (list ++ e ∷ [])) spool → HasPendingText plan list spool (Some e)
text-of plan list (event.Ended id o (Some x)) text spool its past each = record {
  reported = its.0;
  next = last-at plan list id o x past;
  stored = IfSome_then spool.seen each (λ bytes here image left. here image left (length list) id o x (le_refl (length list)) (last list (event.Ended id o (Some x))));
}
text-of plan list e text spool its past each = tt

-- where the disk holds the texts of the ends that it held, and that of the event, this is the pending one
pub text-pending : (plan : Plan) (n : ℕ) (list : List Event) (e : Event) (text : Option (List ℕ)) (spool spool' : DiskState) → HasItsText plan e text → LawfulSoFar plan (list ++ e ∷ [])
    → StoresOn plan n list (list ++ e ∷ []) spool spool' → HasPendingText plan list spool' (Some e)
text-pending plan n list e text spool spool' its past stores =
    text-of plan list e text spool' its past (stores.stored (length list) (if_some-any spool.seen (λ bytes image left. none-behind plan list image)))

-- ---- a pending end, where nothing is said of the disk

text-without : (plan : Plan) (list : List Event) (spool : DiskState) (pending : Option Event) → HasPendingText plan list spool pending → HasPendingText plan list any_disk pending
text-without plan list spool None text = tt
text-without plan list spool (Some (event.Ended id o (Some x))) text = record { reported = text.reported; next = text.next; stored = tt }
text-without plan list spool (Some (event.Ended id o None)) text = tt
text-without plan list spool (Some (event.Tick t)) text = tt
text-without plan list spool (Some (event.Command n)) text = tt
text-without plan list spool (Some (event.OpenSet q)) text = tt
text-without plan list spool (Some (event.Stage q k)) text = tt
text-without plan list spool (Some (event.CloseSet q o)) text = tt
text-without plan list spool (Some (event.LetOut q)) text = tt
text-without plan list spool (Some (event.Started q u)) text = tt
text-without plan list spool (Some event.Resume) text = tt
text-without plan list spool (Some (event.Interrupt q)) text = tt

-- ---- a tie, and the disk of the spool

-- what is tied where nothing is said of the spool's disk is tied where the spool is on and the pending end has its text
pub tied-with : (plan : Plan) (readings : List Reading) (pending : Option Event) (work : Work) (journal spool : DiskState) → AreTied plan readings pending work journal any_disk
    → SpoolIsOn work.spool spool → HasPendingText plan (list_in work) spool pending → AreTied plan readings pending work journal spool
tied-with plan readings pending work journal spool tied on text = record {
  plan_is = tied.plan_is;
  readings_are = tied.readings_are;
  stands = tied.stands;
  lawful = tied.lawful;
  takes = tied.takes;
  used_is = tied.used_is;
  pending_text = text;
  journal_on = tied.journal_on;
  spool_on = on;
}

-- what is tied where the spool is on is tied where nothing is said of its disk
pub tied-without : (plan : Plan) (readings : List Reading) (pending : Option Event) (work : Work) (journal spool : DiskState) → AreTied plan readings pending work journal spool
    → AreTied plan readings pending work journal any_disk
tied-without plan readings pending work journal spool tied = record {
  plan_is = tied.plan_is;
  readings_are = tied.readings_are;
  stands = tied.stands;
  lawful = tied.lawful;
  takes = tied.takes;
  used_is = tied.used_is;
  pending_text = text-without plan (list_in work) spool pending tied.pending_text;
  journal_on = tied.journal_on;
  spool_on = tt;
}
