-- What a run that was cut short says of its teller.
use Rattle.std.proofs.Common.{◌≢◌, inl, inr, ⊎_elim, ℕ, Bool, List, Some, IsTrue}
use Rattle.conc_types.specs.declared.event.Event.{Event}
use Rattle.conc_base_law.specs.Alone.{opening}
use Rattle.conc_run_state.specs.Handed.{Handed}
use Rattle.conc_run_state.specs.Lists.{IsPrefix}
use Rattle.conc_run_state.specs.declared.error.HistoryFail.{HistoryFail}
use Rattle.conc_run_steps.specs.Told.{IsUntold}
use Rattle.conc_run.specs.Telling.{LacksTelling}
use Rattle.conc_run.specs.Whole.{IsCutShort, LacksMemoryThere, LacksToTell, WasNotTold}
use Rattle.conc_run.proofs.Lists.{prefix-acknowledged}

-- of the lists of a run, where the one holds the other does
abbrev pub Wider : (List Event → List Event → Type 0) → (List Event → List Event → Type 0) → Type 0
Wider one another = (found list : List Event) → IsPrefix (opening found) list → one found list → another found list

there-wider : (threads : ℕ) (one another : List Event → List Event → Type 0) (h : Handed) (found list : List Event) → Wider one another → LacksMemoryThere threads one h found list → LacksMemoryThere threads another h found list
there-wider threads one another h found list wider there = record {
  begins = there.begins;
  alone = λ none. ⊎_elim (λ untold. inl (wider found list there.begins untold)) (λ lacks. inr lacks) (there.alone none);
  beside = λ some. ⊎_elim (λ untold. inl (wider found list there.begins untold)) (λ lacks. inr lacks) (there.beside some);
}

-- a run that was cut short where the one may be was so where the other may be
pub cut-wider : (threads : ℕ) (one another : List Event → List Event → Type 0) (h : Handed) (e : HistoryFail) → Wider one another
    → IsCutShort threads one h e → IsCutShort threads another h e
cut-wider threads one another h e wider cut = record {
  cause = cut.cause;
  untouched = cut.untouched;
  found = cut.found;
  acknowledged = cut.acknowledged;
  last = cut.last;
  left = cut.left;
  whole = cut.whole;
  memory = λ lacks. ⊎_elim (λ is. inl is) (λ there. inr (there-wider threads one another h cut.found cut.acknowledged wider there)) (cut.memory lacks);
}

-- a teller that was told all but the last event has the events found
not-told : (found list told : List Event) → IsPrefix (opening found) list → IsUntold (Some told) list → WasNotTold found list
not-told found list told begins untold = record {
  told = told;
  begins = prefix-acknowledged found told list begins (inr untold);
  event = untold.0;
  list_is = untold.1;
}

-- A run is cut short as one with so many watchers is, if its teller has a list, and finds no memory only where there are some.
pub cut-telling : (threads watchers : ℕ) (may_lack : Bool) (told : List Event) (h : Handed) (e : HistoryFail) → (IsTrue may_lack → watchers ≢ 0) → IsCutShort threads (LacksTelling may_lack (Some told)) h e
    → IsCutShort threads (LacksToTell watchers) h e
cut-telling threads watchers may_lack told h e some cut =
    cut-wider threads (LacksTelling may_lack (Some told)) (LacksToTell watchers) h e
    (λ found list begins lacks. (some lacks.0, not-told found list told begins lacks.1)) cut
