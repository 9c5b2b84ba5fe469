-- What is read of a history.
use Rattle.std.proofs.Common.{◌≡◌, refl, sym, ◌∙◌, ap, subst, ◌+◌, ℕ, List, drop, length}
use Rattle.std.specs.Prelude.{Option, None, Some}
use Rattle.conc_history_lines.specs.declared.history.Lines.{Lines}
use Rattle.conc_history_lines.specs.History.{history_in, whole_lines}
use Rattle.conc_types.specs.declared.error.ReadFail.{ReadFail}
use Rattle.conc_show_model.specs.declared.fail.ChartRefusal.{ChartRefusal}
use Rattle.conc_show_model.specs.declared.model.Row.{Row}
use Rattle.conc_show_model.specs.Judging.{events_fault}
use Rattle.conc_show_model.specs.Reading.{events_of, first_places, history_fault, lines_of, rows_of, table_of}
use Rattle.conc_show_model.specs.Rows.{rows_from, table_fault_of}
use Rattle.conc_show_model.specs.Whys.{IsFailure}
use Rattle.conc_show_model.proofs.Judged.{none_from}

fault_is : (history : List ℕ) → (lines_of history).bad ≡ None → table_fault_of (length (events_of history) + 2) (table_of history) ≡ None
    → history_fault history ≡ events_fault (rows_of history) (events_of history)
fault_is history b t = rw (b, t) refl

-- the events are refused, behind lines and a table that are fine
pub events_failure : (history places table : List ℕ) (lines : Lines) (rows : List Row) (count : ℕ) (e : ReadFail ChartRefusal) → places ≡ first_places → lines ≡ history_in places history
    → ((x : ℕ) → lines.bad ≡ Some x → ⊥) → table ≡ drop lines.next history → count ≡ length lines.events → table_fault_of (count + 2) table ≡ None → rows ≡ rows_from 0 (whole_lines table)
    → IsFailure (events_fault rows lines.events) e → IsFailure (history_fault history) e
events_failure history places table lines rows count e p l good t n fine r h =
    let is : lines ≡ lines_of history = l ∙ ap (λ (q : List ℕ). history_in q history) p in
    let bad : (lines_of history).bad ≡ None = ap (λ (x : Lines). x.bad) (sym is) ∙ none_from lines.bad good in
    let behind : table ≡ table_of history = t ∙ ap (λ (x : Lines). drop x.next history) is in
    let many : count ≡ length (events_of history) = n ∙ ap (λ (x : Lines). length x.events) is in
    let tabled : table_fault_of (length (events_of history) + 2) (table_of history) ≡ None =
    ap (λ (k : ℕ). table_fault_of (k + 2) (table_of history)) (sym many) ∙ (ap (table_fault_of (count + 2)) (sym behind) ∙ fine) in
    let rows_are : rows ≡ rows_of history = r ∙ ap (λ (x : List ℕ). rows_from 0 (whole_lines x)) behind in
    let same : events_fault rows lines.events ≡ history_fault history =
    ap (λ (x : List Row). events_fault x lines.events) rows_are ∙ (ap (λ (x : Lines). events_fault (rows_of history) x.events) is ∙ sym (fault_is history bad tabled)) in
    subst (λ (o : Option ChartRefusal). IsFailure o e) same h
