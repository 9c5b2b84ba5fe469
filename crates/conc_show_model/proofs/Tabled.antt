-- What is read of a table, line by line.
use Rattle.std.proofs.Common.{◌≡◌, refl, sym, ◌∙◌, ap, ◌≤◌, ◌+◌, ℕ, Bool, true, false, List, [], ◌∷◌, ◌++◌, append_assoc, length, arith}
use Rattle.std.specs.Prelude.{Option, None, Some}
use Rattle.std.proofs.lemmas.Bool.{eq-eqb, eqb-false, eqb-true, ne_eqb}
use Rattle.std.proofs.lemmas.List.{append-nil, length_push}
use Rattle.std.proofs.lemmas.List.Sums.{sum_by-cons}
use Rattle.conc_history_lines.specs.History.{whole_lines}
use Rattle.conc_show_model.specs.declared.model.Row.{Row}
use Rattle.conc_show_model.specs.Rows.{bytes_of_lines, is_whole, row_above, rows_from, table_fault, table_fault_of, watch_fault}

-- some lines are read, of which these are the rows; the rest is left, and this is the number of the last row
pub record IsRead (text : List ℕ) (first : ℕ) (rest : List ℕ) (rows : List Row) (last : ℕ) : Type 0 where
  pub list : rows_from 0 (whole_lines text) ≡ rows ++ rows_from last (whole_lines rest)
  pub fault : table_fault (is_whole text) 0 first (whole_lines text) ≡ table_fault (is_whole text) last (first + length rows) (whole_lines rest)
  pub bytes : bytes_of_lines (whole_lines text) + length rest ≡ length text + bytes_of_lines (whole_lines rest)
  pub shorter : length rows + length rest ≤ length text

pub read_none : (text : List ℕ) (first : ℕ) (rows : List Row) → rows ≡ [] → IsRead text first text rows 0
read_none text first rows e = rw e (record {
  list = refl;
  fault = ap (λ (n : ℕ). table_fault (is_whole text) 0 n (whole_lines text)) (omega arith);
  bytes = omega arith;
  shorter = omega arith;
})

rows_more : (last : ℕ) (line : List ℕ) (lines : List (List ℕ)) (row : Row) → row_above last line ≡ Some row → rows_from last (line ∷ lines) ≡ row ∷ rows_from row.request.number lines
unfolding rows_from
rows_more last line lines row h = rw h refl

fault_more : (whole : Bool) (last n : ℕ) (line : List ℕ) (lines : List (List ℕ)) (row : Row) → row_above last line ≡ Some row
    → table_fault whole last n (line ∷ lines) ≡ table_fault whole row.request.number (n + 1) lines
unfolding table_fault
fault_more whole last n line lines row h = rw h refl

-- one more line is read
pub read_more : (text rest line after : List ℕ) (first last : ℕ) (rows more : List Row) (row : Row) → IsRead text first rest rows last
    → whole_lines rest ≡ line ∷ whole_lines after → length rest ≡ length line + 1 + length after → row_above last line ≡ Some row → more ≡ rows ++ row ∷ []
    → IsRead text first after more row.request.number
read_more text rest line after first last rows more row r lines long is m =
    let many : length more ≡ length rows + 1 = ap length m ∙ length_push rows row in
    let number : first + length rows + 1 ≡ first + length more = omega (arith, many) in
    let sum : bytes_of_lines (whole_lines rest) ≡ length line + 1 + bytes_of_lines (whole_lines after) = ap bytes_of_lines lines ∙ sum_by-cons (λ (l : List ℕ). length l + 1) line (whole_lines after) in
    let before = r.bytes in
    let short = r.shorter in
    record {
      list =
          r.list ∙ (ap (λ (x : List Row). rows ++ x) (ap (rows_from last) lines ∙ rows_more last line (whole_lines after) row is)
          ∙ (sym (append_assoc rows (row ∷ []) (rows_from row.request.number (whole_lines after))) ∙ ap (λ (x : List Row). x ++ rows_from row.request.number (whole_lines after)) (sym m)));
      fault =
          r.fault ∙ (ap (table_fault (is_whole text) last (first + length rows)) lines ∙ (fault_more (is_whole text) last (first + length rows) line (whole_lines after) row is
          ∙ ap (λ (n : ℕ). table_fault (is_whole text) row.request.number n (whole_lines after)) number));
      bytes = omega arith;
      shorter = omega arith;
    }

-- the text that is left begins with no line of the table
pub IsStopped : ℕ → List (List ℕ) → Type 0
IsStopped last [] = Unit {0}
IsStopped last (line ∷ lines) = row_above last line ≡ None

pub stopped_at : (last : ℕ) (rest line : List ℕ) (after : List (List ℕ)) → whole_lines rest ≡ line ∷ after → row_above last line ≡ None → IsStopped last (whole_lines rest)
unfolding IsStopped
stopped_at last rest line after lines h = rw lines h

pub stopped_end : (last : ℕ) (rest : List ℕ) → whole_lines rest ≡ [] → IsStopped last (whole_lines rest)
unfolding IsStopped
stopped_end last rest lines = rw lines tt

stopped_rows : (last : ℕ) (lines : List (List ℕ)) → IsStopped last lines → rows_from last lines ≡ []
unfolding rows_from IsStopped
stopped_rows last [] h = refl
stopped_rows last (line ∷ lines) h = rw h refl

stopped_fault : (whole : Bool) (last n : ℕ) (lines : List (List ℕ)) → IsStopped last lines → table_fault whole last n lines ≡ watch_fault whole n lines
unfolding table_fault IsStopped
stopped_fault whole last n [] h = refl
stopped_fault whole last n (line ∷ lines) h = rw h refl

pub read_rows : (text rest : List ℕ) (first last : ℕ) (rows : List Row) → IsRead text first rest rows last → IsStopped last (whole_lines rest) → rows ≡ rows_from 0 (whole_lines text)
read_rows text rest first last rows r stop = sym (r.list ∙ (ap (λ (x : List Row). rows ++ x) (stopped_rows last (whole_lines rest) stop) ∙ append-nil rows))

-- the rest is whole where the text is
pub whole_rest : (text rest : List ℕ) → bytes_of_lines (whole_lines text) + length rest ≡ length text + bytes_of_lines (whole_lines rest) → is_whole rest ≡ is_whole text
whole_rest text rest e = by (is_whole text) refl where
  by : (b : Bool) → is_whole text ≡ b → is_whole rest ≡ b
  by true k = let h : bytes_of_lines (whole_lines text) ≡ length text = eqb-true _ _ k in eq-eqb (bytes_of_lines (whole_lines rest)) (length rest) (omega arith)
  by false k = ne_eqb (bytes_of_lines (whole_lines rest)) (length rest) (λ m. eqb-false _ _ k (omega arith))

pub read_fault : (text rest : List ℕ) (first last n : ℕ) (rows : List Row) (fault : Option ℕ) → IsRead text first rest rows last → IsStopped last (whole_lines rest)
    → n ≡ first + length rows → fault ≡ watch_fault (is_whole rest) n (whole_lines rest) → table_fault_of first text ≡ fault
read_fault text rest first last n rows fault r stop number f =
    r.fault ∙ (stopped_fault (is_whole text) last (first + length rows) (whole_lines rest) stop
    ∙ (ap (λ (b : Bool). watch_fault b (first + length rows) (whole_lines rest)) (sym (whole_rest text rest r.bytes)) ∙ (ap (λ (k : ℕ). watch_fault (is_whole rest) k (whole_lines rest)) (sym number) ∙ sym f)))
