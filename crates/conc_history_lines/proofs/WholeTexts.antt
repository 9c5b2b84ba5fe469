-- The events of a history are read back from its text.
use Rattle.std.proofs.Common.{◌≡◌, refl, sym, ◌∙◌, ap, ◌+◌, ℕ, true, List, [], ◌∷◌, ◌++◌, length, drop, map, reverse, append_assoc, arith}
use Rattle.std.specs.Prelude.{codes, Option, None, Some, unwrap_or}
use Rattle.std.specs.List.{concat, list_all}
use Rattle.std.proofs.lemmas.Bool.{and_parts}
use Rattle.std.proofs.lemmas.List.{length-append}
use Rattle.std.proofs.Math.Seq.{drop-append_seam}
use Rattle.conc_types.specs.declared.event.Event.{Event}
use Rattle.conc_types.specs.declared.plan.Plan.{Plan}
use Rattle.conc_base_law.specs.Text.{event_words, events_text, line_of, spaced, table_text, text_of}
use Rattle.conc_history_lines.specs.History.{bad_from, events_in, history_in, offset_after, whole_lines}
use Rattle.conc_history_lines.specs.Lines.{has_line}
use Rattle.conc_history_lines.specs.Places.{starts_of}
use Rattle.conc_history_lines.specs.ReadBack.{IsReadBack}
use Rattle.conc_history_lines.proofs.Clean.{no_feed}
use Rattle.conc_history_lines.proofs.ReadBack.{clean_words, line_back}
use Rattle.conc_history_lines.proofs.Reading.{bad_more, events_more, none_last, offset_last, offset_more}
use Rattle.conc_history_lines.proofs.WholeLines.{lines_before}

-- ---- the lines of a text

-- the line of an event, without its LF
abbrev line : Plan → Event → List ℕ
line plan e = spaced (event_words plan e)

-- the lines of the text of these events before the line that ends them
abbrev lines_then : Plan → List Event → List ℕ → List (List ℕ)
lines_then plan history rest = map (line plan) history ++ codes "--" ∷ whole_lines rest

pub line_then : (words more : List ℕ) (tail : List ℕ) → (words ++ codes "\n" ++ more) ++ tail ≡ words ++ (10 ∷ (more ++ tail))
line_then words more tail = append_assoc (words ++ codes "\n") more tail ∙ append_assoc words (codes "\n") (more ++ tail)

text_lines : (plan : Plan) (history : List Event) (rest : List ℕ) → list_all (has_line plan) history ≡ true
    → whole_lines (events_text plan history ++ (45 ∷ 45 ∷ 10 ∷ rest)) ≡ lines_then plan history rest
unfolding events_text
text_lines plan [] rest h = refl
text_lines plan (e ∷ history) rest h =
    let p = and_parts (has_line plan e) (list_all (has_line plan) history) h in
    let more = concat (map (λ d. line_of (event_words plan d)) history) in
    ap whole_lines (line_then (line plan e) more (45 ∷ 45 ∷ 10 ∷ rest))
    ∙ (lines_before (line plan e) (more ++ (45 ∷ 45 ∷ 10 ∷ rest)) (no_feed (event_words plan e) (clean_words plan e p.0))
    ∙ ap (λ (lines : List (List ℕ)). line plan e ∷ lines) (text_lines plan history rest p.1))

-- ---- what is read of them

then_events : (plan : Plan) (history : List Event) (rest : List ℕ) → list_all (has_line plan) history ≡ true → events_in (starts_of plan) (lines_then plan history rest) ≡ history
unfolding events_in
then_events plan [] rest h = refl
then_events plan (e ∷ history) rest h =
    let p = and_parts (has_line plan e) (list_all (has_line plan) history) h in
    events_more (starts_of plan) (line plan e) (lines_then plan history rest) e (line_back plan e p.0) ∙ ap (λ (es : List Event). e ∷ es) (then_events plan history rest p.1)

then_bad : (plan : Plan) (history : List Event) (rest : List ℕ) (n : ℕ) → list_all (has_line plan) history ≡ true → bad_from (starts_of plan) n (lines_then plan history rest) ≡ None
unfolding bad_from
then_bad plan [] rest n h = refl
then_bad plan (e ∷ history) rest n h =
    let p = and_parts (has_line plan e) (list_all (has_line plan) history) h in
    bad_more (starts_of plan) (line plan e) (lines_then plan history rest) n e (line_back plan e p.0) ∙ then_bad plan history rest (n + 1) p.1

-- how many bytes the lines of these events take
pub text_length : Plan → List Event → ℕ
text_length plan history = length (events_text plan history)

pub length_more : (plan : Plan) (e : Event) (history : List Event) → text_length plan (e ∷ history) ≡ length (line plan e) + 1 + text_length plan history
unfolding text_length events_text
length_more plan e history =
    length-append (line_of (event_words plan e)) (concat (map (λ d. line_of (event_words plan d)) history))
    ∙ ap (λ (n : ℕ). n + text_length plan history) (length-append (line plan e) (codes "\n"))

pub length_none : (plan : Plan) → text_length plan [] ≡ 0
unfolding text_length events_text
length_none plan = refl

then_offset : (plan : Plan) (history : List Event) (rest : List ℕ) (n : ℕ) → list_all (has_line plan) history ≡ true
    → offset_after n (lines_then plan history rest) ≡ Some (n + text_length plan history + 3)
then_offset plan [] rest n h =
    let none = length_none plan in
    offset_last n (n + text_length plan [] + 3) (codes "--") (whole_lines rest) refl (omega arith)
then_offset plan (e ∷ history) rest n h =
    let p = and_parts (has_line plan e) (list_all (has_line plan) history) h in
    let long = length_more plan e history in
    offset_more n (n + (length (line plan e) + 1)) (line plan e) (lines_then plan history rest) (none_last (starts_of plan) (line plan e) e (line_back plan e p.0)) refl
    ∙ (then_offset plan history rest (n + (length (line plan e) + 1)) p.1 ∙ ap (λ (m : ℕ). Some m) (omega arith))

-- ---- the whole text

-- the text is that of the events, the line that ends them, and the table
parts_of : (plan : Plan) (history : List Event) → text_of plan history ≡ events_text plan history ++ (45 ∷ 45 ∷ 10 ∷ table_text plan (reverse history))
unfolding text_of
parts_of plan history = append_assoc (events_text plan history) (codes "--\n") (table_text plan (reverse history))

pub table_at : (plan : Plan) (history : List Event) (rest : List ℕ) → drop (0 + text_length plan history + 3) (events_text plan history ++ (45 ∷ 45 ∷ 10 ∷ rest)) ≡ rest
unfolding text_length
table_at plan history rest =
    let front = events_text plan history ++ codes "--\n" in
    let long = length-append (events_text plan history) (codes "--\n") in
    let size : 0 + length (events_text plan history) + 3 ≡ length front = omega arith in
    ap (drop (0 + length (events_text plan history) + 3)) (sym (append_assoc (events_text plan history) (codes "--\n") rest))
    ∙ (ap (λ (n : ℕ). drop n (front ++ rest)) size ∙ drop-append_seam front rest)

pub text_back : (plan : Plan) (history : List Event) → list_all (has_line plan) history ≡ true → IsReadBack plan history
unfolding history_in
text_back plan history h =
    let rest = table_text plan (reverse history) in
    let text = events_text plan history ++ (45 ∷ 45 ∷ 10 ∷ rest) in
    let lines : whole_lines (text_of plan history) ≡ lines_then plan history rest = ap whole_lines (parts_of plan history) ∙ text_lines plan history rest h in
    let offset : offset_after 0 (whole_lines (text_of plan history)) ≡ Some (0 + text_length plan history + 3) = ap (offset_after 0) lines ∙ then_offset plan history rest 0 h in
    record {
      events = ap (events_in (starts_of plan)) lines ∙ then_events plan history rest h;
      bad = ap (bad_from (starts_of plan) 1) lines ∙ then_bad plan history rest 1 h;
      table =
          ap (λ (o : Option ℕ). drop (unwrap_or o (length (text_of plan history))) (text_of plan history)) offset
          ∙ (ap (drop (0 + text_length plan history + 3)) (parts_of plan history) ∙ table_at plan history rest);
    }
