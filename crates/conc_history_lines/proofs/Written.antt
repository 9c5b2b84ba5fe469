-- A text that is read without a bad line is the text of its events, as far as the table.
use Rattle.std.proofs.Common.{◌≡◌, refl, sym, ◌∙◌, ap, ◌+◌, ℕ, true, false, ◌==◌, cond, List, [], ◌∷◌, ◌++◌, length, drop, append_assoc, arith}
use Rattle.std.specs.Prelude.{codes, Option, None, Some, unwrap_or}
use Rattle.std.proofs.lemmas.Bool.{eqb-true}
use Rattle.std.proofs.lemmas.Slice.Eq.{bytes_eq-Decides}
use Rattle.conc_types.specs.declared.event.Event.{Event}
use Rattle.conc_types.specs.declared.plan.Plan.{Plan}
use Rattle.conc_base_law.specs.Text.{event_words, events_text, spaced}
use Rattle.conc_history_lines.specs.EventLines.{event_of_line}
use Rattle.conc_history_lines.specs.History.{bad_from, events_in, history_in, is_last, offset_after, onto_first, whole_lines}
use Rattle.conc_history_lines.specs.Places.{starts_of}
use Rattle.conc_history_lines.proofs.Reading.{bad_more, events_more, none_last, offset_last, offset_more}
use Rattle.conc_history_lines.proofs.Spelled.{line_spelled}
use Rattle.conc_history_lines.proofs.WholeTexts.{table_at, text_length, length_more, length_none, line_then}

-- ---- the first line

-- a text by its first line
record Begins (bytes line : List ℕ) (lines : List (List ℕ)) : Type 0 where
  rest : List ℕ
  all : bytes ≡ line ++ (10 ∷ rest)
  later : whole_lines rest ≡ lines

begins_more : (x : ℕ) (bytes line : List ℕ) (lines found : List (List ℕ)) → ((l : List ℕ) (ls : List (List ℕ)) → found ≡ l ∷ ls → Begins bytes l ls)
    → onto_first x found ≡ line ∷ lines → Begins (x ∷ bytes) line lines
begins_more x bytes line lines [] more h = cc
begins_more x bytes line lines (l ∷ ls) more h =
    let b = more l ls refl in
    let first : x ∷ l ≡ line = cc in
    let others : ls ≡ lines = cc in
    record { rest = b.rest; all = ap (λ (bs : List ℕ). x ∷ bs) b.all ∙ ap (λ (bs : List ℕ). bs ++ (10 ∷ b.rest)) first; later = b.later ∙ others }

begins : (bytes line : List ℕ) (lines : List (List ℕ)) → whole_lines bytes ≡ line ∷ lines → Begins bytes line lines
begins [] line lines h = cc
begins (x ∷ bytes) line lines h =
    elim (x == 10) as (λ b. (x == 10) ≡ b → cond b ([] ∷ whole_lines bytes) (onto_first x (whole_lines bytes)) ≡ line ∷ lines → Begins (x ∷ bytes) line lines) [
      | true ↦ (λ e k.
          let first : [] ≡ line = cc in
          let others : whole_lines bytes ≡ lines = cc in
          record { rest = bytes; all = ap (λ (y : ℕ). y ∷ bytes) (eqb-true x 10 e) ∙ ap (λ (bs : List ℕ). bs ++ (10 ∷ bytes)) first; later = others })
      | false ↦ (λ e k. begins_more x bytes line lines (whole_lines bytes) (λ l ls h. begins bytes l ls h) k)
    ] refl h

-- ---- all lines

-- what stands in a text before and behind the line that ends its events
record IsWritten (plan : Plan) (bytes : List ℕ) (events : List Event) (offset : ℕ) (after : Option ℕ) : Type 0 where
  rest : List ℕ
  all : bytes ≡ events_text plan events ++ (45 ∷ 45 ∷ 10 ∷ rest)
  next : after ≡ Some (offset + text_length plan events + 3)

last_events : (starts line : List ℕ) (lines : List (List ℕ)) → is_last line ≡ true → events_in starts (line ∷ lines) ≡ []
unfolding events_in
last_events starts line lines h = rw h refl

bad_none : (starts line : List ℕ) (lines : List (List ℕ)) (n : ℕ) → is_last line ≡ false → event_of_line starts line ≡ None → bad_from starts n (line ∷ lines) ≡ Some n
unfolding bad_from
bad_none starts line lines n h e = rw (h, e) refl

no_text : (plan : Plan) → events_text plan [] ≡ []
unfolding events_text
no_text plan = refl

more_text : (plan : Plan) (e : Event) (events : List Event) (tail : List ℕ) → events_text plan (e ∷ events) ++ tail ≡ spaced (event_words plan e) ++ (10 ∷ (events_text plan events ++ tail))
unfolding events_text
more_text plan e events tail = line_then (spaced (event_words plan e)) (events_text plan events) tail

written_last : (plan : Plan) (bytes line : List ℕ) (lines : List (List ℕ)) (offset : ℕ) → Begins bytes line lines → is_last line ≡ true
    → IsWritten plan bytes (events_in (starts_of plan) (line ∷ lines)) offset (offset_after offset (line ∷ lines))
written_last plan bytes line lines offset b h =
    let text : line ≡ codes "--" = (bytes_eq-Decides line (codes "--")).0 h in
    let long : length line ≡ 2 = ap length text in
    let none = length_none plan in
    rw (last_events (starts_of plan) line lines h) (record {
      rest = b.rest;
      all = b.all ∙ (ap (λ (l : List ℕ). l ++ (10 ∷ b.rest)) text ∙ sym (ap (λ (l : List ℕ). l ++ (45 ∷ 45 ∷ 10 ∷ b.rest)) (no_text plan)));
      next = offset_last offset (offset + text_length plan [] + 3) line lines h (omega arith);
    })

written_more : (plan : Plan) (bytes line : List ℕ) (lines : List (List ℕ)) (offset : ℕ) (e : Event) (b : Begins bytes line lines) → event_of_line (starts_of plan) line ≡ Some e
    → IsWritten plan b.rest (events_in (starts_of plan) lines) (offset + (length line + 1)) (offset_after (offset + (length line + 1)) lines)
    → IsWritten plan bytes (events_in (starts_of plan) (line ∷ lines)) offset (offset_after offset (line ∷ lines))
written_more plan bytes line lines offset e b h w =
    let events = events_in (starts_of plan) lines in
    let text : line ≡ spaced (event_words plan e) = line_spelled plan line e h in
    let same : length line ≡ length (spaced (event_words plan e)) = ap length text in
    let long = length_more plan e events in
    rw (events_more (starts_of plan) line lines e h) (record {
      rest = w.rest;
      all =
          b.all ∙ (ap (λ (l : List ℕ). l ++ (10 ∷ b.rest)) text ∙ (ap (λ (r : List ℕ). spaced (event_words plan e) ++ (10 ∷ r)) w.all
          ∙ sym (more_text plan e events (45 ∷ 45 ∷ 10 ∷ w.rest))));
      next =
          offset_more offset (offset + (length line + 1)) line lines (none_last (starts_of plan) line e h) refl
          ∙ (w.next ∙ ap (λ (m : ℕ). Some m) (omega arith));
    })

written : (plan : Plan) (lines : List (List ℕ)) (bytes : List ℕ) (n offset : ℕ) → whole_lines bytes ≡ lines → bad_from (starts_of plan) n lines ≡ None
    → IsWritten plan bytes (events_in (starts_of plan) lines) offset (offset_after offset lines)
unfolding bad_from
written plan [] bytes n offset h none = cc
written plan (line ∷ lines) bytes n offset h none =
    let b = begins bytes line lines h in
    elim (is_last line) as (λ t. is_last line ≡ t → IsWritten plan bytes (events_in (starts_of plan) (line ∷ lines)) offset (offset_after offset (line ∷ lines))) [
      | true ↦ (λ last. written_last plan bytes line lines offset b last)
      | false ↦ (λ go_on.
          elim (event_of_line (starts_of plan) line)
          as (λ o. event_of_line (starts_of plan) line ≡ o → IsWritten plan bytes (events_in (starts_of plan) (line ∷ lines)) offset (offset_after offset (line ∷ lines))) [
            | None ↦ (λ e. let bad = bad_none (starts_of plan) line lines n go_on e in absurd cc)
            | Some d ↦ (λ e.
                let later : bad_from (starts_of plan) (n + 1) lines ≡ None = sym (bad_more (starts_of plan) line lines n d e) ∙ none in
                written_more plan bytes line lines offset d b e (written plan lines b.rest (n + 1) (offset + (length line + 1)) b.later later))
          ] refl)
    ] refl

pub text_spelled : (plan : Plan) (bytes : List ℕ) → (history_in (starts_of plan) bytes).bad ≡ None
    → bytes ≡ events_text plan (history_in (starts_of plan) bytes).events ++ codes "--\n" ++ drop (history_in (starts_of plan) bytes).next bytes
unfolding history_in
text_spelled plan bytes h =
    let lines = whole_lines bytes in
    let events = events_in (starts_of plan) lines in
    let w = written plan lines bytes 1 0 refl h in
    let next : unwrap_or (offset_after 0 lines) (length bytes) ≡ 0 + text_length plan events + 3 = ap (λ (o : Option ℕ). unwrap_or o (length bytes)) w.next in
    let rest : drop (unwrap_or (offset_after 0 lines) (length bytes)) bytes ≡ w.rest =
    ap (λ (n : ℕ). drop n bytes) next ∙ (ap (drop (0 + text_length plan events + 3)) w.all ∙ table_at plan events w.rest) in
    w.all ∙ (sym (append_assoc (events_text plan events) (codes "--\n") w.rest) ∙ ap (λ (r : List ℕ). events_text plan events ++ codes "--\n" ++ r) (sym rest))
